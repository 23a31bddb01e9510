use Rattle.std.proofs.Common.{◌≡◌, drop, length, map}
use Rattle.sq_meaning.specs.QueryExpression.{row_brought_to}
use Rattle.sq_meaning.specs.Status.{each}
use Rattle.sq_bound.specs.WellFormed.{kinds_of_results}
use Rattle.sq_expression.proofs.Each.{after}
use Rattle.sq_query.specs.Union.{AreBringable}
use Rattle.sq_query.proofs.union.with_brought.Given as goal

abbrev pub invariant-loop-row : goal.invariant-loop-row
invariant-loop-row l =
    let f = row_brought_to (kinds_of_results l.columns) in
    AreBringable (kinds_of_results l.columns) l.fn.others.items → after l.fn.rows.items (each f l.fn.others.items) ≡ after l.brought.items (each f (map (λ row. row) (drop (length l.yielded) l.fn.others.items)))
