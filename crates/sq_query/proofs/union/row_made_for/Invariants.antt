use Rattle.std.proofs.Common.{◌≡◌, length, drop, map}
use Rattle.std.specs.List.{zip}
use Rattle.sq_meaning.specs.QueryExpression.{row_brought_to}
use Rattle.sq_meaning.specs.Status.{each}
use Rattle.sq_bound.specs.WellFormed.{kinds_of_results}
use Rattle.sq_expression.proofs.Each.{after}
use Rattle.sq_query.specs.Union.{IsBringable}
use Rattle.sq_query.proofs.ByUnion.Unions.{pair_brought, of_kind}
use Rattle.sq_query.proofs.union.row_made_for.Given as goal

abbrev pub invariant-loop-column : goal.invariant-loop-column
invariant-loop-column l = record {
  can_next : (goal.iterator-loop-column).can_next l.column-iterator;
  is_finite : (goal.iterator-loop-column).is_finite l.column-iterator;
  brought : IsBringable (kinds_of_results l.columns) l.fn.row → row_brought_to (kinds_of_results l.columns) l.fn.row ≡ after l.brought (each pair_brought (map of_kind (drop (length l.yielded) (zip l.columns l.fn.row))));
}
