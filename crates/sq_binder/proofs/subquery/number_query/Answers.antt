-- Left open for number_query: its result; answered by Subqueries.
use Rattle.std.proofs.Common.{Some, ap}
use Rattle.sq_binding.proofs.Standing.SeenLevels.{renumbered_seen}
use Rattle.sq_binder.specs.declared.found.Counts.{Counts}
use Rattle.sq_binder.proofs.Clauses.Subqueries.{numbered_is}
use Rattle.sq_binder.proofs.subquery.number_query.Goals as goal

pub returns : goal.returns
returns c =
    let query = c.args.query in
    let number = Some query.brought.next.subqueries in (
      numbered_is query _ c.of_subquery-brought.result c.in-Some.subqueries c.requires (renumbered_seen query.part number) c.of_subquery-brought.ensures.0 c.in-Some.ensures.1,
      ap (λ (n : Counts). n.functions) c.of_subquery-brought.ensures.1,
    )
