-- Left open for grouping_of: its result; answered by Specified.
use Rattle.std.proofs.Common.{map, sym, ◌∙◌}
use Rattle.sq_bound.specs.Expression.{place_meant}
use Rattle.sq_binding.specs.Seen.{call_of}
use Rattle.sq_binding.specs.Select.{groups_by}
use Rattle.sq_binding.proofs.Standing.SeenLevels.{grouping_seen-roll}
use Rattle.sq_binder.specs.Specification.{clause_seen, is_grouped}
use Rattle.sq_binder.proofs.Clauses.Specified.{grouped_by}
use Rattle.sq_binder.proofs.specification.grouping_of.Goals as goal

pub returns : goal.returns
returns c =
    let by = c.args.columns in
    let having = c.args.having in
    let functions = c.args.set_functions in
    grouping_seen-roll by functions having
    ∙ sym (grouped_by (map place_meant by) (clause_seen having) (map call_of functions)
    ((λ i. is_grouped (groups_by (map place_meant (sym c.as_slice.ensures i)) (clause_seen having) (map call_of (sym c.as_slice-2.ensures i)))) ∙ sym c.is_grouped.ensures ∙ c.if-not-is_grouped.false))
