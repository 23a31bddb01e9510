-- Left open for make_specification: its result; answered by laws of sq_binding.
use Rattle.std.proofs.Common.{None, map, refl, ap, ◌∙◌, false}
use Rattle.sq_binding.specs.NumberedCondition.{NumberedSelect}
use Rattle.sq_binding.specs.Seen.{call_of, column_of, numbered_of}
use Rattle.sq_binding.proofs.Standing.SeenLevels.{select_seen-roll}
use Rattle.sq_binder.specs.Found.{query_findings_of, with_can_fail}
use Rattle.sq_binder.specs.Specification.{clause_seen}
use Rattle.sq_binder.proofs.specification.make_specification.Goals as goal

pub returns : goal.returns
returns c =
    let d = c.args.distinct in
    let part = c.args.parts.part in
    let list = part.1.1.1.0 in
    let brought = c.args.parts.brought in (
      (λ i. record {
        part = (select_seen-roll d list.exprs part.0.tables part.1.0 c.grouping_of-grouping.result list.columns c.can_fail-can_fail.result None
            ∙ (λ j. NumberedSelect.select d (map numbered_of list.exprs) part.0.tables.tables (clause_seen part.1.0) (c.grouping_of-grouping.ensures j) (map column_of list.columns) (c.can_fail-can_fail.ensures j) None)) i;
        calls = map call_of (c.new.ensures i);
        calls_can_fail = false;
        findings = (c.with_can_fail.ensures ∙ ap (λ b. with_can_fail b (query_findings_of brought.findings)) c.can_fail-can_fail.ensures) i;
        subqueries = brought.next.subqueries;
      }),
      refl,
    )
