-- Left open: the clause list, and that the loop keeps its invariant; answered by Referred.
use Rattle.std.proofs.Common.{◌∙◌, ap, arith}
use Rattle.std.proofs.lemmas.Grind.{common_steps}
use Rattle.sq_change.specs.Reference.{values_in}
use Rattle.sq_change.proofs.Constraints.Referred.{all_referred, none_referred, one_referred}
use Rattle.sq_change.proofs.reference.push_referenced.Goals as goal
use Rattle.sq_change.proofs.reference.push_referenced.Goals.{in-Some+in_ok-push, in_default}

pub loop-reference-preserved : goal.loop-reference-preserved
loop-reference-preserved g c =
    let references = c.args.table.now.references in
    let before = c.args.referenced.now.items in
    let done = c.loop-reference.referenced in
    let i = c.loop-reference.reference-index in
    let lt = rw c.as_slice-reference-items.ensures at c.loop-reference-test.true in
    let at = rw c.as_slice-reference-items.ensures at c.reference-item.is in
    elim c.match-branch-2.branch [
      | in-Some+in_ok-push w ↦ record {
        known = grind (arith, common_steps);
        list =
            one_referred c.args.row.now references before done i c.reference-item.result lt at c.loop-reference.invariant.list c.in_ok-values.field-0 (c.in_ok-values.ensures.values ∙ ap (values_in c.args.row.now) c.as_slice.ensures)
            c.match-branch-2.referenced w.push.new.self w.in-Some.values w.in-Some.is w.referenced-is w.in_ok-push.ensures.items;
      }
      | in_default w ↦ record {
        known = grind (arith, common_steps);
        list =
            none_referred c.args.row.now references before done i c.reference-item.result lt at c.loop-reference.invariant.list c.in_ok-values.field-0 (c.in_ok-values.ensures.values ∙ ap (values_in c.args.row.now) c.as_slice.ensures)
            c.match-branch-2.referenced w.in_default.is w.referenced-is;
      }
    ]

pub returns-clause-list : goal.returns-clause-list
returns-clause-list g c =
    all_referred c.args.row.now c.args.table.now.references c.args.referenced.now.items c.loop-reference.referenced.items c.loop-reference.reference-index
    (rw c.as_slice-reference-items.ensures at c.loop-reference-test.false) c.loop-reference.invariant.list
