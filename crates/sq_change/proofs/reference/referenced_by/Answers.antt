-- Left open: the call of push_referenced, the clause list, and the loop's invariant; answered by Applied and Referred.
use Rattle.std.proofs.Common.{length, arith}
use Rattle.std.proofs.lemmas.Grind.{common_steps}
use Rattle.sq_change.proofs.Changes.Applied.{row_wide}
use Rattle.sq_change.proofs.Constraints.Referred.{all_put_referred, no_row_referred, row_referred}
use Rattle.sq_change.proofs.reference.referenced_by.Goals as goal
use Rattle.sq_change.proofs.reference.referenced_by.Goals.{in-Some+in_ok-push_referenced, in_default}

pub push_referenced-requires-clause-wide : goal.push_referenced-requires-clause-wide
push_referenced-requires-clause-wide g c =
    row_wide (length c.args.table.now.columns) c.args.changes.now c.loop-change.change-index c.change-item.result c.in-Some.row.now c.requires.wide (omega arith) c.change-item.is c.in-Some.ensures

pub loop-change-preserved : goal.loop-change-preserved
loop-change-preserved g c =
    let references = c.args.table.now.references in
    let changes = c.args.changes.now in
    let done = c.loop-change.referenced in
    let i = c.loop-change.change-index in
    elim c.match-row_put.branch [
      | in-Some+in_ok-push_referenced w ↦ record {
        known = grind (arith, common_steps);
        list =
            row_referred references changes done i c.change-item.result c.loop-change-test.true c.change-item.is c.loop-change.invariant.list c.match-row_put.referenced
            w.push_referenced.new.referenced w.in-Some.row.now w.in-Some.ensures w.referenced-is w.in_ok-push_referenced.ensures.list;
      }
      | in_default w ↦ record {
        known = grind (arith, common_steps);
        list =
            no_row_referred references changes done i c.change-item.result c.loop-change-test.true c.change-item.is c.loop-change.invariant.list c.match-row_put.referenced
            w.in_default.ensures w.referenced-is;
      }
    ]

pub returns-clause-list : goal.returns-clause-list
returns-clause-list g c =
    all_put_referred c.args.table.now.references c.args.changes.now c.loop-change.referenced.items c.loop-change.change-index c.loop-change-test.false c.loop-change.invariant.list
