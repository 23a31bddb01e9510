-- Left open for enter_undo: that the loop keeps its invariant; answered by Holds.
use Rattle.std.proofs.Common.{◌∙◌, take}
use Rattle.sq_heap.specs.Index.{is_in}
use Rattle.sq_heap.proofs.Holds.{undo_gives, undo_more}
use Rattle.sq_heap.proofs.indexes.enter_undo.Goals as goal

pub loop-change-preserved : goal.loop-change-preserved
loop-change-preserved c =
    let x = c.loop-change.index in
    let y = c.enter_slot.new.index in
    let us = c.args.undo.now in
    let i = c.loop-change.change-index in
    record {
      columns = c.enter_slot.ensures.columns ∙ c.loop-change.invariant.columns;
      keeps = λ row at h. c.enter_slot.ensures.keeps row at (c.loop-change.invariant.keeps row at h);
      entered = undo_more (is_in y) us i c.change-item.result c.loop-change-test.true c.change-item.is
          (undo_gives (is_in x) (is_in y) c.enter_slot.ensures.keeps (take i us) c.loop-change.invariant.entered) c.in_ok-enter_slot.ensures.entered;
    }
