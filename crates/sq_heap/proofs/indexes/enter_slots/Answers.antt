-- Left open for enter_slots: that the loop keeps its invariant; answered by Holds.
use Rattle.std.proofs.Common.{◌∙◌, arith, take}
use Rattle.sq_heap.specs.Index.{is_in}
use Rattle.sq_heap.proofs.Holds.{holds_more, slots_give}
use Rattle.sq_heap.proofs.indexes.enter_slots.Goals as goal

pub loop-at-preserved : goal.loop-at-preserved
loop-at-preserved c =
    let x = c.loop-at.index in
    let y = c.enter_slot.new.index in
    let ss = c.args.slots.now in
    let i = c.loop-at.at in
    record {
      columns = c.enter_slot.ensures.columns ∙ c.loop-at.invariant.columns;
      entered = holds_more (is_in y) 0 ss i c.index-slots-at.result i (omega arith) c.loop-at-test.true c.index-slots-at.is
          (slots_give (is_in x) (is_in y) c.enter_slot.ensures.keeps 0 (take i ss) c.loop-at.invariant.entered) c.in_ok-enter_slot.ensures.entered;
    }
