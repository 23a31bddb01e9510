-- Left open for index_of: the clause slots; answered by Holds.
use Rattle.sq_heap.specs.Index.{is_in}
use Rattle.sq_heap.proofs.Holds.{slots_give}
use Rattle.sq_heap.proofs.indexes.index_of.Goals as goal

pub returns-clause-slots : goal.returns-clause-slots
returns-clause-slots c =
    slots_give (is_in c.enter_slots.new.index) (is_in c.enter_undo.new.index) c.enter_undo.ensures.keeps 0 c.args.slots.now c.in_ok-enter_slots.ensures.entered
