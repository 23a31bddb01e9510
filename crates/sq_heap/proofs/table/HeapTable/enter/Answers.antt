-- Left open for HeapTable::enter: the invariant of self; answered by Holds.
use Rattle.sq_heap.specs.Index.{in_all}
use Rattle.sq_heap.proofs.Holds.{slots_give, undo_gives}
use Rattle.sq_heap.proofs.table.HeapTable.enter.Goals as goal

pub invariant_of-self : goal.invariant_of-self
invariant_of-self c =
    let s = c.args.self.now in
    let P = in_all c.args.self.now.indexes.items in
    let Q = in_all c.enter_changes.new.indexes.items in
    record {
      undoable = s.undoable;
      entered = slots_give P Q c.enter_changes.ensures.keeps 0 s.slots.list.items s.entered;
      undo_entered = undo_gives P Q c.enter_changes.ensures.keeps s.undo.items s.undo_entered;
    }
