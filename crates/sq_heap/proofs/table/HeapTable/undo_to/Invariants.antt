use Rattle.std.proofs.Common.{◌≡◌, drop, length, take}
use Rattle.sq_heap.specs.Undo.{back}
use Rattle.sq_heap.proofs.table.HeapTable.undo_to.Given as goal

abbrev pub invariant-loop-self : goal.invariant-loop-self
invariant-loop-self l = record {
  slots : back l.self.slots.list.items (drop l.from l.self.undo.items) ≡ back l.initial.self.slots.list.items (drop l.from l.initial.self.undo.items);
  indexes : l.self.indexes ≡ l.initial.self.indexes;
  undo : take l.from l.self.undo.items ≡ take l.from l.initial.self.undo.items;
}

abbrev pub decreases-loop-self : goal.decreases-loop-self
decreases-loop-self l = length l.self.undo.items
