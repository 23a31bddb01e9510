use Rattle.std.proofs.Common.{◌≡◌, length}
use Rattle.sq_heap.specs.Index.{keys_of}
use Rattle.sq_heap.proofs.table.HeapTable.renew_all.Given as goal

abbrev pub invariant-loop-key : goal.invariant-loop-key
invariant-loop-key l = record {
  slots : l.self.slots ≡ l.initial.self.slots;
  undo : l.self.undo ≡ l.initial.self.undo;
  keys : keys_of l.self.indexes.items ≡ keys_of l.initial.self.indexes.items;
  count : length l.self.indexes.items ≡ length l.initial.self.indexes.items;
}
