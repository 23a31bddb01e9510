use Rattle.std.proofs.Common.{◌≡◌, take, true}
use Rattle.sq_heap.specs.Index.{is_in, slots_hold}
use Rattle.sq_heap.proofs.indexes.enter_slots.Given as goal

abbrev pub invariant-loop-at : goal.invariant-loop-at
invariant-loop-at l = record {
  columns : l.index.columns ≡ l.initial.index.columns;
  entered : slots_hold (is_in l.index) 0 (take l.at l.slots) ≡ true;
}
