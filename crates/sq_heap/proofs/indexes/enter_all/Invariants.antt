use Rattle.std.proofs.Common.{◌≡◌, ℕ, List, length, take, true}
use Rattle.sq_value.specs.declared.value.Value.{Value}
use Rattle.sq_heap.specs.Index.{in_all, keys_of}
use Rattle.sq_heap.proofs.indexes.enter_all.Given as goal

abbrev pub invariant-loop-place : goal.invariant-loop-place
invariant-loop-place l = record {
  keys : keys_of l.indexes.items ≡ keys_of l.initial.indexes.items;
  keeps : (r : List Value) (at : ℕ) → in_all l.initial.indexes.items r at ≡ true → in_all l.indexes.items r at ≡ true;
  entered : in_all (take l.place l.indexes.items) l.row l.at ≡ true;
  tables : length l.indexes.items ≡ length l.initial.indexes.items;
}
