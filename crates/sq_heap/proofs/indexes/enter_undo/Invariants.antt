use Rattle.std.proofs.Common.{◌≡◌, ℕ, List, take, true}
use Rattle.sq_value.specs.declared.value.Value.{Value}
use Rattle.sq_heap.specs.Index.{is_in, undo_holds}
use Rattle.sq_heap.proofs.indexes.enter_undo.Given as goal

abbrev pub invariant-loop-change : goal.invariant-loop-change
invariant-loop-change l = record {
  columns : l.index.columns ≡ l.initial.index.columns;
  keeps : (row : List Value) (at : ℕ) → is_in l.initial.index row at ≡ true → is_in l.index row at ≡ true;
  entered : undo_holds (is_in l.index) (take l.change-index l.undo) ≡ true;
}
