use Rattle.std.proofs.Common.{◌≡◌, ◌≤◌, ◌+◌, ℕ, List, drop, length, true}
use Rattle.sq_value.specs.declared.value.Value.{Value}
use Rattle.sq_heap.specs.Entered.{changes_hold}
use Rattle.sq_heap.specs.Index.{Test, in_all, keys_of}
use Rattle.sq_heap.proofs.indexes.enter_changes.Given as goal

-- the entries there are those of the changes so far, also where there are more of them
abbrev pub invariant-loop-change : goal.invariant-loop-change
invariant-loop-change l = record {
  keys : keys_of l.indexes.items ≡ keys_of l.initial.indexes.items;
  keeps : (r : List Value) (at : ℕ) → in_all l.initial.indexes.items r at ≡ true → in_all l.indexes.items r at ≡ true;
  entered : (test : Test) → ((r : List Value) (at : ℕ) → in_all l.indexes.items r at ≡ true → test r at ≡ true)
      → changes_hold test l.next (drop l.change-index l.changes) ≡ true → changes_hold test (length l.slots.list.items) l.changes ≡ true;
  bound : l.next ≤ length l.slots.list.items + l.change-index;
}
