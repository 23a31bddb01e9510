use Rattle.std.proofs.Common.{◌≡◌, ◌≤◌, ◌+◌, drop, length, true, vec_capacity, vec_len}
use Rattle.sq_store.specs.Content.{changed_by}
use Rattle.sq_heap.specs.Entered.{changes_hold}
use Rattle.sq_heap.specs.Index.{in_all}
use Rattle.sq_heap.specs.Slots.{table_of}
use Rattle.sq_heap.specs.Undo.{GoesBack}
use Rattle.sq_heap.proofs.table.HeapTable.make_all.Given as goal

abbrev pub invariant-loop-change : goal.invariant-loop-change
invariant-loop-change l = record {
  can : (goal.iterator-loop-change).can_next l.change-iterator;
  ends : (goal.iterator-loop-change).is_finite l.change-iterator;
  so_far : table_of l.self.slots.list.items ≡ changed_by (table_of l.initial.self.slots.list.items) l.yielded;
  rest : changes_hold (in_all l.self.indexes.items) (length l.self.slots.list.items) (drop (length l.yielded) l.fn.changes.items) ≡ true;
  indexes : l.self.indexes ≡ l.initial.self.indexes;
  back : GoesBack l.initial.self.slots.list.items l.initial.self.undo.items l.self.slots.list.items l.self.undo.items;
  slots : vec_len l.self.slots.list ≤ vec_len l.initial.self.slots.list + length l.yielded;
  undo : vec_len l.self.undo ≤ vec_len l.initial.self.undo + length l.yielded;
  slot_room : vec_capacity l.initial.self.slots.list ≤ vec_capacity l.self.slots.list;
  blocks : length l.initial.self.slots.counts.items ≤ length l.self.slots.counts.items;
  undo_room : vec_capacity l.initial.self.undo ≤ vec_capacity l.self.undo;
}
