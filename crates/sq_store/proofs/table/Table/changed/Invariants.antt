use Rattle.std.proofs.Common.{◌≡◌, ◌≤◌, ◌+◌, length, true}
use Rattle.sq_store.specs.Content.{changed_by}
use Rattle.sq_store.specs.Rising.{has_rising_rows}
use Rattle.sq_store.proofs.table.Table.changed.Given as goal

abbrev pub invariant-loop-change : goal.invariant-loop-change
invariant-loop-change l = record {
  can : (goal.iterator-loop-change).can_next l.change-iterator;
  ends : (goal.iterator-loop-change).is_finite l.change-iterator;
  so_far : l.table ≡ changed_by l.initial.table l.yielded;
  next : l.table.next ≤ l.initial.table.next + length l.yielded;
  rising : has_rising_rows l.table ≡ true;
}
