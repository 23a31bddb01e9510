use Rattle.std.proofs.Common.{◌≡◌, length, true}
use Rattle.sq_heap.specs.Heap.{all_committed, all_keys, are_listed, are_within}
use Rattle.sq_heap.proofs.store.rollback_all.Given as goal

abbrev pub invariant-loop-table : goal.invariant-loop-table
invariant-loop-table l = record {
  committed : all_committed l.tables.items ≡ all_committed l.initial.tables.items;
  keys : all_keys l.tables.items ≡ all_keys l.initial.tables.items;
  tables : length l.tables.items ≡ length l.initial.tables.items;
  listed : are_listed l.listed.items 0 l.tables.items ≡ true;
  within : are_within (length l.tables.items) l.listed.items ≡ true;
}

abbrev pub decreases-loop-table : goal.decreases-loop-table
decreases-loop-table l = length l.listed.items
