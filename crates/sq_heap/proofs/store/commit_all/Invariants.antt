use Rattle.std.proofs.Common.{◌≡◌, length, true}
use Rattle.sq_heap.specs.Heap.{all_keys, all_now, are_listed, are_within}
use Rattle.sq_heap.proofs.store.commit_all.Given as goal

abbrev pub invariant-loop-table : goal.invariant-loop-table
invariant-loop-table l = record {
  now : all_now l.tables.items ≡ all_now l.initial.tables.items;
  keys : all_keys l.tables.items ≡ all_keys l.initial.tables.items;
  tables : length l.tables.items ≡ length l.initial.tables.items;
  listed : are_listed l.listed.items 0 l.tables.items ≡ true;
  within : are_within (length l.tables.items) l.listed.items ≡ true;
}

abbrev pub decreases-loop-table : goal.decreases-loop-table
decreases-loop-table l = length l.listed.items
