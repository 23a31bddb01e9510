use Rattle.std.proofs.Common.{◌≡◌, [], length, take, true, vec_len}
use Rattle.sq_store.specs.Content.{no_rows}
use Rattle.sq_heap.specs.Heap.{all_committed, all_keys, all_now, are_listed, first_keys}
use Rattle.sq_heap.proofs.store.empty_tables.Given as goal

abbrev pub invariant-loop-table : goal.invariant-loop-table
invariant-loop-table l = record {
  count : vec_len l.tables ≡ l.table;
  long : length l.tables.items ≡ l.table;
  now : all_now l.tables.items ≡ no_rows (vec_len l.tables);
  committed : all_committed l.tables.items ≡ no_rows (vec_len l.tables);
  listed : are_listed [] 0 l.tables.items ≡ true;
  keys : first_keys (take l.table l.keys) (all_keys l.tables.items) ≡ take l.table l.keys;
}
