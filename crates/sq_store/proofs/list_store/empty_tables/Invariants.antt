use Rattle.std.proofs.Common.{◌≡◌, ◌≤◌, ◌-◌, vec_len}
use Rattle.sq_store.specs.Content.{no_rows}
use Rattle.sq_store.proofs.list_store.empty_tables.Given as goal

abbrev pub invariant-loop-alloc : goal.invariant-loop-alloc
invariant-loop-alloc l = record {
  within : vec_len l.tables ≤ l.count;
  made : l.tables.items ≡ no_rows (vec_len l.tables);
}

abbrev pub decreases-loop-alloc : goal.decreases-loop-alloc
decreases-loop-alloc l = l.count - vec_len l.tables
