use Rattle.std.proofs.Common.{◌≡◌, take}
use Rattle.sq_store.proofs.table.copy_tables.Given as goal

abbrev pub invariant-loop-table : goal.invariant-loop-table
invariant-loop-table l = l.copies ≡ take l.table-index l.tables
