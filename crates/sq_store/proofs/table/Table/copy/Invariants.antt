use Rattle.std.proofs.Common.{◌≡◌, take}
use Rattle.sq_store.proofs.table.Table.copy.Given as goal

abbrev pub invariant-loop-row : goal.invariant-loop-row
invariant-loop-row l = l.rows ≡ take l.row-index l.row-items
