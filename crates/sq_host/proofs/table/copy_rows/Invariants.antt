use Rattle.std.proofs.Common.{◌≡◌, ◌++◌, length}
use Rattle.sq_host.specs.Calls.{values_in}
use Rattle.sq_host.proofs.table.copy_rows.Given as goal

-- the copies, and the rows still to come, are all that were to come
abbrev pub invariant-loop-row : goal.invariant-loop-row
invariant-loop-row l = l.copies.items ++ values_in l.rows ≡ values_in l.fn.rows

-- the rows that are still to come
abbrev pub decreases-loop-row : goal.decreases-loop-row
decreases-loop-row l = length l.rows
