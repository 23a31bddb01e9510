use Rattle.std.proofs.Common.{◌≡◌, ◌+◌, length}
use Rattle.sq_session.proofs.rows.TableRows.len.Given as goal

-- the rows counted, and those still to come, are all
abbrev pub invariant-loop-rows : goal.invariant-loop-rows
invariant-loop-rows g l = l.count + length l.rows ≡ length l.self

abbrev pub decreases-loop-rows : goal.decreases-loop-rows
decreases-loop-rows g l = length l.rows
