use Rattle.std.proofs.Common.{◌≡◌, replicate}
use Rattle.sq_session.specs.declared.cursor.CursorState.TheVariants.{Closed}
use Rattle.sq_session.proofs.cursors.closed_cursors.Given as goal

abbrev pub invariant-loop : goal.invariant-loop
invariant-loop l = l.cursors.items ≡ replicate l.counter Closed
