use Rattle.std.proofs.Common.{◌≡◌}
use Rattle.sq_session.proofs.OpenCursors.Closed.{closed_below}
use Rattle.sq_session.proofs.cursors.close_all.Given as goal

abbrev pub invariant-loop-cursor : goal.invariant-loop-cursor
invariant-loop-cursor l = l.cursors ≡ closed_below l.cursor-index l.initial.cursors
