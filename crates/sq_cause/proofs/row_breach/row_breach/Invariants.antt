use Rattle.sq_cause.specs.Breach.{LackNoneBefore}
use Rattle.sq_cause.proofs.row_breach.row_breach.Given as goal

abbrev pub invariant-loop-place : goal.invariant-loop-place
invariant-loop-place g l = LackNoneBefore l.table l.changes l.place
