use Rattle.sq_session.specs.Retrieved.{values_of}
use Rattle.sq_session.proofs.Parameters.Targets.{IsSoFar}
use Rattle.sq_session.proofs.target.assignments_of.Given as goal

abbrev pub invariant-loop-place : goal.invariant-loop-place
invariant-loop-place l = IsSoFar l.parameters l.targets (values_of l.row) l.place l.assignments
