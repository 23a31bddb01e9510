use Rattle.sq_session.proofs.Parameters.Fitting.{FitSoFar}
use Rattle.sq_session.proofs.parameter.all_fit.Given as goal

abbrev pub invariant-loop-place : goal.invariant-loop-place
invariant-loop-place l = FitSoFar l.parameters l.values l.place
