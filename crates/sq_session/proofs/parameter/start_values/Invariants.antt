use Rattle.std.proofs.Common.{length}
use Rattle.sq_session.proofs.Parameters.Started.{IsStarted}
use Rattle.sq_session.proofs.parameter.start_values.Given as goal

abbrev pub invariant-loop-parameter : goal.invariant-loop-parameter
invariant-loop-parameter l = IsStarted l.parameters l.values (length l.yielded) l.started.items
