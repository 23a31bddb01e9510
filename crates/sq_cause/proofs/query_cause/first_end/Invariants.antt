use Rattle.std.specs.Prelude.{⊤}
use Rattle.sq_cause.proofs.query_cause.first_end.Given as goal

abbrev pub invariant-loop-number : goal.invariant-loop-number
invariant-loop-number g l = ⊤
