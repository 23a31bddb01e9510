use Rattle.std.proofs.Common.{◌≡◌, ◌++◌, length}
use Rattle.sq_suite.specs.Lines.{joined}
use Rattle.sq_suite.proofs.lines.lines.Given as goal

abbrev pub invariant-loop-rest : goal.invariant-loop-rest
invariant-loop-rest l = joined l.lines.items ++ l.rest ≡ l.text

abbrev pub decreases-loop-rest : goal.decreases-loop-rest
decreases-loop-rest l = length l.rest
