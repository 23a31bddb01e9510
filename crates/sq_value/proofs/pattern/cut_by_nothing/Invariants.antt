use Rattle.std.proofs.Common.{◌≡◌, ℕ, ◌<◌, false, get_or}
use Rattle.sq_value.proofs.pattern.cut_by_nothing.Given as goal

abbrev pub invariant-loop-cut : goal.invariant-loop-cut
invariant-loop-cut l = (k : ℕ) → k < l.cut-index → get_or l.cuts k false ≡ false
