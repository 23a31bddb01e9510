use Rattle.std.proofs.Common.{◌≡◌, drop}
use Rattle.sq_meaning.specs.Expression.{first_scale}
use Rattle.sq_expression.proofs.set_function.first_scale.Given as goal

-- no number has come so far
abbrev pub invariant-loop-value : goal.invariant-loop-value
invariant-loop-value l = first_scale l.values ≡ first_scale (drop l.value-index l.values)
