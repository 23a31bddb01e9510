use Rattle.std.proofs.Common.{◌≡◌, drop}
use Rattle.sq_value.specs.SetFunctions.{numbers}
use Rattle.sq_value.specs.private.SetFunctions.{first_scale}
use Rattle.sq_value.proofs.set_functions.first_scale.Given as goal

abbrev pub invariant-loop-value : goal.invariant-loop-value
invariant-loop-value l = first_scale (numbers l.values) ≡ first_scale (numbers (drop l.value-index l.values))
