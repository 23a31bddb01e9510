use Rattle.std.proofs.Common.{◌≡◌, take}
use Rattle.sq_value.proofs.key.Key.new.Given as goal

abbrev pub invariant-loop-value : goal.invariant-loop-value
invariant-loop-value l = l.parts.items ≡ take l.value-index l.values
