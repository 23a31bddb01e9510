use Rattle.std.proofs.Common.{◌≡◌, ◌∷◌, map, take}
use Rattle.sq_meaning.specs.Script.{argument_value}
use Rattle.sq_perform.proofs.items.listed_values.Given as goal

abbrev pub invariant-loop-argument : goal.invariant-loop-argument
invariant-loop-argument l = l.values ≡ map argument_value (l.arguments.first ∷ take l.argument-index l.rest)
