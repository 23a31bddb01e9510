use Rattle.std.proofs.Common.{◌≡◌, ◌∷◌, [], map, take}
use Rattle.sq_value.specs.declared.value.Value.{Value}
use Rattle.sq_query.proofs.valued.each_alone.Given as goal

abbrev pub invariant-loop-value : goal.invariant-loop-value
invariant-loop-value l = l.several.items ≡ map (λ (v : Value). v ∷ []) (take l.value-index l.values)
