use Rattle.std.proofs.Common.{◌≡◌, ◌∷◌, map, take}
use Rattle.sq_module.proofs.declared.list_bare.Given as goal

abbrev pub invariant-loop-bare : goal.invariant-loop-bare
invariant-loop-bare l = l.list ≡ l.first ∷ map (λ d. d.declaration) (take l.bare-index l.rest)
