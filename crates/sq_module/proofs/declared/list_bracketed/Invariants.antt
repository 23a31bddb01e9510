use Rattle.std.proofs.Common.{◌≡◌, ◌∷◌, take}
use Rattle.sq_module.proofs.declared.list_bracketed.Given as goal

abbrev pub invariant-loop-declaration : goal.invariant-loop-declaration
invariant-loop-declaration l = l.list ≡ l.first ∷ take l.declaration-index l.rest
