use Rattle.std.proofs.Common.{◌≡◌, ◌∷◌, take}
use Rattle.sq_catalog.proofs.written.names_of.Given as goal

abbrev pub invariant-loop-name : goal.invariant-loop-name
invariant-loop-name l = l.names ≡ l.list.first ∷ take l.name-index l.name-items
