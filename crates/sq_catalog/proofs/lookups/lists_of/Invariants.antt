use Rattle.std.proofs.Common.{◌≡◌, map, take}
use Rattle.sq_catalog.proofs.lookups.lists_of.Given as goal

abbrev pub invariant-loop-reference : goal.invariant-loop-reference
invariant-loop-reference l = map (λ columns. columns.items) l.lists.items ≡ map (λ reference. reference.by_key) (take l.reference-index l.references)
