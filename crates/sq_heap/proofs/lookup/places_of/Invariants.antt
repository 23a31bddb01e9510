use Rattle.std.proofs.Common.{◌≡◌, ◌++◌, drop}
use Rattle.sq_heap.specs.Lookup.{places_of}
use Rattle.sq_heap.proofs.lookup.places_of.Given as goal

-- the places so far, and then those of the lists that are left
abbrev pub invariant-loop-list : goal.invariant-loop-list
invariant-loop-list l = l.places.items ++ places_of l.index l.slots (drop l.list-index l.several) ≡ places_of l.index l.slots l.several
