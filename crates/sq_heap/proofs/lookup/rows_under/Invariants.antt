use Rattle.std.proofs.Common.{◌≡◌, ◌++◌, drop}
use Rattle.sq_store.specs.Found.{numbered_in}
use Rattle.sq_heap.specs.Lookup.{rows_under}
use Rattle.sq_heap.proofs.lookup.rows_under.Given as goal

-- the rows so far, and then those in the slots that are left
abbrev pub invariant-loop-at : goal.invariant-loop-at
invariant-loop-at l = numbered_in l.rows ++ rows_under l.slots (drop l.at-index l.places) ≡ rows_under l.slots l.places
