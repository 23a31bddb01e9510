-- Whether changes that are to be made have their entries in indexes already.
use Rattle.std.specs.Prelude.{ℕ, ◌+◌, ◌-◌, Bool, true, ◌&&◌, List, [], ◌∷◌}
use Rattle.sq_store.specs.declared.change.Change.{Change}
use Rattle.sq_store.specs.declared.change.Change.TheVariants.{Insert, Replace, Remove}
use Rattle.sq_heap.specs.Index.{Test}

-- the test holds of the row that a change puts in, in its slot; a new row gets the slot `next`
abbrev pub change_holds : Test → ℕ → Change → Bool
change_holds test next (Insert row) = test row next
change_holds test next (Replace number row) = test row (number - 1)
change_holds test next (Remove number) = true

-- the slot that the next new row gets after a change
abbrev pub next_slot : ℕ → Change → ℕ
next_slot next (Insert row) = next + 1
next_slot next (Replace number row) = next
next_slot next (Remove number) = next

abbrev pub changes_hold : Test → ℕ → List Change → Bool
changes_hold test next [] = true
changes_hold test next (change ∷ changes) =
    change_holds test next change && changes_hold test (next_slot next change) changes
