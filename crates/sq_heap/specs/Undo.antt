-- What undoes changes of slots: for each change the slot, and the row that was there. A slot without a row there was new.
use Rattle.std.specs.Prelude.{◌≡◌, ℕ, ◌+◌, Bool, true, ◌&&◌, nat_eq, nat_lt, List, [], ◌∷◌, ◌++◌, Some, None, slice_set, take}
use Rattle.sq_heap.specs.Slots.{Slot}
use Rattle.sq_heap.specs.declared.undo.Undo.{Undo}

-- the slots before a change
abbrev pub before_change : List Slot → ℕ → Slot → List Slot
before_change slots at None = take at slots
before_change slots at (Some row) = slice_set slots at (Some row)

-- the slots before all changes, the last of which is undone first
abbrev pub back : List Slot → List Undo → List Slot
back slots [] = slots
back slots (u ∷ undo) = before_change (back slots undo) u.at u.old

-- how many slots there were
abbrev pub length_before : ℕ → ℕ → Slot → ℕ
length_before count at None = at
length_before count at (Some row) = count

abbrev pub length_back : ℕ → List Undo → ℕ
length_back count [] = count
length_back count (u ∷ undo) = length_before (length_back count undo) u.at u.old

-- a new slot is the last one, another one is there
abbrev pub is_last_or_in : ℕ → ℕ → Slot → Bool
is_last_or_in count at None = nat_eq (at + 1) count
is_last_or_in count at (Some row) = nat_lt at count

-- each change was one of the slots that there were after it
abbrev pub fits : ℕ → List Undo → Bool
fits count [] = true
fits count (u ∷ undo) = is_last_or_in (length_back count undo) u.at u.old && fits count undo

-- some slots and undo lists come of others by changes that can be undone
pub record GoesBack (slots : List Slot) (undo : List Undo) (later : List Slot)
    (later_undo : List Undo) : Type 0 where
  pub made : List Undo
  pub grown : later_undo ≡ undo ++ made
  pub undone : back later made ≡ slots
