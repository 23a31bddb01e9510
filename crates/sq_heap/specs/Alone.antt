-- Whether changed rows share a key with another row.
use Rattle.std.specs.Prelude.{ℕ, ◌+◌, Bool, true, false, ◌&&◌, ◌||◌, not, nat_eq, List, [], ◌∷◌, Some, None}
use Rattle.std.specs.List.{list_all}
use Rattle.std.specs.Cmp.Lexicographic.{pointwise}
use Rattle.sq_value.specs.Comparison.{is_same}
use Rattle.sq_value.specs.Key.{in_columns}
use Rattle.sq_value.specs.declared.value.Value.{Value}
use Rattle.sq_store.specs.Keys.{has_columns}
use Rattle.sq_heap.specs.Slots.{Slot, slot_at}
use Rattle.sq_heap.specs.declared.undo.Undo.{Undo}

-- two rows have the same key
abbrev pub same_key : List ℕ → List Value → List Value → Bool
same_key columns row other = pointwise is_same (in_columns row columns) (in_columns other columns)

-- no slot but one has a row with the key of this row
abbrev pub is_alone : List ℕ → List Value → ℕ → ℕ → List Slot → Bool
is_alone columns row at place [] = true
is_alone columns row at place (None ∷ slots) = is_alone columns row at (place + 1) slots
is_alone columns row at place (Some other ∷ slots) =
    (nat_eq place at || not (same_key columns row other)) && is_alone columns row at (place + 1) slots

-- a row has the key of the row that was in its slot before
abbrev pub keeps_key : List ℕ → Slot → List Value → Bool
keeps_key columns None row = false
keeps_key columns (Some old) row = same_key columns row old

-- a changed slot has no row, or one with the key from before, or one that shares its key with no other
abbrev pub slot_alone : List ℕ → List Slot → ℕ → Slot → Slot → Bool
slot_alone columns slots at old None = true
slot_alone columns slots at old (Some row) = keeps_key columns old row || is_alone columns row at 0 slots

-- all changed slots are so
abbrev pub all_alone : List ℕ → List Slot → List Undo → Bool
all_alone columns slots undo = list_all (λ u. slot_alone columns slots u.at u.old (slot_at slots u.at)) undo

-- the row of a slot has the columns of a key
abbrev pub slot_has : List ℕ → Slot → Bool
slot_has columns None = true
slot_has columns (Some row) = has_columns columns row

abbrev pub slots_have : List ℕ → List Slot → Bool
slots_have columns slots = list_all (slot_has columns) slots
