-- A table as slots: the row under a number stands in the slot one below the number, and a slot whose row is gone is empty.
use Rattle.std.specs.Prelude.{ℕ, ◌+◌, List, [], ◌∷◌, length, Option, Some, None, slice_index_or}
use Rattle.sq_value.specs.declared.value.Value.{Value}
use Rattle.sq_store.specs.declared.table.Numbered.{Numbered}
use Rattle.sq_store.specs.declared.table.Table.{Table}

abbrev pub Slot : Type 0
Slot = Option (List Value)

-- the rows, where the first slot is that of a number
abbrev pub rows_from : ℕ → List Slot → List Numbered
rows_from number [] = []
rows_from number (None ∷ slots) = rows_from (number + 1) slots
rows_from number (Some row ∷ slots) = record { number = number; row = row } ∷ rows_from (number + 1) slots

abbrev pub table_of : List Slot → Table
table_of slots = record { rows = rows_from 1 slots; next = length slots + 1 }

abbrev pub slot_at : List Slot → ℕ → Slot
slot_at slots at = slice_index_or slots at None
