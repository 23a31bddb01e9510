-- How many rows each block of slots has.
use Rattle.std.specs.Prelude.{ℕ, ◌+◌, ◌/◌, nat_eq, if◌then◌else◌, List, [], ◌∷◌, Some, None}
use Rattle.sq_heap.specs.Slots.{Slot}
use Rattle.sq_heap.specs.declared.slots.TheConstants.{BLOCK}

-- how many rows a slot has
abbrev pub rows_of : Slot → ℕ
rows_of None = 0
rows_of (Some row) = 1

-- how many rows of a block
abbrev pub row_in : ℕ → ℕ → Slot → ℕ
row_in block at None = 0
row_in block at (Some row) = if nat_eq (at / BLOCK) block then 1 else 0

-- how many all of them have, where the first slot is at a place
abbrev pub rows_in : ℕ → ℕ → List Slot → ℕ
rows_in block at [] = 0
rows_in block at (s ∷ slots) = row_in block at s + rows_in block (at + 1) slots
