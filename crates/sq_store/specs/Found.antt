-- Rows that a store finds by their values: which they are, with their numbers, and how it counts them.
use Rattle.std.specs.Prelude.{ℕ, ◌+◌, ◌-◌, ◌^◌, Bool, List, filter, length, map, min, Option, Some, None, Result, Ok, Err, Vec}
use Rattle.std.specs.Borrow.{Bor}
use Rattle.std.specs.List.{list_any}
use Rattle.std.specs.declared.alloc.Global.{Global}
use Rattle.sq_value.specs.declared.value.Value.{Value}
use Rattle.sq_store.specs.Keys.{has_key}
use Rattle.sq_store.specs.declared.table.Numbered.{Numbered}
use Rattle.sq_store.specs.declared.table.Table.{Table}

-- whether a row has one of several lists of values in some columns
abbrev pub has_one_of : List ℕ → List (List Value) → Numbered → Bool
has_one_of columns several r = list_any (λ values. has_key columns values r) several

-- the rows that have
abbrev pub with_one_of : Table → List ℕ → List (List Value) → List Numbered
with_one_of t columns several = filter (has_one_of columns several) t.rows

-- ---- as a store hands them out

abbrev pub numbered_row : ℕ × Bor (List Value) → Numbered
numbered_row found = record { number = found.0; row = found.1.now }

abbrev pub numbered_in : Vec (ℕ × Bor (List Value)) Global → List Numbered
numbered_in rows = map numbered_row rows.items

-- some rows more; the count stays at the greatest that 64 bits hold
abbrev pub counted_more : ℕ → ℕ → ℕ
counted_more more count = min (count + more) (2 ^ 64 - 1)

-- as many rows more as were found, if there is an answer
abbrev pub counted_found : {X E : Type 0} → Result (Option (Vec X Global)) E → ℕ → ℕ
counted_found (Ok (Some rows)) count = counted_more (length rows.items) count
counted_found (Ok None) count = count
counted_found (Err error) count = count
