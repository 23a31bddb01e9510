-- Columns that may not be null (ISO/IEC 9075:1992, 11.4), by a list that says of each column whether NOT NULL is written for it.
use Rattle.std.specs.Prelude.{ℕ, zero, suc, Bool, false, List, [], ◌∷◌}
use Rattle.std.specs.List.{list_all}

-- NOT NULL is written for the column at a position
abbrev pub is_not_null : List Bool → ℕ → Bool
is_not_null [] n = false
is_not_null (written ∷ columns) zero = written
is_not_null (written ∷ columns) (suc n) = is_not_null columns n

-- NOT NULL is written for each of these columns
abbrev pub are_not_null : List Bool → List ℕ → Bool
are_not_null columns key = list_all (is_not_null columns) key
