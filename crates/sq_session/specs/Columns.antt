-- The values of a row that are shown: all of them, or those in some columns.
use Rattle.std.specs.Prelude.{ℕ, Bool, true, List, length, Option, None, Some}
use Rattle.std.specs.Borrow.{Bor}
use Rattle.sq_value.specs.Key.{in_columns}
use Rattle.sq_value.specs.declared.value.Value.{Value}
use Rattle.sq_bound.specs.Names.{are_positions}

abbrev pub values_in : List Value → Option (Bor (List ℕ)) → List Value
values_in row None = row
values_in row (Some columns) = in_columns row columns.now

-- A row has a value at each of these columns.
abbrev pub are_columns_of : List Value → Option (Bor (List ℕ)) → Bool
are_columns_of row None = true
are_columns_of row (Some columns) = are_positions (length row) columns.now
