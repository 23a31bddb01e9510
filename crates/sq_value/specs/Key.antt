-- Keys: values by which rows are found. Two keys are equal if they have one length and are the same in each place.
use Rattle.std.specs.Prelude.{ℕ, List, ◌++◌, ◌<◌, map, slice_index_or, All, length}
use Rattle.std.specs.Hash as fed
use Rattle.std.specs.Hash.{HashWrites}
use Rattle.sq_value.specs.Arithmetic.{truncated}
use Rattle.sq_value.specs.Text.{trimmed}
use Rattle.sq_value.specs.declared.value.Value.{Value}
use Rattle.sq_value.specs.declared.value.Value.TheVariants.{Null, Num, Chars}

-- the values of a row in these columns
abbrev pub in_columns : List Value → List ℕ → List Value
in_columns row columns = map (λ c. slice_index_or row c Null) columns

abbrev pub HasColumns : List Value → List ℕ → Type 0
HasColumns row columns = All (λ c. c < length row) columns

-- the writes of a value to a hasher: a number by its value at scale 18, a text without the blanks at its end
abbrev pub value_writes : Value → HashWrites
value_writes Null = fed.u8 0
value_writes (Num n) = fed.u8 1 ++ fed.i128 ((truncated 18 n).unscaled)
value_writes (Chars t) = fed.u8 2 ++ fed.slice fed.u8 (trimmed t)
