-- Comparing a key with a row's columns, one by one.
use Rattle.std.proofs.Common.{◌≡◌, ℕ, ◌&&◌, List, ◌∷◌, slice_index_or}
use Rattle.std.specs.Cmp.Lexicographic.{pointwise}
use Rattle.sq_value.specs.Comparison.{is_same}
use Rattle.sq_value.specs.Key.{in_columns}
use Rattle.sq_value.specs.declared.value.Value.{Value}
use Rattle.sq_value.specs.declared.value.Value.TheVariants.{Null}

pub first_column : (row parts rest : List Value) (part : Value) (columns others : List ℕ) (column : ℕ) → parts ≡ part ∷ rest → columns ≡ column ∷ others
    → pointwise is_same parts (in_columns row columns) ≡ (is_same part (slice_index_or row column Null) && pointwise is_same rest (in_columns row others))
first_column row parts rest part columns others column p c = λ i. pointwise is_same (p i) (in_columns row (c i))
