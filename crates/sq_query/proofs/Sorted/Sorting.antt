-- The order of rows by columns.
use Rattle.std.proofs.Common.{◌≡◌, Bool, true, false, List, ◌∷◌, refl}
use Rattle.std.specs.Ordering.{ordering_then}
use Rattle.sq_value.specs.declared.value.Value.{Value}
use Rattle.sq_bound.specs.declared.query.SortColumn.{SortColumn}
use Rattle.sq_meaning.specs.Rows.{by_column, by_columns, in_column}
use Rattle.sq_query.specs.Order.{sort_column, sort_columns, in_direction}

-- by the first column, and among ties by the others
pub first_column : (s : SortColumn) (others : List SortColumn) (left right : List Value)
    → by_columns (sort_columns (s ∷ others)) left right ≡ ordering_then (by_column (sort_column s) left right) (by_columns (sort_columns others) left right)
first_column s others left right = refl

-- by a column, up or down
pub one_column : (s : SortColumn) (left right : List Value) → in_direction s.descending (in_column s.column left) (in_column s.column right) ≡ by_column (sort_column s) left right
one_column s left right = split s.descending
  where
    split : (down : Bool) → in_direction down (in_column s.column left) (in_column s.column right) ≡ by_column (record { column = s.column; descending = down }) left right
    split true = refl
    split false = refl
