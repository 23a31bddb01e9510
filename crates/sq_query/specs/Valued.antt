-- The rows of a base table that have one of some values in a column, or null there (own rule).
use Rattle.std.specs.Prelude.{◌≡◌, ◌||◌, ℕ, Bool, List, [], ◌∷◌, filter, map, slice_index_or}
use Rattle.std.specs.List.{list_any}
use Rattle.sq_value.specs.Comparison.{is_same}
use Rattle.sq_value.specs.SetFunctions.{is_null}
use Rattle.sq_value.specs.declared.value.Value.{Value}
use Rattle.sq_value.specs.declared.value.Value.TheVariants.{Null}
use Rattle.sq_store.specs.Content.{Content, table_at}
use Rattle.sq_meaning.specs.Environment.{Row}
use Rattle.sq_meaning.specs.Tables.{rows_in}
use Rattle.sq_expression.specs.Frame.{lent}
use Rattle.sq_expression.specs.declared.table.BaseRows.{BaseRows}

-- a row has null in a column, or one of these values
abbrev pub may_have_one : ℕ → List Value → Row → Bool
may_have_one n vs row =
    is_null (slice_index_or row n Null) || list_any (λ v. is_same v (slice_index_or row n Null)) vs

-- the rows of a base table that have
abbrev pub rows_with_one : Content → ℕ → ℕ → List Value → List Row
rows_with_one content base n vs = filter (may_have_one n vs) (rows_in (table_at content base))

-- these are those rows of the base table at this place
abbrev pub HasRowsWithOne : Content → (place : ℕ) → ℕ → List Value → BaseRows → Type 0
HasRowsWithOne content place n vs own =
    (own.place ≡ place) × (lent own.rows.items ≡ rows_with_one content place n vs)

-- what a store is asked for: null and these values, each as a list of its own
abbrev pub null_or_one : List Value → List Row
null_or_one vs = (Null ∷ []) ∷ map (λ v. v ∷ []) vs
