-- The result columns that ORDER BY names (ISO/IEC 9075:1992, 13.1).
use Rattle.std.specs.Prelude.{List, [], ◌∷◌, map, Option, Ok}
use Rattle.std.specs.Result.{result_ok}
use Rattle.sq_lex.specs.declared.name.Name.{Name}
use Rattle.sq_tree.specs.declared.«module».SortSpecification.{SortSpecification}
use Rattle.sq_meaning.specs.Rows.{SortColumn}
use Rattle.sq_meaning.specs.SortKeys.{goes_down, key_column}
use Rattle.sq_meaning.specs.declared.fault.BindingFault.TheVariants as fault
use Rattle.sq_binding.specs.NumberedCondition.{ResultColumn}
use Rattle.sq_binding.specs.Outcome.{Outcome, ◌>>=◌, or_fault}

abbrev pub names_of : List ResultColumn → List (Option Name)
names_of columns = map (λ c. c.name) columns

-- a sort key is the position of a column, or the name of exactly one
abbrev pub sort_column_bound : List (Option Name) → SortSpecification → Outcome SortColumn
sort_column_bound names s = do
  column ← or_fault fault.BadSortKey (result_ok (key_column names s.key))
  Ok (record { column = column; descending = goes_down s.direction })

abbrev pub order_bound : List (Option Name) → List SortSpecification → Outcome (List SortColumn)
order_bound names [] = Ok []
order_bound names (s ∷ order) =
    sort_column_bound names s >>= λ column. order_bound names order >>= λ columns. Ok (column ∷ columns)
