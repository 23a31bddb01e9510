-- A row is null where it may not be by the names of its columns where it is by their places (ISO/IEC 9075:1992, 11.4).
use Rattle.std.proofs.Common.{◌≡◌, ℕ, zero, suc, ◌+◌, Bool, true, false, List, [], ◌∷◌, ◌++◌, drop, length, map, Some, refl, sym, ap, ◌∙◌, arith}
use Rattle.std.proofs.lemmas.List.{map-append}
use Rattle.std.proofs.lemmas.List.Elements.{filter_map-append}
use Rattle.std.proofs.lemmas.List.Folds.{list_any-append}
use Rattle.std.specs.Prelude.{⊤, ◌&&◌, ◌||◌, flat_map, slice_get, slice_index_or}
use Rattle.std.specs.List.{AllZip, cons_option, filter_map, list_any, zip}
use Rattle.sq_lex.specs.declared.name.Name.{Name}
use Rattle.sq_tree.specs.declared.schema.ColumnConstraint.{ColumnConstraint}
use Rattle.sq_tree.specs.declared.schema.ColumnConstraint.TheVariants as constraint
use Rattle.sq_tree.specs.declared.schema.ColumnDefinition.{ColumnDefinition}
use Rattle.sq_tree.specs.declared.schema.TableDefinition.{TableDefinition}
use Rattle.sq_tree.specs.declared.schema.TableElement.{TableElement}
use Rattle.sq_tree.specs.declared.schema.TableElement.TheVariants as element
use Rattle.sq_value.specs.Key.{in_columns}
use Rattle.sq_value.specs.SetFunctions.{is_null}
use Rattle.sq_value.specs.declared.value.Value.{Value}
use Rattle.sq_value.specs.declared.value.Value.TheVariants.{Null}
use Rattle.sq_meaning.specs.Environment.{Row}
use Rattle.sq_meaning.specs.Spelled.{listed}
use Rattle.sq_meaning.specs.Schema.{column_defined, column_definitions, constraints_in, not_null_columns, null_refused, of_column, place_among, table_columns}
use Rattle.sq_meaning.specs.Constraints.{has_null, places_among, values_in}
use Rattle.sq_bound.specs.Fits.{lacks_value}
use Rattle.sq_bound.specs.declared.names.BaseColumn.{BaseColumn}
use Rattle.sq_run.proofs.Places.Lists.{at_drop}

-- NOT NULL is written for a column
abbrev pub is_not_null : ColumnConstraint → Bool
is_not_null constraint.NotNull = true
is_not_null _ = false

abbrev pub refuses_null : ColumnDefinition → Bool
refuses_null w = list_any is_not_null w.constraints

-- each column is found at its own place, since no two have one name
abbrev pub AreFoundFrom : List Name → ℕ → List ColumnDefinition → Type 0
AreFoundFrom names n [] = ⊤
AreFoundFrom names n (w ∷ ws) = (place_among names w.name ≡ Some n) × AreFoundFrom names (n + 1) ws

-- the columns for which it is written, once for each time
abbrev refused_of : ColumnDefinition → List Name
refused_of w = filter_map null_refused (map (of_column w.name) w.constraints)

abbrev refused : List ColumnDefinition → List Name
refused ws = flat_map refused_of ws

-- table constraints are of keys, references and conditions
refused_written : (es : List TableElement)
    → filter_map null_refused (flat_map constraints_in es) ≡ refused (filter_map column_defined es)
refused_written [] = refl
refused_written (element.Column c ∷ es) =
    filter_map-append null_refused (map (of_column c.name) c.constraints) (flat_map constraints_in es)
    ∙ ap (λ rest. refused_of c ++ rest) (refused_written es)
refused_written (element.Unique columns ∷ es) = refused_written es
refused_written (element.PrimaryKey columns ∷ es) = refused_written es
refused_written (element.ForeignKey key ∷ es) = refused_written es
refused_written (element.Check condition ∷ es) = refused_written es

module _ (names : List Name) (row : Row) where
  -- one of these columns is null
  abbrev one_null : List Name → Bool
  one_null columns = has_null (in_columns row (places_among names columns))

  null_of_both : (xs ys : List Name) → one_null (xs ++ ys) ≡ (one_null xs || one_null ys)
  null_of_both xs ys =
      ap (λ ps. has_null (in_columns row ps)) (filter_map-append (place_among names) xs ys)
      ∙ ap has_null (map-append (λ c. slice_index_or row c Null) (places_among names xs) (places_among names ys))
      ∙ list_any-append is_null (in_columns row (places_among names xs)) (in_columns row (places_among names ys))

  -- NOT NULL of one column.
  null_of_one : (name : Name) (n : ℕ) → place_among names name ≡ Some n → (cs : List ColumnConstraint)
      → one_null (filter_map null_refused (map (of_column name) cs))
      ≡ (list_any is_not_null cs && is_null (slice_index_or row n Null))
  null_of_one name n at [] = refl
  null_of_one name n at (constraint.NotNull ∷ cs) =
      ap (λ o. has_null (in_columns row (cons_option o (places_among names (filter_map null_refused (map (of_column name) cs)))))) at
      ∙ ap (λ b. is_null (slice_index_or row n Null) || b) (null_of_one name n at cs)
      ∙ either (is_null (slice_index_or row n Null)) (list_any is_not_null cs)
    where
      either : (v b : Bool) → (v || (b && v)) ≡ v
      either true b = refl
      either false true = refl
      either false false = refl
  null_of_one name n at (constraint.Unique ∷ cs) = null_of_one name n at cs
  null_of_one name n at (constraint.PrimaryKey ∷ cs) = null_of_one name n at cs
  null_of_one name n at (constraint.References to ∷ cs) = null_of_one name n at cs
  null_of_one name n at (constraint.Check condition ∷ cs) = null_of_one name n at cs

  value_there : (n : ℕ) (values : Row) (v : Value) → slice_get values n ≡ Some v → slice_index_or values n Null ≡ v
  value_there n [] v e = cc
  value_there zero (x ∷ values) v e = cc
  value_there (suc n) (x ∷ values) v e = value_there n values v e

  nulls_from : (n : ℕ) (ws : List ColumnDefinition) (cs : List BaseColumn) (vs : Row) → AreFoundFrom names n ws
      → AllZip (λ w c. c.not_null ≡ refuses_null w) ws cs → drop n row ≡ vs → length vs ≡ length cs
      → one_null (refused ws) ≡ list_any lacks_value (zip cs vs)
  nulls_from n [] [] vs at same e l = refl
  nulls_from n [] (c ∷ cs) vs at same e l = absurd same
  nulls_from n (w ∷ ws) [] vs at same e l = absurd same
  nulls_from n (w ∷ ws) (c ∷ cs) [] at same e l = absurd (omega arith)
  nulls_from n (w ∷ ws) (c ∷ cs) (v ∷ vs) at same e l =
      let here = at_drop n row v vs e in
      let fewer : length vs ≡ length cs = omega arith in
      let next : n + 1 ≡ suc n = omega arith in
      null_of_both (refused_of w) (refused ws)
      ∙ (λ i. (null_of_one w.name n at.0 w.constraints ∙ ap (λ x. refuses_null w && is_null x) (value_there n row v here.0) ∙ ap (λ b. b && is_null v) (sym same.0)) i
      || nulls_from (n + 1) ws cs vs at.1 same.1 (ap (λ k. drop k row) next ∙ here.1) fewer i)

none_dropped : (row : Row) → drop 0 row ≡ row
none_dropped [] = refl
none_dropped (v ∷ row) = refl

-- A row that is as wide as its table is null where it may not be, by names and by places alike.
pub nulls_same : (t : TableDefinition) (cs : List BaseColumn) → AreFoundFrom (table_columns t) 0 (column_definitions t)
    → AllZip (λ w c. c.not_null ≡ refuses_null w) (column_definitions t) cs → (row : Row) → length row ≡ length cs
    → has_null (values_in t (not_null_columns t) row) ≡ list_any lacks_value (zip cs row)
nulls_same t cs at same row l =
    ap (λ columns. has_null (in_columns row (places_among (table_columns t) columns))) (refused_written (listed t.elements))
    ∙ nulls_from (table_columns t) row 0 (column_definitions t) cs row at same (none_dropped row) l
