-- The columns of a row that an updatable query shows.
use Rattle.std.proofs.Common.{◌≡◌, ◌<◌, ℕ, zero, suc, true, List, [], ◌∷◌, length, get_or, nat_lt, slice_get, Some, None, Option, refl, ap, subst, sym, ◌∙◌, arith}
use Rattle.std.proofs.lemmas.Bool.{and_parts, ltb-true}
use Rattle.std.proofs.lemmas.List.{get_or_read, length-map}
use Rattle.std.proofs.lemmas.Option.{slice_get-get_or}
use Rattle.std.specs.Borrow.{Bor}
use Rattle.std.specs.Prelude.{slice_index_or}
use Rattle.std.specs.Option.{option_map}
use Rattle.sq_value.specs.Key.{in_columns}
use Rattle.sq_value.specs.declared.value.Value.{Value}
use Rattle.sq_value.specs.declared.value.Value.TheVariants.{Null}
use Rattle.sq_store.specs.Content.{Content, row_at, table_at}
use Rattle.sq_store.specs.declared.table.Numbered.{Numbered}
use Rattle.sq_bound.specs.Fits.{holds}
use Rattle.sq_bound.specs.Names.{are_positions}
use Rattle.sq_bound.specs.declared.names.BaseTable.{BaseTable}
use Rattle.sq_session.specs.Columns.{are_columns_of, values_in}
use Rattle.sq_session.specs.Fetch.{row_on}
use Rattle.sq_session.proofs.Lasting.Holding.{HasColumns, row_wide}

-- Each column that is shown is there.
pub column_there : (n : ℕ) (columns : List ℕ) (i d : ℕ) → are_positions n columns ≡ true → i < length columns → get_or columns i d < n
column_there n [] i d h lt = absurd (omega (arith, lt))
column_there n (c ∷ columns) zero d h lt = ltb-true c n (and_parts (nat_lt c n) (are_positions n columns) h).0
column_there n (c ∷ columns) (suc i) d h lt = column_there n columns i d (and_parts (nat_lt c n) (are_positions n columns) h).1 (omega (arith, lt))

-- the value in the column at a place
pub value_there : (row : List Value) (columns : List ℕ) (place d : ℕ) (v : Value) → place < length columns → get_or columns place d < length row → v ≡ get_or row (get_or columns place d) v
    → slice_get (in_columns row columns) place ≡ Some v
value_there row [] place d v lt within at = absurd (omega (arith, lt))
value_there row (x ∷ columns) zero d v lt within at = ap Some (sym (get_or_read row x v within at Null))
value_there row (x ∷ columns) (suc place) d v lt within at = value_there row columns place d v (omega (arith, lt)) within at

-- ---- a row of which some columns are shown, or all

pub place_there : (row : List Value) (shown : Option (Bor (List ℕ))) (columns : Bor (List ℕ)) (place : ℕ) → place < length (values_in row shown) → shown ≡ Some columns → place < length columns.now
place_there row None columns place lt e = cc
place_there row (Some c) columns place lt e =
    let same : c ≡ columns = cc in
    let here : place < length c.now = omega (arith, lt, length-map c.now (λ n. slice_index_or row n Null)) in
    subst (λ (x : Bor (List ℕ)). place < length x.now) same here

pub positions_there : (row : List Value) (shown : Option (Bor (List ℕ))) (columns : Bor (List ℕ)) → are_columns_of row shown ≡ true → shown ≡ Some columns → are_positions (length row) columns.now ≡ true
positions_there row None columns are e = cc
positions_there row (Some c) columns are e = let same : c ≡ columns = cc in subst (λ (x : Bor (List ℕ)). are_positions (length row) x.now ≡ true) same are

pub shown_in : (row : List Value) (shown : Option (Bor (List ℕ))) (columns : Bor (List ℕ)) (place : ℕ) (v : Value) → slice_get (in_columns row columns.now) place ≡ Some v → shown ≡ Some columns
    → slice_get (values_in row shown) place ≡ Some v
shown_in row shown columns place v at e = ap (λ s. slice_get (values_in row s) place) e ∙ at

pub shown_whole : (row : List Value) (shown : Option (Bor (List ℕ))) (place : ℕ) (v : Value) → place < length (values_in row shown) → v ≡ get_or row place v → shown ≡ None
    → slice_get (values_in row shown) place ≡ Some v
shown_whole row (Some c) place v lt at e = cc
shown_whole row None place v lt at e = slice_get-get_or row place v lt ∙ ap Some (sym at)

-- A row of the base table has the columns that are shown.
pub columns_there : (bases : List BaseTable) (tables : Content) (p n : ℕ) (columns : List ℕ) (row : List Value) → holds bases tables ≡ true → HasColumns bases p columns
    → row_on (table_at tables p) (Some n) ≡ Some row → are_positions (length row) columns ≡ true
columns_there bases tables p n columns row held has found = by (row_at (table_at tables p) n) refl found
  where
    by : (o : Option Numbered) → row_at (table_at tables p) n ≡ o → option_map (λ r. r.row) o ≡ Some row → are_positions (length row) columns ≡ true
    by None e k = cc
    by (Some r) e k =
        let same : r.row ≡ row = cc in
        let wide : length r.row ≡ length has.0.columns = row_wide bases tables p n has.0 r held has.1 e in
        let long : length has.0.columns ≡ length row = sym (subst (λ (x : List Value). length x ≡ length has.0.columns) same wide) in
        subst (λ (w : ℕ). are_positions w columns ≡ true) long has.2
