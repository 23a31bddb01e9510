-- The rows of a base table that are found by a key, or by some values of a column, are those that are wanted for it among all.
use Rattle.std.proofs.Common.{◌≡◌, ◌∙◌, ℕ, zero, suc, ◌<◌, Bool, true, false, ◌||◌, List, [], ◌∷◌, Some, cond, filter, length, map, refl, sym, ap, subst, arith}
use Rattle.std.specs.Prelude.{slice_get, slice_index_or}
use Rattle.std.specs.Cmp.Lexicographic.{pointwise}
use Rattle.std.specs.List.{AllByRecursion, list_any, zip}
use Rattle.std.proofs.lemmas.Bool.{not-true}
use Rattle.sq_value.specs.Comparison.{is_same}
use Rattle.sq_value.specs.Domain.{kind_of}
use Rattle.sq_value.specs.Key.{in_columns}
use Rattle.sq_value.specs.SetFunctions.{is_null}
use Rattle.sq_value.specs.declared.value.Value.{Value}
use Rattle.sq_value.specs.declared.value.Value.TheVariants.{Null}
use Rattle.sq_value.proofs.Truths.{neither_left, neither_right, or_false}
use Rattle.sq_store.specs.Content.{Content, table_at}
use Rattle.sq_store.specs.Keys.{Keys, are_keyed, has_key, key_at, keys_at}
use Rattle.sq_store.specs.declared.table.Numbered.{Numbered}
use Rattle.sq_meaning.specs.Environment.{Row}
use Rattle.sq_meaning.specs.Tables.{rows_in}
use Rattle.sq_meaning.specs.WellFormed.{IsRowOf}
use Rattle.sq_meaning.proofs.AnswerLaws.{all_weaker}
use Rattle.sq_bound.specs.Fits.{has_its_values, keys_of_bases, lacks_value, not_nulls_hold}
use Rattle.sq_bound.specs.NotNull.{is_not_null}
use Rattle.sq_bound.specs.WellFormed.{base_kinds}
use Rattle.sq_bound.specs.declared.names.BaseColumn.{BaseColumn}
use Rattle.sq_bound.specs.declared.names.BaseTable.{BaseTable}
use Rattle.sq_query.specs.Specification.{rows_by_key}
use Rattle.sq_query.specs.Several.{rows_by_values}
use Rattle.sq_query.specs.Valued.{may_have_one, rows_with_one}
use Rattle.sq_query.specs.declared.key.KnownKey.{KnownKey}
use Rattle.sq_query.specs.declared.key.KnownKeys.{KnownKeys}
use Rattle.sq_query.proofs.FoundByKey.ItemRows.{filter_mapped, filter_one, rows_mapped}
use Rattle.sq_query.proofs.FoundByKey.WithOne.{filtered_alike}
use Rattle.sq_query.proofs.Keys.KeyColumns.{flags, key_not_null, rows_have_values}
use Rattle.sq_query.proofs.Keys.KeyLacked.{unnull}
use Rattle.sq_query.proofs.Keys.KeyOut.{all_both}
use Rattle.sq_query.proofs.Keys.KeyTests.{test_at}
use Rattle.sq_query.proofs.Keys.OnlyOne.{at_most_one, distinct_at}
use Rattle.sq_query.proofs.PlainViews.Wanted.{IsKnownIn, key_wanted, one_alone, one_wanted, wanted_in}

-- ---- rows that are null in no column of a key

-- where a row is null in none of the columns it has the values, if it is wanted for them
none_null : (columns : List ℕ) (row : Row) → IsKnownIn columns row → list_any is_null (in_columns row columns) ≡ false
none_null [] row known = refl
none_null (c ∷ columns) row known =
    ap (λ b. b || list_any is_null (in_columns row columns)) (known c (0, omega arith, refl)) ∙ none_null columns row (λ n among. known n (suc among.0, omega (arith, among.1), among.2))

-- a row has these values in these columns
abbrev has_values : List Value → List ℕ → Row → Bool
has_values values columns row = pointwise is_same values (in_columns row columns)

key_known : (columns : List ℕ) (values : List Value) (row : Row) → IsKnownIn columns row → has_values values columns row ≡ wanted_in (key_wanted values) columns row
key_known columns values row known = sym (ap (λ b. has_values values columns row || b) (none_null columns row known) ∙ or_false (has_values values columns row))

-- a row has one of these values alone in these columns
abbrev has_one : List Value → List ℕ → Row → Bool
has_one vs columns row = list_any (λ v. has_values (v ∷ []) columns row) vs

one_known : (columns : List ℕ) (vs : List Value) (row : Row) → IsKnownIn columns row → has_one vs columns row ≡ wanted_in (one_wanted vs) columns row
one_known columns vs row known = sym (ap (λ b. b || has_one vs columns row) (none_null columns row known))

filter_alike : (test other : Row → Bool) (rows : List Row) → AllByRecursion (λ row. test row ≡ other row) rows → filter test rows ≡ filter other rows
filter_alike test other [] same = refl
filter_alike test other (row ∷ rows) same = λ i. cond (same.0 i) (row ∷ filter_alike test other rows same.1 i) (filter_alike test other rows same.1 i)

-- ---- a key of a base table

-- a row with its values is not null in a column that is NOT NULL
cell_known : (columns : List BaseColumn) (row : Row) (n : ℕ) → IsRowOf (map (λ (c : BaseColumn). kind_of c.domain) columns) row → is_not_null (map (λ (c : BaseColumn). c.not_null) columns) n ≡ true
    → list_any lacks_value (zip columns row) ≡ false → is_null (slice_index_or row n Null) ≡ false
cell_known [] row n fits written none = cc
cell_known (c ∷ columns) [] n fits written none = absurd fits
cell_known (c ∷ columns) (v ∷ row) zero fits written none = unnull c.not_null (is_null v) written (neither_left (lacks_value (c, v)) (list_any lacks_value (zip columns row)) none)
cell_known (c ∷ columns) (v ∷ row) (suc n) fits written none = cell_known columns row n fits.1 written (neither_right (lacks_value (c, v)) (list_any lacks_value (zip columns row)) none)

module _ (bases : List BaseTable) (content : Content) (keys : List Keys) (base : ℕ) (b : BaseTable) (key : ℕ) (at : slice_get bases base ≡ Some b) (is_key : key < length (keys_at keys base)) (keys_are : keys ≡ keys_of_bases bases)
    (nulls : not_nulls_hold bases content ≡ true) (rows_are : AllByRecursion (λ (r : Numbered). IsRowOf (base_kinds b) r.row) (table_at content base).rows) where
  abbrev own_columns : List ℕ
  own_columns = key_at keys base key

  abbrev all_rows : List Numbered
  all_rows = (table_at content base).rows

  row_known : (row : Row) → IsRowOf (base_kinds b) row → has_its_values b row ≡ true → IsKnownIn own_columns row
  row_known row is_row its_values n among =
      let written : is_not_null (flags b) n ≡ true =
      subst (λ m. is_not_null (flags b) m ≡ true) among.2 (test_at (is_not_null (flags b)) own_columns among.0 n (key_not_null bases keys base b key keys_are at is_key) among.1) in
      cell_known b.columns row n is_row written (not-true (list_any lacks_value (zip b.columns row)) its_values)

  rows_known : AllByRecursion (IsKnownIn own_columns) (rows_in (table_at content base))
  rows_known =
      rows_mapped (IsKnownIn own_columns) all_rows
      (all_both (λ (r : Numbered). IsRowOf (base_kinds b) r.row) (λ (r : Numbered). has_its_values b r.row ≡ true) (λ (r : Numbered). IsKnownIn own_columns r.row)
      (λ r is_row its_values. row_known r.row is_row its_values) all_rows rows_are (rows_have_values content bases base b nulls at))

  -- tests that are alike on rows that are null in no column of the key find the same rows
  those_known : (test other : Row → Bool) → ((row : Row) → IsKnownIn own_columns row → test row ≡ other row) → map (λ (r : Numbered). r.row) (filter (λ (r : Numbered). test r.row) all_rows) ≡ filter other (rows_in (table_at content base))
  those_known test other same =
      sym (filter_mapped (λ (r : Numbered). r.row) test all_rows)
      ∙ filter_alike test other (rows_in (table_at content base)) (all_weaker (IsKnownIn own_columns) (λ row. test row ≡ other row) same (rows_in (table_at content base)) rows_known)

-- the row with a key is all that are wanted for it
pub those_stored : (bases : List BaseTable) (content : Content) (keys : List Keys) (base : ℕ) (b : BaseTable) (known : KnownKey) → slice_get bases base ≡ Some b → base < length content → known.key < length (keys_at keys base) → keys ≡ keys_of_bases bases
    → not_nulls_hold bases content ≡ true → AllByRecursion (λ (r : Numbered). IsRowOf (base_kinds b) r.row) (table_at content base).rows → are_keyed keys content ≡ true
    → rows_by_key content keys base known ≡ filter (wanted_in (key_wanted known.values) (key_at keys base known.key)) (rows_in (table_at content base))
those_stored bases content keys base b known at there is_key keys_are nulls rows_are keyed =
    let own_columns = key_at keys base known.key in
    let all_rows = (table_at content base).rows in
    ap (map (λ (r : Numbered). r.row)) (sym (filter_one (has_key own_columns known.values) all_rows (at_most_one own_columns known.values all_rows (distinct_at keys content base known.key keyed there is_key))))
    ∙ those_known bases content keys base b known.key at is_key keys_are nulls rows_are (has_values known.values own_columns) (wanted_in (key_wanted known.values) own_columns) (key_known own_columns known.values)

-- so are the rows with one of several values of a key of one column
pub those_several : (bases : List BaseTable) (content : Content) (keys : List Keys) (base : ℕ) (b : BaseTable) (known : KnownKeys) (c : ℕ) → slice_get bases base ≡ Some b → known.key < length (keys_at keys base) → keys ≡ keys_of_bases bases
    → not_nulls_hold bases content ≡ true → AllByRecursion (λ (r : Numbered). IsRowOf (base_kinds b) r.row) (table_at content base).rows → key_at keys base known.key ≡ c ∷ []
    → rows_by_values content keys base known ≡ filter (wanted_in (one_wanted known.values.items) (c ∷ [])) (rows_in (table_at content base))
those_several bases content keys base b known c at is_key keys_are nulls rows_are is_one =
    let own_columns = key_at keys base known.key in
    let vs = known.values.items in
    those_known bases content keys base b known.key at is_key keys_are nulls rows_are (has_one vs own_columns) (wanted_in (one_wanted vs) own_columns) (one_known own_columns vs)
    ∙ ap (λ (columns : List ℕ). filter (wanted_in (one_wanted vs) columns) (rows_in (table_at content base))) is_one

-- ---- a column of a base table

-- and the rows with one of some values in a column, or null
pub those_with_one : (content : Content) (base c : ℕ) (vs : List Value) → rows_with_one content base c vs ≡ filter (wanted_in (one_wanted vs) (c ∷ [])) (rows_in (table_at content base))
those_with_one content base c vs = filtered_alike (may_have_one c vs) (wanted_in (one_wanted vs) (c ∷ [])) (one_alone c vs) (rows_in (table_at content base))
