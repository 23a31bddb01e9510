-- The columns of a key of a base table are NOT NULL, and so no row of the base table is null in them (ISO/IEC 9075:1992, 11.7).
use Rattle.std.proofs.Common.{◌≡◌, ℕ, zero, suc, ◌+◌, ◌<◌, Bool, true, false, List, [], ◌∷◌, length, map, Some, sym, ap, subst, ◌∙◌, arith, Ok}
use Rattle.std.specs.Prelude.{slice_get, slice_index_or}
use Rattle.std.specs.List.{AllByRecursion, Contains, enumerate_from, list_all, list_any, zip}
use Rattle.std.proofs.lemmas.Bool.{not-true}
use Rattle.sq_value.specs.SetFunctions.{is_null}
use Rattle.sq_value.specs.declared.value.Value.{Value}
use Rattle.sq_store.specs.Content.{Content, table_at}
use Rattle.sq_store.specs.Keys.{Keys, key_at, keys_at}
use Rattle.sq_store.specs.declared.table.Numbered.{Numbered}
use Rattle.sq_meaning.specs.Environment.{Row}
use Rattle.sq_meaning.specs.Status.{well_formed}
use Rattle.sq_meaning.proofs.SureLaws.{all_passed}
use Rattle.sq_bound.specs.Fits.{has_its_values, keys_of_bases, lacks_value, not_nulls_hold}
use Rattle.sq_bound.specs.NotNull.{are_not_null, is_not_null}
use Rattle.sq_bound.specs.declared.names.BaseColumn.{BaseColumn}
use Rattle.sq_bound.specs.declared.names.BaseTable.{BaseTable}
use Rattle.sq_bound.proofs.QuietTruths.{both_left, both_right}
use Rattle.sq_query.proofs.Keys.KeyLacked.{value_there}
use Rattle.sq_query.proofs.Keys.KeyNames.{base_keys}
use Rattle.sq_query.proofs.Keys.KeyTests.{test_at}

-- ---- the rows of a base table

values_from : (content : Content) (from : ℕ) (bases : List BaseTable) (place : ℕ) (b : BaseTable) → list_all (λ p. list_all (λ n. has_its_values p.1 n.row) (table_at content p.0).rows) (enumerate_from from bases) ≡ true
    → slice_get bases place ≡ Some b → list_all (λ n. has_its_values b n.row) (table_at content (from + place)).rows ≡ true
values_from content from [] place b h e = cc
values_from content from (a ∷ bases) zero b h e =
    let same : a ≡ b = cc in
    let at : from + zero ≡ from = omega arith in
    subst (λ (t : BaseTable). list_all (λ n. has_its_values t n.row) (table_at content (from + zero)).rows ≡ true) same
    (subst (λ (p : ℕ). list_all (λ n. has_its_values a n.row) (table_at content p).rows ≡ true) (sym at)
    (both_left (list_all (λ n. has_its_values a n.row) (table_at content from).rows) (list_all (λ p. list_all (λ n. has_its_values p.1 n.row) (table_at content p.0).rows) (enumerate_from (from + 1) bases)) h))
values_from content from (a ∷ bases) (suc place) b h e =
    let at : from + 1 + place ≡ from + suc place = omega arith in
    subst (λ (p : ℕ). list_all (λ n. has_its_values b n.row) (table_at content p).rows ≡ true) at
    (values_from content (from + 1) bases place b
    (both_right (list_all (λ n. has_its_values a n.row) (table_at content from).rows) (list_all (λ p. list_all (λ n. has_its_values p.1 n.row) (table_at content p.0).rows) (enumerate_from (from + 1) bases)) h) e)

pub rows_have_values : (content : Content) (bases : List BaseTable) (place : ℕ) (b : BaseTable) → not_nulls_hold bases content ≡ true → slice_get bases place ≡ Some b
    → AllByRecursion (λ (r : Numbered). has_its_values b r.row ≡ true) (table_at content place).rows
rows_have_values content bases place b nulls at =
    let from_first : 0 + place ≡ place = omega arith in
    all_passed (λ (r : Numbered). has_its_values b r.row) (table_at content place).rows
    (subst (λ (p : ℕ). list_all (λ (r : Numbered). has_its_values b r.row) (table_at content p).rows ≡ true) from_first (values_from content 0 bases place b nulls at))

-- ---- a key

abbrev pub flags : BaseTable → List Bool
flags b = map (λ (c : BaseColumn). c.not_null) b.columns

pub key_not_null : (bases : List BaseTable) (keys : List Keys) (place : ℕ) (b : BaseTable) (key : ℕ) → keys ≡ keys_of_bases bases → slice_get bases place ≡ Some b → key < length (keys_at keys place)
    → list_all (is_not_null (flags b)) (key_at keys place key) ≡ true
key_not_null bases keys place b key keys_are at within =
    let same = base_keys bases keys keys_are place b at in
    ap (λ (ks : Keys). are_not_null (flags b) (slice_index_or ks key [])) same
    ∙ test_at (are_not_null (flags b)) b.keys key [] b.known_keys (subst (λ (ks : Keys). key < length ks) same within)

-- a row with its values is not null in a column of it
pub key_value : (b : BaseTable) (columns : List ℕ) (row : Row) → list_all (is_not_null (flags b)) columns ≡ true → has_its_values b row ≡ true → (n : ℕ) (x : Value) → Contains columns n → well_formed (slice_get row n) ≡ Ok x
    → is_null x ≡ false
key_value b columns row not_null has_values n x among there =
    value_there b.columns row n x there (subst (λ m. is_not_null (flags b) m ≡ true) among.2 (test_at (is_not_null (flags b)) columns among.0 n not_null among.1)) (not-true (list_any lacks_value (zip b.columns row)) has_values)
