-- Rows with one of some values in a column, or null: how a store that is asked for both finds them, and what the others have.
use Rattle.std.proofs.Common.{◌≡◌, ◌∙◌, ℕ, Bool, true, false, ◌&&◌, ◌||◌, List, [], ◌∷◌, Bor, Err, None, Ok, Option, Result, Some, cond, filter, map, slice_index_or, refl, ap, subst, sym}
use Rattle.std.specs.Prelude.{IfOk, IfSome, Vec}
use Rattle.std.specs.declared.alloc.Global.{Global}
use Rattle.std.specs.Cmp.Lexicographic.{pointwise}
use Rattle.std.specs.List.{AllByRecursion, list_any}
use Rattle.sq_value.specs.Comparison.{is_same}
use Rattle.sq_value.specs.SetFunctions.{is_null}
use Rattle.sq_value.specs.declared.value.Value.{Value}
use Rattle.sq_value.specs.declared.value.Value.TheVariants.{Null, Num, Chars}
use Rattle.sq_value.proofs.Truths.{neither_left, neither_right}
use Rattle.sq_store.specs.Content.{Content, table_at}
use Rattle.sq_store.specs.Found.{has_one_of, numbered_in, with_one_of}
use Rattle.sq_store.specs.declared.table.Numbered.{Numbered}
use Rattle.sq_meaning.specs.Environment.{Row}
use Rattle.sq_query.specs.Named.{HasOther}
use Rattle.sq_query.specs.Valued.{may_have_one, null_or_one, rows_with_one}
use Rattle.sq_query.proofs.FoundByKey.ItemRows.{filter_mapped}
use Rattle.sq_query.proofs.Keys.KeyTests.{in_row}

-- ---- a store is asked for the values and for null

null_alone : (x : Value) → pointwise is_same (Null ∷ []) (x ∷ []) ≡ is_null x
null_alone Null = refl
null_alone (Num n) = refl
null_alone (Chars t) = refl

and_true : (b : Bool) → (b && true) ≡ b
and_true true = refl
and_true false = refl

has_value : (n : ℕ) (vs : List Value) (r : Numbered) → has_one_of (n ∷ []) (map (λ v. v ∷ []) vs) r ≡ list_any (λ v. is_same v (slice_index_or r.row n Null)) vs
has_value n [] r = refl
has_value n (v ∷ vs) r = λ i. and_true (is_same v (slice_index_or r.row n Null)) i || has_value n vs r i

has_value_or_null : (n : ℕ) (vs : List Value) (r : Numbered) → has_one_of (n ∷ []) (null_or_one vs) r ≡ may_have_one n vs r.row
has_value_or_null n vs r = λ i. null_alone (slice_index_or r.row n Null) i || has_value n vs r i

pub filtered_alike : {A : Type 0} (has other : A → Bool) → ((x : A) → has x ≡ other x) → (xs : List A) → filter has xs ≡ filter other xs
filtered_alike has other same [] = refl
filtered_alike has other same (x ∷ xs) = λ i. cond (same x i) (x ∷ filtered_alike has other same xs i) (filtered_alike has other same xs i)

pub looked_up : (content : Content) (base n : ℕ) (vs : List Value)
    → map (λ (s : Numbered). s.row) (with_one_of (table_at content base) (n ∷ []) (null_or_one vs)) ≡ rows_with_one content base n vs
looked_up content base n vs =
    let rs = (table_at content base).rows in
    ap (map (λ (s : Numbered). s.row)) (filtered_alike (has_one_of (n ∷ []) (null_or_one vs)) (λ (s : Numbered). may_have_one n vs s.row) (has_value_or_null n vs) rs)
    ∙ sym (filter_mapped (λ (s : Numbered). s.row) (may_have_one n vs) rs)

-- what it has found
pub rows_found : {E : Type 0} (r : Result (Option (Vec (ℕ × Bor Row) Global)) E) (content : Content) (base n : ℕ) (vs : List Value) (columns : List ℕ) (several : List (List Value))
    → columns ≡ n ∷ [] → several ≡ null_or_one vs → IfOk r (λ found. IfSome found (λ rows. numbered_in rows ≡ with_one_of (table_at content base) columns several))
    → IfOk r (λ found. IfSome found (λ rows. map (λ (s : Numbered). s.row) (numbered_in rows) ≡ rows_with_one content base n vs))
rows_found (Err e) content base n vs columns several c s h = tt
rows_found (Ok None) content base n vs columns several c s h = tt
rows_found (Ok (Some rows)) content base n vs columns several c s h =
    ap (map (λ (t : Numbered). t.row)) (h ∙ (λ i. with_one_of (table_at content base) (c i) (s i))) ∙ looked_up content base n vs

-- ---- the other rows

none_of : {A : Type 0} (has : A → Bool) (xs : List A) → list_any has xs ≡ false → AllByRecursion (λ x. has x ≡ false) xs
none_of has [] h = tt
none_of has (x ∷ xs) h = (neither_left (has x) (list_any has xs) h, none_of has xs (neither_right (has x) (list_any has xs) h))

pub other_values : (n : ℕ) (vs : List Value) (row : Row) → may_have_one n vs row ≡ false → HasOther row n vs
other_values n vs row lacks =
    let own = slice_index_or row n Null in
    let same = λ (v : Value). is_same v own in
    record {
      not_null = λ x cell. subst (λ (v : Value). is_null v ≡ false) (in_row row n x cell) (neither_left (is_null own) (list_any same vs) lacks);
      differs = none_of same vs (neither_right (is_null own) (list_any same vs) lacks);
    }
