-- Tests on the values of some columns that tell no values apart that are the same: whether a row may have a key, or one of some values. What a row
-- has that does not pass.
use Rattle.std.proofs.Common.{◌≡◌, ◌∙◌, ℕ, zero, suc, ◌<◌, Bool, true, false, ◌||◌, List, [], ◌∷◌, length, refl, sym, subst, arith}
use Rattle.std.specs.Prelude.{slice_index_or}
use Rattle.std.specs.Cmp.Lexicographic.{lists_equiv, pointwise}
use Rattle.std.specs.List.{AllZip, Contains, list_any}
use Rattle.sq_value.specs.Comparison.{is_same}
use Rattle.sq_value.specs.Key.{in_columns}
use Rattle.sq_value.specs.SetFunctions.{is_null}
use Rattle.sq_value.specs.laws.ValueOrder.{same_equiv}
use Rattle.sq_value.specs.declared.value.Value.{Value}
use Rattle.sq_value.specs.declared.value.Value.TheVariants.{Chars, Null, Num}
use Rattle.sq_value.proofs.Truths.{and_true, both_left, both_right, neither_left, neither_right, or_false}
use Rattle.sq_meaning.specs.Environment.{Row}
use Rattle.sq_query.specs.Named.{HasOther}
use Rattle.sq_query.specs.Valued.{may_have_one}
use Rattle.sq_query.proofs.FoundByKey.WithOne.{other_values}
use Rattle.sq_query.proofs.Keys.KeyLacked.{lacked}
use Rattle.sq_query.proofs.Keys.KeyTests.{in_row}

-- values that are the same, each, are wanted alike
abbrev pub AreAlike : (List Value → Bool) → Type 0
AreAlike wants = (xs ys : List Value) → pointwise is_same xs ys ≡ true → wants xs ≡ wants ys

-- what a row has in these columns is wanted
abbrev pub wanted_in : (List Value → Bool) → List ℕ → Row → Bool
wanted_in wants columns row = wants (in_columns row columns)

-- these values, or null in place of one of them
abbrev pub key_wanted : List Value → List Value → Bool
key_wanted values cells = pointwise is_same values cells || list_any is_null cells

-- one of these values alone, or null
abbrev pub one_wanted : List Value → List Value → Bool
one_wanted vs cells = list_any is_null cells || list_any (λ v. pointwise is_same (v ∷ []) cells) vs

-- ---- values that are the same

nulls_alike : (x y : Value) → is_same x y ≡ true → is_null x ≡ is_null y
nulls_alike Null Null h = refl
nulls_alike Null (Num n) h = cc
nulls_alike Null (Chars t) h = cc
nulls_alike (Num n) Null h = cc
nulls_alike (Num n) (Num m) h = refl
nulls_alike (Num n) (Chars t) h = refl
nulls_alike (Chars t) Null h = cc
nulls_alike (Chars t) (Num n) h = refl
nulls_alike (Chars t) (Chars u) h = refl

any_null_alike : AreAlike (list_any is_null)
any_null_alike [] [] h = refl
any_null_alike [] (y ∷ ys) h = cc
any_null_alike (x ∷ xs) [] h = cc
any_null_alike (x ∷ xs) (y ∷ ys) h = λ i. nulls_alike x y (both_left (is_same x y) (pointwise is_same xs ys) h) i || any_null_alike xs ys (both_right (is_same x y) (pointwise is_same xs ys) h) i

-- the same values are among those that are the same
same_alike : (values : List Value) → AreAlike (pointwise is_same values)
same_alike values xs ys h = let laws = lists_equiv same_equiv in laws.symm values xs ∙ laws.congr xs ys values h ∙ laws.symm ys values

any_alike : (vs : List Value) → AreAlike (λ cells. list_any (λ v. pointwise is_same (v ∷ []) cells) vs)
any_alike [] xs ys h = refl
any_alike (v ∷ vs) xs ys h = λ i. same_alike (v ∷ []) xs ys h i || any_alike vs xs ys h i

pub key_alike : (values : List Value) → AreAlike (key_wanted values)
key_alike values xs ys h = λ i. same_alike values xs ys h i || any_null_alike xs ys h i

pub one_alike : (vs : List Value) → AreAlike (one_wanted vs)
one_alike vs xs ys h = λ i. any_null_alike xs ys h i || any_alike vs xs ys h i

-- ---- one column

one_of : (vs : List Value) (x : Value) → list_any (λ v. is_same v x) vs ≡ list_any (λ v. pointwise is_same (v ∷ []) (x ∷ [])) vs
one_of [] x = refl
one_of (v ∷ vs) x = λ i. sym (and_true (is_same v x)) i || one_of vs x i

pub one_alone : (n : ℕ) (vs : List Value) (row : Row) → may_have_one n vs row ≡ wanted_in (one_wanted vs) (n ∷ []) row
one_alone n vs row = let own = slice_index_or row n Null in λ i. sym (or_false (is_null own)) i || one_of vs own i

-- ---- rows that are not wanted

-- a row is null in none of these columns
abbrev pub IsKnownIn : List ℕ → Row → Type 0
IsKnownIn columns row = (n : ℕ) → Contains columns n → is_null (slice_index_or row n Null) ≡ false

null_in_none : (columns : List ℕ) (row : Row) → list_any is_null (in_columns row columns) ≡ false → IsKnownIn columns row
null_in_none [] row none n among = absurd (omega (arith, among.1))
null_in_none (c ∷ columns) row none n among = by (null_in_none columns row (neither_right (is_null (slice_index_or row c Null)) (list_any is_null (in_columns row columns)) none)) among.0 among.1 among.2
  where
    by : IsKnownIn columns row → (k : ℕ) → k < length (c ∷ columns) → slice_index_or (c ∷ columns) k n ≡ n → is_null (slice_index_or row n Null) ≡ false
    by later zero within at = subst (λ m. is_null (slice_index_or row m Null) ≡ false) at (neither_left (is_null (slice_index_or row c Null)) (list_any is_null (in_columns row columns)) none)
    by later (suc k) within at = later n (k, omega (arith, within), at)

-- a row that has not these values has another one in a column, and not null
pub out_of_key : {R : ℕ → Value → Type 0} (columns : List ℕ) (values : List Value) (row : Row) → AllZip R columns values → wanted_in (key_wanted values) columns row ≡ false → (n : ℕ) × (v : Value) × R n v × HasOther row n (v ∷ [])
out_of_key {R} columns values row all lacks =
    let cells = in_columns row columns in
    let f = lacked {R = R} columns values row all (neither_left (pointwise is_same values cells) (list_any is_null cells) lacks) in
    let known = null_in_none columns row (neither_right (pointwise is_same values cells) (list_any is_null cells) lacks) in (
      f.0,
      f.1,
      f.3,
      record { not_null = λ x cell. subst (λ (v : Value). is_null v ≡ false) (in_row row f.0 x cell) (known f.0 f.2); differs = (f.4, tt) },
    )

-- nor has it one of some values
pub out_of_one : (n : ℕ) (vs : List Value) (row : Row) → wanted_in (one_wanted vs) (n ∷ []) row ≡ false → HasOther row n vs
out_of_one n vs row lacks = other_values n vs row (one_alone n vs row ∙ lacks)
