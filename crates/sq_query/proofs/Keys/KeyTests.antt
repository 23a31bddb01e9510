-- The values with which tests compare columns.
use Rattle.std.proofs.Common.{◌≡◌, ℕ, zero, suc, ◌+◌, ◌<◌, ◌≤◌, Bool, true, false, List, [], ◌∷◌, ◌++◌, length, take, get_or, slice_get, slice_index_or, Option, Some, None, sym, ap, subst, ◌∙◌, arith, Ok}
use Rattle.std.proofs.lemmas.List.{take_more, take_all}
use Rattle.std.specs.Prelude.{IfSome}
use Rattle.std.specs.List.{AllZip, Contains, list_all}
use Rattle.sq_lex.specs.declared.name.Name.{Name}
use Rattle.sq_value.specs.SetFunctions.{is_null}
use Rattle.sq_value.specs.declared.value.Value.{Value}
use Rattle.sq_value.specs.declared.value.Value.TheVariants.{Null}
use Rattle.sq_meaning.specs.Status.{Outcome, well_formed}
use Rattle.sq_meaning.specs.Environment.{Row, Env, value_at}
use Rattle.sq_meaning.specs.Expression.{value}
use Rattle.sq_meaning.specs.Placed.{by_place}
use Rattle.sq_bound.specs.Expression.{expr_of}
use Rattle.sq_bound.specs.declared.condition.BoundTest.{BoundTest}
use Rattle.sq_bound.specs.declared.condition.TablePlace.{TablePlace}
use Rattle.sq_bound.specs.declared.expression.BoundExpr.{BoundExpr}
use Rattle.sq_bound.proofs.QuietTruths.{both_left, both_right}
use Rattle.sq_query.specs.Row.{outside}
use Rattle.sq_query.specs.Key.{IsComparedWith, IsEquality}
use Rattle.sq_expression.proofs.Kept.{ok_same}

-- ---- what the code finds

pub if_some : {A : Type 0} (P : A → Type 0) (o : Option A) (x : A) → IfSome o P → o ≡ Some x → P x
if_some P None x h e = cc
if_some P (Some y) x h e = let same : y ≡ x = cc in subst P same h

zip_push : {A B : Type 0} (R : A → B → Type 0) (xs : List A) (ys : List B) (x : A) (y : B) → AllZip R xs ys → R x y → AllZip R (xs ++ x ∷ []) (ys ++ y ∷ [])
zip_push R [] [] x y all last = (last, tt)
zip_push R [] (v ∷ ys) x y all last = absurd all
zip_push R (u ∷ xs) [] x y all last = absurd all
zip_push R (u ∷ xs) (v ∷ ys) x y all last = (all.0, zip_push R xs ys x y all.1 last)

-- one column more
pub zip_more : {A B : Type 0} (R : A → B → Type 0) (xs : List A) (i : ℕ) (d : A) (ys next : List B) (y : B) → i < length xs → AllZip R (take i xs) ys → R (get_or xs i d) y → next ≡ ys ++ y ∷ []
    → AllZip R (take (i + 1) xs) next
zip_more {A} {B} R xs i d ys next y within all last grown =
    subst (λ (l : List B). AllZip R (take (i + 1) xs) l) (sym grown)
    (subst (λ (l : List A). AllZip R l (ys ++ y ∷ [])) (sym (take_more xs i d within)) (zip_push R (take i xs) ys (get_or xs i d) y all last))

pub zip_all : {A B : Type 0} (R : A → B → Type 0) (xs : List A) (i : ℕ) (ys : List B) → length xs ≤ i → AllZip R (take i xs) ys → AllZip R xs ys
zip_all {A} R xs i ys past all = subst (λ (l : List A). AllZip R l ys) (take_all i xs past) all

-- a test that all elements pass is passed at an index
pub test_at : {A : Type 0} (test : A → Bool) (xs : List A) (k : ℕ) (d : A) → list_all test xs ≡ true → k < length xs → test (slice_index_or xs k d) ≡ true
test_at test [] k d h within = absurd (omega arith)
test_at test (x ∷ xs) zero d h within = both_left (test x) (list_all test xs) h
test_at test (x ∷ xs) (suc k) d h within = test_at test xs k d (both_right (test x) (list_all test xs) h) (omega arith)

-- the value with which a test compares a column, unless it is null
pub compared_if : (tests : List BoundTest) (parameters : List Value) (caller : Name) (n : ℕ) (e : BoundExpr) (v : Value) (o : Option Value) → (test : BoundTest) × Contains tests test × IsEquality n e test
    → ((tables : TablePlace → Outcome (List Row)) → value (by_place tables) (expr_of [] e) (outside [] parameters caller) ≡ Ok v) → IfSome o (λ w. (w ≡ v) × (is_null w ≡ false)) → IfSome o (IsComparedWith tests parameters caller n)
compared_if tests parameters caller n e v None found has h = tt
compared_if tests parameters caller n e v (Some w) found has h = record {
  test = found.0;
  among = found.1;
  expr = e;
  is = found.2;
  has_value = λ tables. has tables ∙ ap Ok (sym h.0);
  known = h.1;
}

-- ---- values

pub in_row : (row : Row) (n : ℕ) (x : Value) → well_formed (slice_get row n) ≡ Ok x → slice_index_or row n Null ≡ x
in_row [] n x h = cc
in_row (v ∷ row) zero x h = ok_same v x h
in_row (v ∷ row) (suc n) x h = in_row row n x h

module _ (tables : TablePlace → Outcome (List Row)) (parameters : List Value) (caller : Name) (row : Row) where
  -- where a row is seen alone
  abbrev here : Env (Unit {0})
  here = outside (row ∷ []) parameters caller

  -- a column of the row
  pub column_is : (i n : ℕ) (x : Value) → value_at here (record { depth = zero; item = i; column = n }) ≡ Ok x → slice_index_or row n Null ≡ x
  column_is zero n x h = in_row row n x h
  column_is (suc i) n x h = cc
