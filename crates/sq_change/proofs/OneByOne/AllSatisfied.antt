-- A loop that tests each element of a list in turn, and ends with the status of the first that fails.
use Rattle.std.proofs.Common.{◌≡◌, ℕ, zero, suc, arith, ◌+◌, ◌<◌, ◌≤◌, Bool, true, false, List, [], ◌∷◌, ◌++◌, length, drop, get_or, refl, sym, ap, ◌∙◌, Ok, Err}
use Rattle.std.specs.List.{list_any, zip}
use Rattle.std.proofs.lemmas.List.{drop_more}
use Rattle.std.proofs.Math.ListN.{drop_of_length-le}
use Rattle.sq_value.specs.declared.value.Value.{Value}
use Rattle.sq_store.specs.declared.change.Change.{Change}
use Rattle.sq_store.specs.Change.{rows_put}
use Rattle.sq_meaning.specs.Status.{Outcome, and_then}
use Rattle.sq_meaning.specs.Constraints.{all_satisfied}
use Rattle.sq_expression.specs.Fault.{Meets}
use Rattle.sq_expression.specs.declared.fault.Fault.{Fault}
use Rattle.sq_expression.proofs.Groups.{fails_then}
use Rattle.sq_expression.proofs.Expressions.{meets_by}
use Rattle.sq_change.proofs.Changes.Applied.{put_apart}

-- the elements from a place on
pub left_at : {X : Type 0} (xs : List X) (i : ℕ) (x : X) → i < length xs → x ≡ get_or xs i x → drop i xs ≡ x ∷ drop (i + 1) xs
left_at {X} xs i x within is = drop_more xs i x within ∙ ap (λ (p : X). p ∷ drop (i + 1) xs) (sym is)

module _ {X : Type 0} (test : X → Outcome (Unit {0})) where
  -- the first is met, and the others are left
  pub first_met : (x : X) (xs : List X) → test x ≡ Ok tt → all_satisfied test (x ∷ xs) ≡ all_satisfied test xs
  first_met x xs met = ap (λ (r : Outcome (Unit {0})). and_then r (λ _. all_satisfied test xs)) met

  pub first_fails : (x : X) (xs : List X) (e : Fault) → Meets {A = Unit {0}} (Err e) (test x) → Meets {A = Unit {0}} (Err e) (all_satisfied test (x ∷ xs))
  first_fails x xs e failed = fails_then e (test x) (λ _. all_satisfied test xs) failed

  -- the elements before this one are satisfied
  abbrev pub SatisfiedTo : List X → ℕ → Type 0
  SatisfiedTo xs i = all_satisfied test xs ≡ all_satisfied test (drop i xs)

  module _ (xs : List X) (i : ℕ) where
    pub satisfied_more : (x : X) → i < length xs → x ≡ get_or xs i x → SatisfiedTo xs i → test x ≡ Ok tt → SatisfiedTo xs (i + 1)
    satisfied_more x within is so_far met = so_far ∙ ap (all_satisfied test) (left_at xs i x within is) ∙ first_met x (drop (i + 1) xs) met

    pub satisfied_failed : (x : X) (e : Fault) → i < length xs → x ≡ get_or xs i x → SatisfiedTo xs i → Meets {A = Unit {0}} (Err e) (test x) → Meets {A = Unit {0}} (Err e) (all_satisfied test xs)
    satisfied_failed x e within is so_far failed =
        meets_by (Err e) (all_satisfied test xs) (all_satisfied test (x ∷ drop (i + 1) xs)) (so_far ∙ ap (all_satisfied test) (left_at xs i x within is)) (first_fails x (drop (i + 1) xs) e failed)

    pub satisfied_all : length xs ≤ i → SatisfiedTo xs i → all_satisfied test xs ≡ Ok tt
    satisfied_all past so_far = so_far ∙ ap (all_satisfied test) (drop_of_length-le xs past)

-- ---- the rows that changes put in

module _ {R : Type 0} (what : List (List Value) → R) (changes : List Change) where
  -- what is said of all rows that are put in is what is said of those that are left
  abbrev pub RestTo : ℕ → Type 0
  RestTo i = what (rows_put changes) ≡ what (rows_put (drop i changes))

  module _ (i : ℕ) (change : Change) (within : i < length changes) (is : change ≡ get_or changes i change) (so_far : RestTo i) where
    left : what (rows_put changes) ≡ what (rows_put (change ∷ []) ++ rows_put (drop (i + 1) changes))
    left = so_far ∙ ap (λ (cs : List Change). what (rows_put cs)) (left_at changes i change within is) ∙ ap what (put_apart change (drop (i + 1) changes))

    -- a change that puts in no row
    pub rest_none : rows_put (change ∷ []) ≡ [] → RestTo (i + 1)
    rest_none none = left ∙ ap (λ (rows : List (List Value)). what (rows ++ rows_put (drop (i + 1) changes))) none

    -- one that puts in a row
    pub rest_row : (row : List Value) → rows_put (change ∷ []) ≡ row ∷ [] → what (rows_put changes) ≡ what (row ∷ rows_put (drop (i + 1) changes))
    rest_row row put = left ∙ ap (λ (rows : List (List Value)). what (rows ++ rows_put (drop (i + 1) changes))) put

  pub rest_all : (i : ℕ) → length changes ≤ i → RestTo i → what (rows_put changes) ≡ what []
  rest_all i past so_far = so_far ∙ ap (λ (cs : List Change). what (rows_put cs)) (drop_of_length-le changes past)

module _ (test : List Value → Outcome (Unit {0})) (changes : List Change) (i : ℕ) (change : Change) (within : i < length changes) (is : change ≡ get_or changes i change)
    (so_far : RestTo (all_satisfied test) changes i) (row : List Value) (put : rows_put (change ∷ []) ≡ row ∷ []) where
  left_row : all_satisfied test (rows_put changes) ≡ all_satisfied test (row ∷ rows_put (drop (i + 1) changes))
  left_row = rest_row (all_satisfied test) changes i change within is so_far row put

  pub put_more : test row ≡ Ok tt → RestTo (all_satisfied test) changes (i + 1)
  put_more met = left_row ∙ first_met test row (rows_put (drop (i + 1) changes)) met

  pub put_failed : (e : Fault) → Meets {A = Unit {0}} (Err e) (test row) → Meets {A = Unit {0}} (Err e) (all_satisfied test (rows_put changes))
  put_failed e failed =
      meets_by (Err e) (all_satisfied test (rows_put changes)) (all_satisfied test (row ∷ rows_put (drop (i + 1) changes))) left_row
      (first_fails test row (rows_put (drop (i + 1) changes)) e failed)

-- ---- a loop that looks for one element

module _ {X : Type 0} (test : X → Bool) (xs : List X) where
  -- no element before this one passes the test
  abbrev pub NoneTo : ℕ → Type 0
  NoneTo i = list_any test xs ≡ list_any test (drop i xs)

  module _ (i : ℕ) (x : X) (within : i < length xs) (is : x ≡ get_or xs i x) (so_far : NoneTo i) where
    pub none_more : test x ≡ false → NoneTo (i + 1)
    none_more not = so_far ∙ ap (list_any test) (left_at xs i x within is) ∙ rw not refl

    pub one_found : test x ≡ true → list_any test xs ≡ true
    one_found found = so_far ∙ ap (list_any test) (left_at xs i x within is) ∙ rw found refl

  pub none_there : (i : ℕ) → length xs ≤ i → NoneTo i → list_any test xs ≡ false
  none_there i past so_far = so_far ∙ ap (list_any test) (drop_of_length-le xs past)

-- ---- two lists of one length, side by side

-- what stands beside an element
pub beside : {A B : Type 0} (xs : List A) (ys : List B) (i : ℕ) (x : A) → length ys ≡ length xs → i < length xs → x ≡ get_or xs i x
    → (y : B) × (i < length (zip xs ys)) × ((x, y) ≡ get_or (zip xs ys) i (x, y))
beside [] ys i x same lt is = absurd (omega arith)
beside (a ∷ xs) [] i x same lt is = absurd (omega arith)
beside (a ∷ xs) (b ∷ ys) zero x same lt is = (b, omega arith, λ k. (is k, b))
beside (a ∷ xs) (b ∷ ys) (suc i) x same lt is = let rest = beside xs ys i x (omega arith) (omega arith) is in (rest.0, omega (arith, rest.1), rest.2)

pub paired : {A B : Type 0} (xs : List A) (ys : List B) (i : ℕ) (x : A) (y : B) → length ys ≡ length xs → i < length xs → x ≡ get_or xs i x → y ≡ get_or ys i y
    → (i < length (zip xs ys)) × ((x, y) ≡ get_or (zip xs ys) i (x, y))
paired [] ys i x y same lt is at = absurd (omega arith)
paired (a ∷ xs) [] i x y same lt is at = absurd (omega arith)
paired (a ∷ xs) (b ∷ ys) zero x y same lt is at = (omega arith, λ k. (is k, at k))
paired (a ∷ xs) (b ∷ ys) (suc i) x y same lt is at = let rest = paired xs ys i x y (omega arith) (omega arith) is at in (omega (arith, rest.0), rest.1)

pub zip_short : {A B : Type 0} (xs : List A) (ys : List B) → length (zip xs ys) ≤ length xs
zip_short [] ys = omega arith
zip_short (x ∷ xs) [] = omega arith
zip_short (x ∷ xs) (y ∷ ys) = omega (arith, zip_short xs ys)
