-- Conditions one after another, each of which has to be true.
use Rattle.std.proofs.Common.{◌≡◌, ◌≢◌, ℕ, zero, suc, ◌+◌, ◌<◌, ◌≤◌, Bool, true, false, List, [], ◌∷◌, ◌++◌, length, drop, take, map, get_or, arith, refl, sym, ◌∙◌, ap, subst, Result, Ok, Err, Bor}
use Rattle.std.specs.List.{AllByRecursion, list_any}
use Rattle.std.specs.Prelude.{if◌then◌else◌}
use Rattle.std.proofs.lemmas.List.{drop_more, take_more, map_push}
use Rattle.std.proofs.Math.ListN.{drop_of_length-le}
use Rattle.sq_value.proofs.Truths.{neither_left, neither_right}
use Rattle.sq_value.specs.declared.truth.Truth.{Truth}
use Rattle.sq_value.specs.declared.truth.Truth.TheVariants.{False, Unknown, True}
use Rattle.sq_meaning.specs.Status.{Outcome, ◌>>=◌}
use Rattle.sq_meaning.specs.Query.{is_true}
use Rattle.sq_expression.specs.Fault.{Meets, status_of}
use Rattle.sq_query.specs.Target.{are_true}
use Rattle.sq_expression.specs.declared.fault.Fault.{Fault}
use Rattle.sq_expression.specs.declared.fault.Fault.TheVariants as fault

module _ {X : Type 0} (test : X → Outcome Truth) (whole : Outcome Bool) (xs : List X) (i : ℕ) (x : X) (within : i < length xs) (is : x ≡ get_or xs i x) (left : whole ≡ are_true test (drop i xs)) where
  first_left : whole ≡ (is_true (test x) >>= λ holds. if holds then are_true test (drop (i + 1) xs) else Ok false)
  first_left = left ∙ ap (are_true test) (drop_more xs i x within ∙ ap (λ (y : X). y ∷ drop (i + 1) xs) (sym is))

  outcome_is : (r : Outcome Truth) → test x ≡ r → whole ≡ (is_true r >>= λ holds. if holds then are_true test (drop (i + 1) xs) else Ok false)
  outcome_is r has = first_left ∙ ap (λ (o : Outcome Truth). is_true o >>= λ holds. if holds then are_true test (drop (i + 1) xs) else Ok false) has

  pub level_true : test x ≡ Ok True → whole ≡ are_true test (drop (i + 1) xs)
  level_true has = outcome_is (Ok True) has

  pub level_not : (t : Truth) → t ≢ True → test x ≡ Ok t → whole ≡ Ok false
  level_not False other has = outcome_is (Ok False) has
  level_not Unknown other has = outcome_is (Ok Unknown) has
  level_not True other has = absurd (other refl)

  pub level_failed : (e : Fault) → Meets {A = Truth} (Err e) (test x) → Meets {A = Bool} (Err e) whole
  level_failed fault.NoMemory failed = tt
  level_failed (fault.Status s) failed = outcome_is (Err (status_of s)) failed

pub levels_end : {X : Type 0} (test : X → Outcome Truth) (whole : Outcome Bool) (xs : List X) (i : ℕ) → length xs ≤ i → whole ≡ are_true test (drop i xs) → whole ≡ Ok true
levels_end test whole xs i past left = left ∙ ap (are_true test) (drop_of_length-le xs past)

-- tests in turn over what is lent are those over the values themselves
pub are_true_lent : {X : Type 0} (test : X → Outcome Truth) (xs : List (Bor X)) → are_true (λ (b : Bor X). test b.now) xs ≡ are_true test (map (λ (b : Bor X). b.now) xs)
are_true_lent test [] = refl
are_true_lent test (b ∷ xs) = ap (λ (rest : Outcome Bool). is_true (test b.now) >>= λ holds. if holds then rest else Ok false) (are_true_lent test xs)

-- where no element passes a test, the one at an index does not
pub none_at : {X : Type 0} (p : X → Bool) (xs : List (Bor X)) (i : ℕ) (b : Bor X)
    → i < length xs → b ≡ get_or xs i b → list_any p (map (λ (c : Bor X). c.now) xs) ≡ false → p b.now ≡ false
none_at p [] i b within is none = let no : i < 0 = within in let never : ⊥ = omega arith in absurd never
none_at {X} p (c ∷ xs) zero b within is none =
    subst (λ (d : Bor X). p d.now ≡ false) (sym is) (neither_left (p c.now) (list_any p (map (λ (d : Bor X). d.now) xs)) none)
none_at {X} p (c ∷ xs) (suc i) b within is none =
    none_at p xs i b (omega arith) is (neither_right (p c.now) (list_any p (map (λ (d : Bor X). d.now) xs)) none)

pub lent_more : {X : Type 0} (levels next : List (Bor X)) (b : Bor X) (xs : List X) (i : ℕ) (x : X)
    → i < length xs → x ≡ get_or xs i x → b.now ≡ x → next ≡ levels ++ b ∷ [] → map (λ (c : Bor X). c.now) levels ≡ take i xs
    → map (λ (c : Bor X). c.now) next ≡ take (i + 1) xs
lent_more {X} levels next b xs i x within is shows grown so_far =
    ap (map (λ (c : Bor X). c.now)) grown
    ∙ map_push (λ (c : Bor X). c.now) levels b
    ∙ ap (λ (ys : List X). ys ++ b.now ∷ []) so_far
    ∙ ap (λ (y : X). take i xs ++ y ∷ []) (shows ∙ is)
    ∙ sym (take_more xs i x within)

pub chosen_by : {X : Type 0} (p : X → Bool) (test : X → Outcome Truth) (r : Result Bool Fault) (items : List (Bor X)) (conditions : List X)
    → map (λ (b : Bor X). b.now) items ≡ conditions
    → (list_any p (map (λ (b : Bor X). b.now) items) ≡ false → Meets r (are_true (λ (b : Bor X). test b.now) items))
    → list_any p conditions ≡ false → Meets r (are_true test conditions)
chosen_by {X} p test r items conditions same meets none =
    subst (λ (o : Outcome Bool). Meets r o) (are_true_lent test items ∙ ap (are_true test) same)
    (meets (subst (λ (cs : List X). list_any p cs ≡ false) (sym same) none))

-- what holds of all of them holds of one of them
pub lent_at : {X : Type 0} (P : X → Type 0) (xs : List (Bor X)) (i : ℕ) (b : Bor X) → i < length xs → b ≡ get_or xs i b → AllByRecursion P (map (λ (c : Bor X). c.now) xs) → P b.now
lent_at P [] i b within is all = let no : i < 0 = within in let never : ⊥ = omega arith in absurd never
lent_at {X} P (c ∷ xs) zero b within is all = subst (λ (d : Bor X). P d.now) (sym is) all.0
lent_at P (c ∷ xs) (suc i) b within is all = lent_at P xs i b (omega arith) is all.1

pub told_by : {X : Type 0} (test : X → Outcome Truth) (r : Result Bool Fault) (items : List (Bor X)) (conditions : List X) → map (λ (b : Bor X). b.now) items ≡ conditions
    → Meets r (are_true (λ (b : Bor X). test b.now) items) → Meets r (are_true test conditions)
told_by {X} test r items conditions same meets = subst (λ (o : Outcome Bool). Meets r o) (are_true_lent test items ∙ ap (are_true test) same) meets
