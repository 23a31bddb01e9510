-- Elements that are tested in turn: all of them meet the test, or the result is the status that is due if one does not.
use Rattle.std.proofs.Common.{◌≡◌, ℕ, ◌+◌, ◌<◌, ◌≤◌, Bool, true, false, ◌&&◌, List, [], ◌∷◌, length, take, get_or, refl, sym, ap, subst, ◌∙◌, Result, Ok, Err}
use Rattle.std.specs.List.{list_all}
use Rattle.std.specs.Result.{IsErrAnd}
use Rattle.std.proofs.lemmas.List.{take_all}
use Rattle.std.proofs.lemmas.List.Folds.{list_all_at, list_all_more}
use Rattle.sq_meaning.specs.declared.status.Status.{Status}
use Rattle.sq_meaning.specs.Constraints.{demanded}
use Rattle.sq_expression.specs.Fault.{Meets}
use Rattle.sq_expression.specs.declared.fault.Fault.{Fault}
use Rattle.sq_expression.specs.declared.fault.Fault.TheVariants as fault
use Rattle.sq_expression.proofs.Expressions.{handed_on}

-- ---- what is demanded

-- a demand that holds is met
pub is_met : (holds : Bool) (s : Status) → holds ≡ true → demanded holds s ≡ Ok tt
is_met holds s h = ap (λ (b : Bool). demanded b s) h

-- demands of equal tests are met alike
pub met_so : (r : Result (Unit {0}) Fault) (holds other : Bool) (s : Status) → holds ≡ other → Meets r (demanded other s) → Meets r (demanded holds s)
met_so r holds other s same h = subst (λ (b : Bool). Meets r (demanded b s)) (sym same) h

pub was_met : (holds : Bool) (s : Status) (u : Unit {0}) → demanded holds s ≡ Ok u → holds ≡ true
was_met true s u h = refl
was_met false s u h = absurd cc

-- where it fails, more fails with the same status
pub more_fails : (f : Fault) (holds more : Bool) (s : Status) → (holds ≡ false → more ≡ false) → Meets {A = Unit {0}} (Err f) (demanded holds s) → Meets {A = Unit {0}} (Err f) (demanded more s)
more_fails fault.NoMemory holds more s so h = tt
more_fails (fault.Status x) true more s so h = absurd cc
more_fails (fault.Status x) false more s so h = is_failed ∙ h
  where
    is_failed : demanded more s ≡ Err s
    is_failed = ap (λ (b : Bool). demanded b s) (so refl)

-- `?` hands the fault on
pub fails_so : (r : Result (Unit {0}) Fault) (f : Fault) (holds more : Bool) (s : Status) → IsErrAnd r (λ g. g ≡ f) → (holds ≡ false → more ≡ false)
    → Meets {A = Unit {0}} (Err f) (demanded holds s) → Meets r (demanded more s)
fails_so r f holds more s is so h = handed_on r f (demanded more s) is (more_fails f holds more s so h)

-- ---- the elements of a list

-- what each element meets
pub each_meets : {X : Type 0} (test : X → Bool) → ((x : X) → test x ≡ true) → (xs : List X) → list_all test xs ≡ true
each_meets test h [] = refl
each_meets test h (x ∷ xs) = ap (λ (b : Bool). b && list_all test xs) (h x) ∙ each_meets test h xs

module _ {X : Type 0} (test : X → Bool) (xs : List X) where
  -- the elements before this one pass the test
  abbrev pub MetTo : ℕ → Type 0
  MetTo i = list_all test (take i xs) ≡ true

  module _ (i : ℕ) (x : X) (within : i < length xs) (is : x ≡ get_or xs i x) where
    pub met_more : MetTo i → test x ≡ true → MetTo (i + 1)
    met_more so_far has = list_all_more test xs i x within ∙ ap (λ (b : Bool). b && test (get_or xs i x)) so_far ∙ ap test (sym is) ∙ has

    pub met_not : test x ≡ false → list_all test xs ≡ false
    met_not has = list_all_at test xs i x within (ap test (sym is) ∙ has)

  pub met_all : (i : ℕ) → length xs ≤ i → MetTo i → list_all test xs ≡ true
  met_all i past so_far = ap (list_all test) (sym (take_all i xs past)) ∙ so_far
