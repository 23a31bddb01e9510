-- Outcomes that are as the rules say: the answer is a fault at these sites, or no rule is broken there.
use Rattle.std.proofs.Common.{◌≡◌, Bool, true, false, List, ◌++◌, Ok, Err, refl}
use Rattle.sq_meaning.specs.Binding.{Judged, has_fault}
use Rattle.sq_meaning.specs.Site.{Site}
use Rattle.sq_meaning.specs.declared.fault.BindingFault.{BindingFault}
use Rattle.sq_binding.specs.Outcome.{Outcome, and_then}
use Rattle.sq_binding.specs.Whole.{must_hold}
use Rattle.sq_binding.proofs.Faultless.Clean.{AllHeld, Clean, clean_both}
use Rattle.sq_binding.proofs.FaultsFound.Sites.{fault_left, fault_right}

-- what there is, as an outcome
abbrev pub okay : {A : Type 0} → A → Outcome A
okay x = Ok x

-- no rule is broken where all privileges are held, or the fault is there
abbrev pub Told : {A : Type 0} → Judged → List Site → Outcome A → Type 0
Told j sites (Ok x) = AllHeld j → Clean j sites
Told j sites (Err f) = has_fault j sites f ≡ true

module _ (j : Judged) where
  pub told_then : {A B : Type 0} (xs ys : List Site) (o : Outcome A) (f : A → Outcome B) → Told j xs o → ((x : A) → o ≡ Ok x → Told j ys (f x)) → Told j (xs ++ ys) (and_then o f)
  told_then xs ys (Err g) f h k = fault_left j g xs ys h
  told_then xs ys (Ok x) f h k = told_second (f x) (k x refl)
    where
      told_second : {B : Type 0} (o : Outcome B) → Told j ys o → Told j (xs ++ ys) o
      told_second (Ok y) k = λ held. clean_both j xs ys (h held) (k held)
      told_second (Err g) k = fault_right j g xs ys k

  -- with what is made of it
  pub told_made : {A B : Type 0} (xs : List Site) (o : Outcome A) (make : A → B) → Told j xs o → Told j xs (and_then o (λ x. Ok (make x)))
  told_made xs (Ok x) make h = h
  told_made xs (Err f) make h = h

  -- a test of these sites
  pub told_test : (xs : List Site) (test : Bool) (f : BindingFault) → (test ≡ true → AllHeld j → Clean j xs) → (test ≡ false → has_fault j xs f ≡ true) → Told j xs (must_hold test f)
  told_test xs true f h g = h refl
  told_test xs false f h g = g refl

  -- what is told at these sites is told at others at which the same is asked
  pub told_at : {A : Type 0} (xs ys : List Site) (o : Outcome A) → ((f : BindingFault) → has_fault j xs f ≡ true → has_fault j ys f ≡ true) → (AllHeld j → Clean j xs → Clean j ys) → Told j xs o → Told j ys o
  told_at xs ys (Ok x) more clean h = λ held. clean held (h held)
  told_at xs ys (Err f) more clean h = more f h
