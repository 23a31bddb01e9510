-- Parts that are bound one after the other, as the rules say at their sites.
use Rattle.std.proofs.Common.{◌≡◌, Bool, true, false, List, [], ◌∷◌, ◌++◌, Ok, Err, refl, sym, subst, ◌∙◌}
use Rattle.std.proofs.lemmas.List.{append-nil}
use Rattle.std.specs.List.{AllByRecursion, flat_map}
use Rattle.std.specs.Prelude.{⊤}
use Rattle.sq_value.proofs.Truths.{or_comm}
use Rattle.sq_meaning.specs.Binding.{Judged, breaks, has_fault}
use Rattle.sq_meaning.specs.Site.{Site}
use Rattle.sq_meaning.specs.declared.fault.BindingFault.{BindingFault}
use Rattle.sq_binding.specs.Found.{Binding, Counts, Found, ◌>>=◌, after, each, has_found, joined, must, outcome, pure, then_joined}
use Rattle.sq_binding.specs.Outcome.{Outcome, and_then}
use Rattle.sq_binding.specs.QueryFindings.{QueryFindings}
use Rattle.sq_binding.proofs.Faultless.Clean.{AllHeld, Clean, clean_both, clean_parts, no_site}
use Rattle.sq_binding.proofs.Faultless.CleanConds.{KnownIf}
use Rattle.sq_binding.proofs.FaultsFound.Judged.{IfJudged, Judges}
use Rattle.sq_binding.proofs.AtSites.Seen.{any_both}
use Rattle.sq_binding.proofs.Exactly.Told.{Told, told_at, told_made, told_then}

abbrev pub Tells : {A : Type 0} → Judged → List Site → Binding A → Type 0
Tells j sites b = (counts : Counts) → Told j sites (b counts)

module _ (j : Judged) where
  judged_told : {A : Type 0} (sites : List Site) (G C : Type 0) (P : A → Type 0) (o : Outcome (Found A)) → IfJudged j sites G C P o → (AllHeld j → (z : Found A) → o ≡ Ok z → Clean j sites) → Told j sites o
  judged_told sites G C P (Ok z) h clean = λ held. clean held z refl
  judged_told sites G C P (Err f) h clean = h

  -- what has the faults of its sites, and breaks no rule there where it is bound
  pub judged_tells : {A : Type 0} (sites : List Site) (G C : Type 0) (P : A → Type 0) (b : Binding A) → Judges j sites G C P b → (AllHeld j → (counts : Counts) (z : Found A) → b counts ≡ Ok z → Clean j sites) → Tells j sites b
  judged_tells sites G C P b h clean counts = judged_told sites G C P (b counts) (h counts) (λ held z is. clean held counts z is)

  pub then_tells : {A B : Type 0} (xs ys : List Site) (P : A → Type 0) (b : Binding A) (f : A → Binding B) → KnownIf P b → Tells j xs b → ((x : A) → P x → Tells j ys (f x)) → Tells j (xs ++ ys) (b >>= f)
  then_tells xs ys P b f known h g counts =
      told_then j xs ys (b counts) (λ x. then_joined x (f x.part (after counts x))) (h counts) (λ x is. told_made j ys (f x.part (after counts x)) (joined x) (g x.part (known counts x is) (after counts x)))

  pub pure_tells : {A : Type 0} (x : A) → Tells j [] (pure x)
  pure_tells x counts held = no_site j

  pub found_tells : (found : QueryFindings) → Tells j [] (has_found found)
  found_tells found counts held = no_site j

  pub outcome_tells : {A : Type 0} (sites : List Site) (o : Outcome A) → Told j sites o → Tells j sites (outcome o)
  outcome_tells sites (Ok x) h counts = h
  outcome_tells sites (Err f) h counts = h

  pub must_tells : (sites : List Site) (test : Bool) (f : BindingFault) → (test ≡ true → AllHeld j → Clean j sites) → (test ≡ false → has_fault j sites f ≡ true) → Tells j sites (must test f)
  must_tells sites true f h g counts = h refl
  must_tells sites false f h g counts = g refl

  -- what is told at these sites is told at others at which the same is asked
  pub tells_at : {A : Type 0} (xs ys : List Site) (b : Binding A) → ((f : BindingFault) → has_fault j xs f ≡ true → has_fault j ys f ≡ true) → (AllHeld j → Clean j xs → Clean j ys) → Tells j xs b → Tells j ys b
  tells_at xs ys b more clean h counts = told_at j xs ys (b counts) more clean (h counts)

  -- with what is made of it
  pub made_tells : {A B : Type 0} (xs : List Site) (b : Binding A) (make : A → B) → Tells j xs b → Tells j xs (b >>= λ x. pure (make x))
  made_tells {A} xs b make h counts = told_last (b counts) (h counts)
    where
      told_last : (o : Outcome (Found A)) → Told j xs o → Told j xs (and_then o (λ x. then_joined x (pure (make x.part) (after counts x))))
      told_last (Ok x) h = h
      told_last (Err f) h = h

  pub each_tells : {A B : Type 0} (sites_of : A → List Site) (f : A → Binding B) → ((x : A) → Tells j (sites_of x) (f x)) → (xs : List A) → Tells j (flat_map sites_of xs) (each f xs)
  each_tells {A} {B} sites_of f h [] = pure_tells {A = List B} []
  each_tells {A} {B} sites_of f h (x ∷ xs) =
      then_tells (sites_of x) (flat_map sites_of xs) (λ y. ⊤) (f x) (λ y. each f xs >>= λ ys. pure (y ∷ ys)) (λ counts z is. tt) (h x)
      (λ y u. made_tells (flat_map sites_of xs) (each f xs) (λ ys. y ∷ ys) (each_tells sites_of f h xs))

  -- each of a list tells its sites, where something is known of each
  pub each_tells_if : {A B : Type 0} (W : A → Type 0) (sites_of : A → List Site) (f : A → Binding B) → ((x : A) → W x → Tells j (sites_of x) (f x)) → (xs : List A) → AllByRecursion W xs → Tells j (flat_map sites_of xs) (each f xs)
  each_tells_if {A} {B} W sites_of f h [] w = pure_tells {A = List B} []
  each_tells_if {A} {B} W sites_of f h (x ∷ xs) w =
      then_tells (sites_of x) (flat_map sites_of xs) (λ y. ⊤) (f x) (λ y. each f xs >>= λ ys. pure (y ∷ ys)) (λ counts z is. tt) (h x w.0)
      (λ y u. made_tells (flat_map sites_of xs) (each f xs) (λ ys. y ∷ ys) (each_tells_if W sites_of f h xs w.1))

  -- what is told at these sites is told at them in another order
  pub turned_tells : {A : Type 0} (xs ys : List Site) (b : Binding A) → Tells j (xs ++ ys) b → Tells j (ys ++ xs) b
  turned_tells xs ys b =
      tells_at (xs ++ ys) (ys ++ xs) b (λ f h. any_both (breaks j f) ys xs ∙ or_comm (has_fault j ys f) (has_fault j xs f) ∙ sym (any_both (breaks j f) xs ys) ∙ h)
      (λ held clean. let parts = clean_parts j xs ys clean in clean_both j ys xs parts.1 parts.0)

  -- behind which nothing is asked
  pub first_tells : {A B : Type 0} (xs : List Site) (b : Binding A) (f : A → Binding B) → Tells j xs b → ((x : A) → Tells j [] (f x)) → Tells j xs (b >>= f)
  first_tells xs b f h g = subst (λ sites. Tells j sites (b >>= f)) (append-nil xs) (then_tells xs [] (λ x. ⊤) b f (λ counts z is. tt) h (λ x u. g x))
