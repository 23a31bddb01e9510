-- Parts one after another: the next part, and a loop that goes on from each part to the next.
use Rattle.std.proofs.Common.{◌≡◌, ℕ, ◌+◌, ◌<◌, ◌≤◌, List, [], ◌∷◌, length, drop, map, get_or, Ok, Err, refl, sym, subst, ap, ◌∙◌}
use Rattle.std.proofs.lemmas.List.{drop_all, drop_more}
use Rattle.std.specs.Prelude.{Result}
use Rattle.std.specs.Result.{IsErrAnd}
use Rattle.sq_meaning.specs.declared.fault.BindingFault.{BindingFault}
use Rattle.sq_binding.specs.Outcome.{Outcome, and_then}
use Rattle.sq_binder.specs.Binds.{Binds, Stops}
use Rattle.sq_binder.specs.declared.stop.Fault.{Fault as Broken}
use Rattle.sq_binder.specs.declared.stop.Stop.{Stop}
use Rattle.sq_binder.specs.declared.stop.Stop.TheVariants.{Fault, NoMemory}

-- the outcome is another one
pub binds_as : {A B : Type 0} (image : B → A) (o p : Outcome A) (r : Result B Stop) → o ≡ p → Binds image p r → Binds image o r
binds_as {A} image o p r is h = subst (λ (q : Outcome A). Binds image q r) (sym is) h

pub stops_as : {A : Type 0} (o p : Outcome A) (stop : Stop) → o ≡ p → Stops p stop → Stops o stop
stops_as {A} o p stop is h = subst (λ (q : Outcome A). Stops q stop) (sym is) h

-- binding stops with a fault
pub stops_by : {A : Type 0} (o : Outcome A) (stop : Stop) (f : Broken) → stop ≡ Fault f → o ≡ Err f.rule → Stops o stop
stops_by o stop f is fails = subst (λ (s : Stop). Stops o s) (sym is) fails

-- a part is bound, and then what follows it
pub then_binds : {A B C : Type 0} (image : C → B) (o : Outcome A) (f : A → Outcome B) (x : A) (r : Result C Stop) → o ≡ Ok x → Binds image (f x) r → Binds image (and_then o f) r
then_binds {A} image o f x r is h = subst (λ (p : Outcome A). Binds image (and_then p f) r) (sym is) h

-- binding stops at a part
pub stops_here : {A B : Type 0} (o : Outcome A) (f : A → Outcome B) (stop : Stop) → Stops o stop → Stops (and_then o f) stop
stops_here o f NoMemory s = tt
stops_here {A} o f (Fault fault) s = ap (λ (p : Outcome A). and_then p f) s

-- a stop is handed on
pub handed_on : {A B : Type 0} (image : B → A) (o : Outcome A) (r : Result B Stop) (stop : Stop) → IsErrAnd r (λ s. s ≡ stop) → Stops o stop → Binds image o r
handed_on image o (Ok x) stop is s = absurd is
handed_on image o (Err g) stop is s = subst (λ (g : Stop). Stops o g) (sym is) s

-- ---- loops

-- one step after another
abbrev pub stepped : {A B : Type 0} → (A → B → Outcome A) → Outcome A → List B → Outcome A
stepped step o [] = o
stepped step o (b ∷ bs) = stepped step (and_then o (λ a. step a b)) bs

pub stepped_fault : {A B : Type 0} (step : A → B → Outcome A) (fault : BindingFault) (bs : List B) → stepped step (Err fault) bs ≡ Err fault
stepped_fault step fault [] = refl
stepped_fault step fault (b ∷ bs) = stepped_fault step fault bs

module _ {A B X : Type 0} (step : A → B → Outcome A) (g : X → B) (whole : Outcome A) (xs : List X) (i : ℕ) (a : A) where
  -- the first of those that are left
  first_left : (x : X) → i < length xs → x ≡ get_or xs i x → whole ≡ stepped step (Ok a) (map g (drop i xs)) → whole ≡ stepped step (step a (g x)) (map g (drop (i + 1) xs))
  first_left x within is so_far = so_far ∙ ap (λ (rest : List X). stepped step (Ok a) (map g rest)) (drop_more xs i x within ∙ ap (λ (y : X). y ∷ drop (i + 1) xs) (sym is))

  pub step_done : (x : X) (next : A) → i < length xs → x ≡ get_or xs i x → whole ≡ stepped step (Ok a) (map g (drop i xs)) → step a (g x) ≡ Ok next → whole ≡ stepped step (Ok next) (map g (drop (i + 1) xs))
  step_done x next within is so_far done = first_left x within is so_far ∙ ap (λ (o : Outcome A). stepped step o (map g (drop (i + 1) xs))) done

  pub step_stops : (x : X) (stop : Stop) → i < length xs → x ≡ get_or xs i x → whole ≡ stepped step (Ok a) (map g (drop i xs)) → Stops (step a (g x)) stop → Stops whole stop
  step_stops x NoMemory within is so_far s = tt
  step_stops x (Fault f) within is so_far s =
      first_left x within is so_far ∙ ap (λ (o : Outcome A). stepped step o (map g (drop (i + 1) xs))) s ∙ stepped_fault step f.rule (map g (drop (i + 1) xs))

  pub all_done : length xs ≤ i → whole ≡ stepped step (Ok a) (map g (drop i xs)) → whole ≡ Ok a
  all_done past so_far = so_far ∙ ap (λ (rest : List X). stepped step (Ok a) (map g rest)) (drop_all i xs past)
