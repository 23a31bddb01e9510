-- Parts of a schema element, each refused for one fault exactly if a rule is broken. One after the other, they are refused for the first
-- of these faults whose rule is broken.
use Rattle.std.proofs.Common.{◌≡◌, Bool, true, false, ◌||◌, List, [], ◌∷◌, ◌++◌, Option, Some, None, Ok, Err, refl, sym, ap, subst, ◌∙◌}
use Rattle.std.specs.List.{AllByRecursion, AllZip, list_any}
use Rattle.std.specs.Prelude.{if◌then◌else◌, is_none}
use Rattle.sq_meaning.specs.declared.refusal.SchemaFault.{SchemaFault}
use Rattle.sq_binding.specs.ElementOutcome.{Outcome, and_then, each, or_fault, refused_if}

-- ---- one fault

-- An element is refused for this fault exactly where a rule is broken; what is accepted has the property P.
abbrev pub Tells : {A : Type 0} → SchemaFault → Bool → (A → Type 0) → Outcome A → Type 0
Tells f broken P (Ok x) = (broken ≡ false) × P x
Tells f broken P (Err g) = (g ≡ f) × (broken ≡ true)

module _ (f : SchemaFault) where
  pub tells_at : {A : Type 0} (a b : Bool) (P : A → Type 0) (o : Outcome A) → a ≡ b → Tells f a P o → Tells f b P o
  tells_at a b P o e h = subst (λ b. Tells f b P o) e h

  pub tells_more : {A : Type 0} (b : Bool) (P Q : A → Type 0) (o : Outcome A) → ((x : A) → P x → Q x) → Tells f b P o → Tells f b Q o
  tells_more b P Q (Ok x) more h = (h.0, more x h.1)
  tells_more b P Q (Err g) more h = h

  pub tells_if : (b : Bool) → Tells f b (λ u. b ≡ false) (refused_if f b)
  tells_if true = (refl, refl)
  tells_if false = (refl, refl)

  pub tells_there : {A : Type 0} (o : Option A) → Tells f (is_none o) (λ x. o ≡ Some x) (or_fault f o)
  tells_there None = (refl, refl)
  tells_there (Some x) = (refl, refl)

  second : {A : Type 0} (a b : Bool) (P : A → Type 0) (o : Outcome A) → a ≡ false → Tells f b P o → Tells f (a || b) P o
  second a b P o e h = subst (λ a. Tells f (a || b) P o) (sym e) h

  pub tells_then : {A B : Type 0} (a b : Bool) (P : A → Type 0) (Q : B → Type 0) (o : Outcome A) (k : A → Outcome B) → Tells f a P o → ((x : A) → P x → Tells f b Q (k x)) → Tells f (a || b) Q (and_then o k)
  tells_then a b P Q (Ok x) k h g = second a b Q (k x) h.0 (g x h.1)
  tells_then a b P Q (Err e) k h g = (h.0, ap (λ a. a || b) h.1)

  -- with what is made of it
  pub tells_made : {A B : Type 0} (a : Bool) (P : A → Type 0) (Q : B → Type 0) (o : Outcome A) (make : A → B) → Tells f a P o → ((x : A) → P x → Q (make x)) → Tells f a Q (and_then o (λ x. Ok (make x)))
  tells_made a P Q (Ok x) make h g = (h.0, g x h.1)
  tells_made a P Q (Err e) make h g = h

  -- each of a list
  pub tells_each : {A B : Type 0} (broken : A → Bool) (P : A → B → Type 0) (g : A → Outcome B) → ((x : A) → Tells f (broken x) (P x) (g x)) → (xs : List A) → Tells f (list_any broken xs) (AllZip P xs) (each g xs)
  tells_each broken P g h [] = (refl, tt)
  tells_each broken P g h (x ∷ xs) =
      tells_then (broken x) (list_any broken xs) (P x) (AllZip P (x ∷ xs)) (g x) (λ y. and_then (each g xs) (λ ys. Ok (y ∷ ys))) (h x)
      (λ y p. tells_made (list_any broken xs) (AllZip P xs) (AllZip P (x ∷ xs)) (each g xs) (λ ys. y ∷ ys) (tells_each broken P g h xs) (λ ys ps. (p, ps)))

-- ---- one fault after the other

-- rules with their faults
abbrev pub first_broken : List (SchemaFault × Bool) → Option SchemaFault
first_broken [] = None
first_broken (r ∷ rs) = if r.1 then Some r.0 else first_broken rs

-- without the first one
abbrev pub behind : List (SchemaFault × Bool) → List (SchemaFault × Bool)
behind [] = []
behind (r ∷ rs) = rs

-- An element is refused for the first fault whose rule is broken; what is accepted has the property P.
abbrev pub Answers : {A : Type 0} → List (SchemaFault × Bool) → (A → Type 0) → Outcome A → Type 0
Answers rules P (Ok x) = (first_broken rules ≡ None) × P x
Answers rules P (Err f) = first_broken rules ≡ Some f

pub answers_ok : {A : Type 0} (P : A → Type 0) (x : A) → P x → Answers [] P (Ok x)
answers_ok P x h = (refl, h)

passed : {A : Type 0} (f : SchemaFault) (b : Bool) (rules : List (SchemaFault × Bool)) (P : A → Type 0) (o : Outcome A) → b ≡ false → Answers rules P o → Answers ((f, b) ∷ rules) P o
passed f b rules P o e h = subst (λ b. Answers ((f, b) ∷ rules) P o) (sym e) (there o h)
  where
    there : (o : Outcome _) → Answers rules P o → Answers ((f, false) ∷ rules) P o
    there (Ok x) h = h
    there (Err g) h = h

pub answers_then : {A B : Type 0} (f : SchemaFault) (b : Bool) (rules : List (SchemaFault × Bool)) (P : A → Type 0) (Q : B → Type 0) (o : Outcome A) (k : A → Outcome B) → Tells f b P o → ((x : A) → P x → Answers rules Q (k x)) → Answers ((f, b) ∷ rules) Q (and_then o k)
answers_then f b rules P Q (Ok x) k h g = passed f b rules Q (k x) h.0 (g x h.1)
answers_then f b rules P Q (Err e) k h g = λ i. if h.1 i then Some (sym h.0 i) else first_broken rules

-- a rule that is never broken
pub answers_skip : {A : Type 0} (f : SchemaFault) (rules : List (SchemaFault × Bool)) (P : A → Type 0) (o : Outcome A) → Answers rules P o → Answers ((f, false) ∷ rules) P o
answers_skip f rules P o h = passed f false rules P o refl h

-- with what is made of it
pub answers_made : {A B : Type 0} (rules : List (SchemaFault × Bool)) (P : A → Type 0) (Q : B → Type 0) (o : Outcome A) (make : A → B) → Answers rules P o → ((x : A) → P x → Q (make x)) → Answers rules Q (and_then o (λ x. Ok (make x)))
answers_made rules P Q (Ok x) make h g = (h.0, g x h.1)
answers_made rules P Q (Err f) make h g = h

-- other rules with the same first fault
pub answers_at : {A : Type 0} (rules others : List (SchemaFault × Bool)) (P : A → Type 0) (o : Outcome A) → first_broken rules ≡ first_broken others → Answers rules P o → Answers others P o
answers_at rules others P (Ok x) e h = (sym e ∙ h.0, h.1)
answers_at rules others P (Err f) e h = sym e ∙ h

-- two rules of one fault
pub one_rule : (f : SchemaFault) (a b : Bool) (rules : List (SchemaFault × Bool)) → first_broken ((f, a) ∷ (f, b) ∷ rules) ≡ first_broken ((f, a || b) ∷ rules)
one_rule f true b rules = refl
one_rule f false b rules = refl

-- ---- more of both

pub if_told : (f : SchemaFault) (a b : Bool) → a ≡ b → Tells f b (λ u. b ≡ false) (refused_if f a)
if_told f a b e = subst (λ b. Tells f b (λ u. b ≡ false) (refused_if f a)) e (tells_if f a)

-- each of a list in whose place something else is asked
pub tells_each_of : {A B C : Type 0} (f : SchemaFault) (broken : A → Bool) (R : A → B → Type 0) (P : A → C → Type 0) (g : B → Outcome C) → ((x : A) (y : B) → R x y → Tells f (broken x) (P x) (g y)) → (xs : List A) (ys : List B) → AllZip R xs ys
    → Tells f (list_any broken xs) (AllZip P xs) (each g ys)
tells_each_of f broken R P g h [] [] all = (refl, tt)
tells_each_of f broken R P g h [] (y ∷ ys) all = absurd all
tells_each_of f broken R P g h (x ∷ xs) [] all = absurd all
tells_each_of f broken R P g h (x ∷ xs) (y ∷ ys) all =
    tells_then f (broken x) (list_any broken xs) (P x) (AllZip P (x ∷ xs)) (g y) (λ z. and_then (each g ys) (λ zs. Ok (z ∷ zs))) (h x y all.0)
    (λ z p. tells_made f (list_any broken xs) (AllZip P xs) (AllZip P (x ∷ xs)) (each g ys) (λ zs. z ∷ zs) (tells_each_of f broken R P g h xs ys all.1) (λ zs ps. (p, ps)))

-- each of a list of which something is known
pub tells_each_where : {A B : Type 0} (f : SchemaFault) (broken : A → Bool) (W : A → Type 0) (P : A → B → Type 0) (g : A → Outcome B) → ((x : A) → W x → Tells f (broken x) (P x) (g x)) → (xs : List A) → AllByRecursion W xs
    → Tells f (list_any broken xs) (AllZip P xs) (each g xs)
tells_each_where f broken W P g h [] all = (refl, tt)
tells_each_where f broken W P g h (x ∷ xs) all =
    tells_then f (broken x) (list_any broken xs) (P x) (AllZip P (x ∷ xs)) (g x) (λ z. and_then (each g xs) (λ zs. Ok (z ∷ zs))) (h x all.0)
    (λ z p. tells_made f (list_any broken xs) (AllZip P xs) (AllZip P (x ∷ xs)) (each g xs) (λ zs. z ∷ zs) (tells_each_where f broken W P g h xs all.1) (λ zs ps. (p, ps)))

-- one rule
pub answers_end : {A : Type 0} (f : SchemaFault) (b : Bool) (P : A → Type 0) (o : Outcome A) → Tells f b P o → Answers ((f, b) ∷ []) P o
answers_end f b P (Ok x) h = ((λ i. if h.0 i then Some f else None), h.1)
answers_end f b P (Err g) h = λ i. if h.1 i then Some (sym h.0 i) else None

broken_later : (rules others : List (SchemaFault × Bool)) → first_broken rules ≡ None → first_broken (rules ++ others) ≡ first_broken others
broken_later [] others e = refl
broken_later (r ∷ rules) others e = by r.1 e (λ e. broken_later rules others e)
  where
    by : (b : Bool) → (if b then Some r.0 else first_broken rules) ≡ None → (first_broken rules ≡ None → first_broken (rules ++ others) ≡ first_broken others) → (if b then Some r.0 else first_broken (rules ++ others)) ≡ first_broken others
    by true e h = cc
    by false e h = h e

broken_first : (rules others : List (SchemaFault × Bool)) (f : SchemaFault) → first_broken rules ≡ Some f → first_broken (rules ++ others) ≡ Some f
broken_first [] others f e = cc
broken_first (r ∷ rules) others f e = by r.1 e (λ e. broken_first rules others f e)
  where
    by : (b : Bool) → (if b then Some r.0 else first_broken rules) ≡ Some f → (first_broken rules ≡ Some f → first_broken (rules ++ others) ≡ Some f) → (if b then Some r.0 else first_broken (rules ++ others)) ≡ Some f
    by true e h = e
    by false e h = h e

-- some rules, and then others
pub answers_both : {A B : Type 0} (rules others : List (SchemaFault × Bool)) (P : A → Type 0) (Q : B → Type 0) (o : Outcome A) (k : A → Outcome B) → Answers rules P o → ((x : A) → P x → Answers others Q (k x)) → Answers (rules ++ others) Q (and_then o k)
answers_both rules others P Q (Ok x) k h g = answers_at others (rules ++ others) Q (k x) (sym (broken_later rules others h.0)) (g x h.1)
answers_both rules others P Q (Err f) k h g = broken_first rules others f h

-- what is accepted is what is answered
pub tells_known : {A : Type 0} (f : SchemaFault) (b : Bool) (P : A → Type 0) (o : Outcome A) → Tells f b P o → Tells f b (λ x. P x × (o ≡ Ok x)) o
tells_known f b P (Ok x) h = (h.0, (h.1, refl))
tells_known f b P (Err g) h = h

pub answers_known : {A : Type 0} (rules : List (SchemaFault × Bool)) (P : A → Type 0) (o : Outcome A) → Answers rules P o → Answers rules (λ x. P x × (o ≡ Ok x)) o
answers_known rules P (Ok x) h = (h.0, (h.1, refl))
answers_known rules P (Err f) h = h

-- the steps of what is accepted
pub record Steps {A B : Type 0} (o : Outcome A) (f : A → Outcome B) (y : B) : Type 0 where
  pub step : A
  pub first : o ≡ Ok step
  pub second : f step ≡ Ok y

pub steps_of : {A B : Type 0} (o : Outcome A) (f : A → Outcome B) (y : B) → and_then o f ≡ Ok y → Steps o f y
steps_of (Ok x) f y e = record { step = x; first = refl; second = e }
steps_of (Err g) f y e = cc

pub or_fault_ok : {A : Type 0} (f : SchemaFault) (o : Option A) (x : A) → or_fault f o ≡ Ok x → o ≡ Some x
or_fault_ok f None x e = cc
or_fault_ok f (Some y) x e = let same : y ≡ x = cc in ap Some same
