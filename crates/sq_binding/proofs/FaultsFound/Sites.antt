-- Faults at the sites of a text: at some of them, and so at all.
use Rattle.std.proofs.Common.{◌≡◌, Bool, true, false, ◌||◌, List, [], ◌∷◌, ◌++◌, Ok, Err, refl, sym, ap, ◌∙◌}
use Rattle.std.specs.Prelude.{⊤, if◌then◌else◌}
use Rattle.sq_value.proofs.Truths.{or_true}
use Rattle.sq_meaning.specs.Binding.{Judged, breaks, has_fault}
use Rattle.sq_meaning.specs.Site.{Site}
use Rattle.sq_meaning.specs.declared.fault.BindingFault.{BindingFault}
use Rattle.sq_binding.specs.Outcome.{Outcome, and_then}

-- ---- faults at sites

pub fault_here : (j : Judged) (f : BindingFault) (s : Site) (sites : List Site) → breaks j f s ≡ true → has_fault j (s ∷ sites) f ≡ true
fault_here j f s sites h = ap (λ b. b || has_fault j sites f) h

pub fault_later : (j : Judged) (f : BindingFault) (s : Site) (sites : List Site) → has_fault j sites f ≡ true → has_fault j (s ∷ sites) f ≡ true
fault_later j f s sites h = ap (λ b. breaks j f s || b) h ∙ or_true (breaks j f s)

pub fault_left : (j : Judged) (f : BindingFault) (xs ys : List Site) → has_fault j xs f ≡ true → has_fault j (xs ++ ys) f ≡ true
fault_left j f [] ys h = cc
fault_left j f (x ∷ xs) ys h = first (breaks j f x) refl (fault_left j f xs ys)
  where
    first : (b : Bool) → breaks j f x ≡ b → (has_fault j xs f ≡ true → has_fault j (xs ++ ys) f ≡ true) → has_fault j ((x ∷ xs) ++ ys) f ≡ true
    first true is rest = fault_here j f x (xs ++ ys) is
    first false is rest = fault_later j f x (xs ++ ys) (rest (ap (λ b. b || has_fault j xs f) (sym is) ∙ h))

pub fault_right : (j : Judged) (f : BindingFault) (xs ys : List Site) → has_fault j ys f ≡ true → has_fault j (xs ++ ys) f ≡ true
fault_right j f [] ys h = h
fault_right j f (x ∷ xs) ys h = fault_later j f x (xs ++ ys) (fault_right j f xs ys h)

-- a fault that is answered is at these sites
abbrev pub IfFault : {A : Type 0} → Judged → List Site → Outcome A → Type 0
IfFault j sites (Ok x) = ⊤
IfFault j sites (Err f) = has_fault j sites f ≡ true

-- a fault of two steps is one of the first or of the next
pub next_fault : {A B : Type 0} (j : Judged) (sites : List Site) (o : Outcome A) (f : A → Outcome B) → IfFault j sites o → ((x : A) → o ≡ Ok x → IfFault j sites (f x)) → IfFault j sites (and_then o f)
next_fault j sites (Ok x) f h g = g x refl
next_fault j sites (Err fault) f h g = h

-- more sites
pub more_sites : {A : Type 0} (j : Judged) (xs ys : List Site) (o : Outcome A) → ((f : BindingFault) → has_fault j xs f ≡ true → has_fault j ys f ≡ true) → IfFault j xs o → IfFault j ys o
more_sites j xs ys (Ok x) more h = tt
more_sites j xs ys (Err f) more h = more f h

pub if_fault : {A : Type 0} (j : Judged) (sites : List Site) (f : BindingFault) (t : Bool) (o : Outcome A) → (t ≡ true → has_fault j sites f ≡ true) → (t ≡ false → IfFault j sites o) → IfFault j sites (if t then Err f else o)
if_fault j sites f true o h g = h refl
if_fault j sites f false o h g = g refl

pub either : {P : Type 0} (a b : Bool) → (a || b) ≡ true → (a ≡ true → P) → (b ≡ true → P) → P
either true b t p q = p refl
either false b t p q = q t
