-- Steps that all have a value, one after the other.
use Rattle.std.proofs.Common.{◌≡◌, Ok, ap, ◌∙◌}
use Rattle.sq_meaning.specs.Status.{Outcome, and_then}

pub one_step : {A B : Type 0} (make : A → B) (o : Outcome A) (x : A) → o ≡ Ok x → and_then o (λ x. Ok (make x)) ≡ Ok (make x)
one_step {A} {B} make o x e = ap (λ (o : Outcome A). and_then o (λ x. Ok (make x))) e

pub two_steps : {A B C : Type 0} (make : A → B → C) (o : Outcome A) (r : Outcome B) (x : A) (y : B) → o ≡ Ok x → r ≡ Ok y → and_then o (λ x. and_then r (λ y. Ok (make x y))) ≡ Ok (make x y)
two_steps {A} {B} {C} make o r x y e f = ap (λ (o : Outcome A). and_then o (λ x. and_then r (λ y. Ok (make x y)))) e ∙ one_step (make x) r y f

pub three_steps : {A B C D : Type 0} (make : A → B → C → D) (o : Outcome A) (r : Outcome B) (s : Outcome C) (x : A) (y : B) (z : C) → o ≡ Ok x → r ≡ Ok y → s ≡ Ok z
    → and_then o (λ x. and_then r (λ y. and_then s (λ z. Ok (make x y z)))) ≡ Ok (make x y z)
three_steps {A} {B} {C} {D} make o r s x y z e f g = ap (λ (o : Outcome A). and_then o (λ x. and_then r (λ y. and_then s (λ z. Ok (make x y z))))) e ∙ two_steps (make x) r s y z f g

-- four that look at the first
pub five_steps : {A B C D E F : Type 0} (make : A → B → C → D → E → F) (o : Outcome A) (f : A → Outcome B) (g : A → Outcome C) (h : A → Outcome D) (k : A → Outcome E) (x : A) (y : B) (z : C) (u : D) (v : E)
    → o ≡ Ok x → f x ≡ Ok y → g x ≡ Ok z → h x ≡ Ok u → k x ≡ Ok v
    → and_then o (λ x. and_then (f x) (λ y. and_then (g x) (λ z. and_then (h x) (λ u. and_then (k x) (λ v. Ok (make x y z u v)))))) ≡ Ok (make x y z u v)
five_steps {A} {B} {C} {D} {E} {F} make o f g h k x y z u v e0 e1 e2 e3 e4 =
    ap (λ (o : Outcome A). and_then o (λ x. and_then (f x) (λ y. and_then (g x) (λ z. and_then (h x) (λ u. and_then (k x) (λ v. Ok (make x y z u v))))))) e0
    ∙ ap (λ (o : Outcome B). and_then o (λ y. and_then (g x) (λ z. and_then (h x) (λ u. and_then (k x) (λ v. Ok (make x y z u v)))))) e1
    ∙ three_steps (make x y) (g x) (h x) (k x) z u v e2 e3 e4
