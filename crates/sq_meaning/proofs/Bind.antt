-- The parts of an outcome that goes on.
use Rattle.std.specs.Prelude.{◌≡◌, refl, Ok, Err}
use Rattle.sq_meaning.specs.Status.{Outcome, and_then}

pub bind_ok : {A B : Type 0} (x : Outcome A) (f : A → Outcome B) (y : B) → and_then x f ≡ Ok y → (a : A) × (x ≡ Ok a) × (f a ≡ Ok y)
bind_ok (Ok a) f y e = (a, refl, e)
bind_ok (Err s) f y e = cc
