-- Two tests that decide one statement are equal.
use Rattle.std.proofs.Common.{◌≡◌, ◌↔◌, Bool, true, false, refl, sym}
use Rattle.std.specs.Prelude.{Decides}

pub alike : {P : Type 0} (a b : Bool) → Decides b P → (a ≡ true ↔ P) → a ≡ b
alike true b decides iff = sym (decides.1 (iff.0 refl))
alike false true decides iff = iff.1 (decides.0 refl)
alike false false decides iff = refl
