-- A property of each of two parts holds for them together.
use Rattle.std.proofs.Common.{Ok, Err, sym, subst}
use Rattle.std.specs.Prelude.{Result, IfOk}
use Rattle.sq_binder.specs.Found.{Pairs}
use Rattle.sq_binder.specs.declared.found.Found.{Found}
use Rattle.sq_binder.specs.declared.stop.Stop.{Stop}

module _ {A B : Type 0} where
  pub first_holds : (P : A → Type 0) (left : Found A) (right : Result (Found B) Stop) (r : Result (Found (A × B)) Stop) → Pairs left right r → P left.part → IfOk r (λ both. P both.part.0)
  first_holds P left (Ok right) (Ok both) is h = subst (λ (p : A × B). P p.0) (sym is.0) h
  first_holds P left (Ok right) (Err stop) is h = tt
  first_holds P left (Err earlier) (Ok both) is h = absurd is
  first_holds P left (Err earlier) (Err stop) is h = tt

  pub second_holds : (P : B → Type 0) (left : Found A) (right : Result (Found B) Stop) (r : Result (Found (A × B)) Stop) → Pairs left right r → IfOk right (λ x. P x.part) → IfOk r (λ both. P both.part.1)
  second_holds P left (Ok right) (Ok both) is h = subst (λ (p : A × B). P p.1) (sym is.0) h
  second_holds P left (Ok right) (Err stop) is h = tt
  second_holds P left (Err earlier) (Ok both) is h = absurd is
  second_holds P left (Err earlier) (Err stop) is h = tt
