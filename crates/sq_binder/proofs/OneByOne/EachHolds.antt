-- A property of each part of a list that is bound in turn.
use Rattle.std.proofs.Common.{List, [], ◌∷◌, Ok, Err, sym, subst}
use Rattle.std.specs.List.{AllByRecursion}
use Rattle.std.specs.Prelude.{Result, IfOk}
use Rattle.sq_meaning.proofs.AnswerLaws.{all_appended}
use Rattle.sq_binder.specs.Found.{Begins, Continues}
use Rattle.sq_binder.specs.declared.found.Found.{Found}
use Rattle.sq_binder.specs.declared.stop.Stop.{Stop}

module _ {A : Type 0} (P : A → Type 0) where
  pub begun_holds : (first : Result (Found A) Stop) (all : Found (List A)) → Begins first (Ok all) → IfOk first (λ x. P x.part) → AllByRecursion P all.part
  begun_holds (Ok x) all is h = subst (λ (a : Found (List A)). AllByRecursion P a.part) (sym is) (h, tt)
  begun_holds (Err stop) all is h = absurd is

  pub next_holds : (parts : Found (List A)) (next : Result (Found A) Stop) (more : Found (List A)) → Continues parts next (Ok more) → AllByRecursion P parts.part → IfOk next (λ x. P x.part) → AllByRecursion P more.part
  next_holds parts (Ok x) more is h k = subst (AllByRecursion P) (sym is.0) (all_appended P parts.part (x.part ∷ []) h (k, tt))
  next_holds parts (Err stop) more is h k = absurd is
