-- The words of a target behind the name of its parameter.
use Rattle.std.proofs.Common.{◌≡◌, ℕ, List, ◌++◌, append_assoc, ap, codes, Option, Some, None, Result, Ok, Err, IfSome, OnOk, ◌∙◌}
use Rattle.std.specs.declared.alloc.AllocError.{AllocError}
use Rattle.sq_show.specs.CauseWords.{behind_name, fault_words, target_words}
use Rattle.sq_cause.specs.declared.cause.TargetCause.{TargetCause}

behind_one : (t : TargetCause) (o : Option (List ℕ)) (a c d : List ℕ) → c ≡ (a ++ codes "parameter ") ++ t.parameter → IfSome o (λ w. d ≡ c ++ w) → IfSome (behind_name t o) (λ known. d ≡ a ++ known)
behind_one t None a c d e h = tt
behind_one t (Some w) a c d e h =
    h ∙ (ap (λ x. x ++ w) e ∙ (append_assoc (a ++ codes "parameter ") t.parameter w ∙ append_assoc a (codes "parameter ") (t.parameter ++ w)))

pub behind : (r : Result (Unit {0}) AllocError) (t : TargetCause) (a c d : List ℕ) → c ≡ (a ++ codes "parameter ") ++ t.parameter → OnOk r (IfSome (fault_words t.fault) (λ w. d ≡ c ++ w))
    → OnOk r (IfSome (target_words t) (λ known. d ≡ a ++ known))
behind (Err f) t a c d e h = tt
behind (Ok x) t a c d e h = behind_one t (fault_words t.fault) a c d e h
