-- Conditions that are met, one after the other.
use Rattle.std.proofs.Common.{◌≡◌, ◌<◌, ◌+◌, ◌⊎◌, inl, inr, ℕ, List, slice_get, Option, Some, sym, subst, ap, ◌∙◌}
use Rattle.sq_bound.specs.declared.condition.BoundCond.{BoundCond}
use Rattle.sq_cause.specs.RowEnd.{AreMet}
use Rattle.sq_cause.proofs.NullsBefore.{split}

same_condition : (a b : BoundCond) → (◌≡◌ {A = Option BoundCond} (Some a) (Some b)) → a ≡ b
same_condition a b e = cc

-- the condition at a place, too
pub one_more : (IsMet : BoundCond → Type 0) (cs : List BoundCond) (n : ℕ) (c : BoundCond) → AreMet IsMet cs n → slice_get cs n ≡ Some c → IsMet c → AreMet IsMet cs (n + 1)
one_more IsMet cs n c before at met = λ k d lt there. on k d there (split k n lt)
  where
    on : (k : ℕ) (d : BoundCond) → slice_get cs k ≡ Some d → (k < n) ⊎ (k ≡ n) → IsMet d
    on k d there (inl lt) = before k d lt there
    on k d there (inr e) =
        subst (λ (x : BoundCond). IsMet x) (same_condition c d (sym at ∙ (ap (λ (i : ℕ). slice_get cs i) (sym e) ∙ there))) met
