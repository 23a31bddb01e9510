-- Left open for beneath: its result; answered without a law.
use Rattle.std.proofs.Common.{◌≡◌, List, Option, Some, ℕ, refl, subst, slice_get}
use Rattle.sq_query.proofs.plain_view.beneath.Goals as goal

pub returns : goal.returns
returns c =
    (refl, λ own column at. let h = c.in_ok-columns.ensures own column at in (h.0, h.1, subst (λ (l : List (Option ℕ)). slice_get l h.0 ≡ Some (Some own)) c.as_slice.ensures.value h.2))
