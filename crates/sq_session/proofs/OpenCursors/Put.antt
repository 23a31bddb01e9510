-- A cursor that is put in place of another.
use Rattle.std.proofs.Common.{◌≡◌, ◌≤◌, ℕ, zero, suc, List, [], ◌∷◌, length, slice_set, slice_index_or, refl, ap, arith}
use Rattle.std.proofs.lemmas.List.{set-get_or}
use Rattle.sq_session.specs.declared.cursor.CursorState.{CursorState}
use Rattle.sq_session.specs.declared.cursor.CursorState.TheVariants as cursor

pub put_same : (cs : List CursorState) (n : ℕ) (c : CursorState) → c ≡ slice_index_or cs n cursor.Closed → slice_set cs n c ≡ cs
put_same cs n c e = rw e (set-get_or cs n cursor.Closed)

-- Putting a cursor at a number past the last changes nothing.
pub put_past : (cs : List CursorState) (n : ℕ) (c : CursorState) → length cs ≤ n → cs ≡ slice_set cs n c
put_past [] n c h = refl
put_past (x ∷ xs) zero c h = absurd (omega (arith, h))
put_past (x ∷ xs) (suc n) c h = ap (λ ys. x ∷ ys) (put_past xs n c (omega (arith, h)))
