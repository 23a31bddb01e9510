-- Cursors that are closed one after the other.
use Rattle.std.proofs.Common.{◌≡◌, ◌++◌, ◌+◌, ℕ, zero, suc, List, [], ◌∷◌, map, length, replicate, take, drop, slice_set, refl, ap, add-one}
use Rattle.sq_session.specs.declared.cursor.CursorState.{CursorState}
use Rattle.sq_session.specs.declared.cursor.CursorState.TheVariants as cursor
use Rattle.sq_session.specs.State.{all_closed, closed}

-- the first cursors closed, and the others as they were
abbrev pub closed_below : ℕ → List CursorState → List CursorState
closed_below n cs = map closed (take n cs) ++ drop n cs

closed_suc : (n : ℕ) (cs : List CursorState) → slice_set (closed_below n cs) n cursor.Closed ≡ closed_below (suc n) cs
closed_suc zero [] = refl
closed_suc zero (c ∷ cs) = refl
closed_suc (suc n) [] = refl
closed_suc (suc n) (c ∷ cs) = ap (λ xs. cursor.Closed ∷ xs) (closed_suc n cs)

-- the next one is closed
pub closed_next : (n : ℕ) (cs : List CursorState) → slice_set (closed_below n cs) n cursor.Closed ≡ closed_below (n + 1) cs
closed_next n cs = rw add-one (closed_suc n cs)

pub closed_none : (cs : List CursorState) → closed_below 0 cs ≡ cs
closed_none cs = refl

-- in the end all are closed
pub closed_whole : (cs : List CursorState) → closed_below (length cs) cs ≡ all_closed cs
closed_whole [] = refl
closed_whole (c ∷ cs) = ap (λ xs. cursor.Closed ∷ xs) (closed_whole cs)

pub replicated_closed : (n : ℕ) → replicate n cursor.Closed ≡ all_closed (replicate n cursor.Closed)
replicated_closed zero = refl
replicated_closed (suc n) = ap (λ xs. cursor.Closed ∷ xs) (replicated_closed n)
