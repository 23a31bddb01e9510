-- Laws of FETCH (ISO/IEC 9075:1992, 13.3).
use Rattle.std.proofs.Common.{ap, arith, ◌∙◌}
use Rattle.std.proofs.lemmas.Option.{slice_get_past}
use Rattle.std.specs.List.{AllByRecursion}
use Rattle.std.specs.Prelude.{◌≡◌, ℕ, zero, suc, ◌+◌, ◌≤◌, List, [], ◌∷◌, ◌++◌, map, length, replicate, ℤ, pos, negsuc, ◌+ℤ◌, slice_get, Option, refl, Some, None}
use Rattle.sq_value.specs.SetFunctions.{numbers}
use Rattle.sq_value.specs.declared.value.Value.{Value}
use Rattle.sq_meaning.specs.Cursor.{CursorState, Fetched, Move, at_number, at_place, bounded, fetched, to_next, wanted}

bounded_within : (n : ℕ) (z : ℤ) → bounded n z ≤ n + 1
bounded_within n (pos k) = omega arith
bounded_within n (negsuc k) = omega arith

-- A cursor over fixed rows is afterwards at a place from 0 to one more than their count, and has the row there.
pub place_stays_within : (now : ℕ → Option (List Value)) (move : Move) (rows : List (List Value)) (place : ℕ)
    → (q : ℕ) × (fetched now move (CursorState.over_rows rows place) ≡ at_place rows q) × (q ≤ length rows + 1)
place_stays_within now move rows place =
    (bounded (length rows) (wanted move (length rows) place), refl, bounded_within (length rows) (wanted move (length rows) place))

-- the rows of one FETCH after the other, each NEXT
abbrev pub fetched_rows : (ℕ → Option (List Value)) → ℕ → CursorState → List (Option (List Value))
fetched_rows now zero c = []
fetched_rows now (suc times) c = (fetched now Move.next c).row ∷ fetched_rows now times (fetched now Move.next c).cursor

-- a FETCH for each of a list, and some more
abbrev pub and_more : {A : Type 0} → List A → ℕ → ℕ
and_more [] more = more
and_more (x ∷ xs) more = suc (and_more xs more)

-- past the last number there is no row, again and again
pub past_the_end : (now : ℕ → Option (List Value)) (times : ℕ) (on : Option ℕ) → fetched_rows now times (CursorState.over_numbers [] on) ≡ replicate times None
past_the_end now zero on = refl
past_the_end now (suc times) on = ap (λ rows. None ∷ rows) (past_the_end now times None)

at_number_there : (behind : List ℕ) (number : ℕ) (otherwise : Fetched) (row : List Value) (o : Option (List Value)) → o ≡ Some row
    → at_number behind number otherwise o ≡ record { cursor = CursorState.over_numbers behind (Some number); row = Some row }
at_number_there behind number otherwise row o e = ap (at_number behind number otherwise) e

-- With no change between, the FETCHes of a cursor over numbers give the rows under them in order, and then none for
-- ever.
pub rows_in_order : (now : ℕ → Option (List Value)) (rows_of : ℕ → List Value) (numbers : List ℕ) (on : Option ℕ) (more : ℕ)
    → AllByRecursion (λ n. now n ≡ Some (rows_of n)) numbers
    → fetched_rows now (and_more numbers more) (CursorState.over_numbers numbers on) ≡ map (λ n. Some (rows_of n)) numbers ++ replicate more None
rows_in_order now rows_of [] on more there = past_the_end now more on
rows_in_order now rows_of (n ∷ numbers) on more there =
    ap (λ f. f.row ∷ fetched_rows now (and_more numbers more) f.cursor) (at_number_there numbers n (to_next now numbers) (rows_of n) (now n) there.0)
    ∙ ap (λ rows. Some (rows_of n) ∷ rows) (rows_in_order now rows_of numbers (Some n) more there.1)

-- ---- over fixed rows

next_within : (n place : ℕ) → place ≤ n → bounded n (pos place +ℤ pos 1) ≡ suc place
next_within n place h = omega arith

stays_behind : (n : ℕ) → bounded n (pos (suc n) +ℤ pos 1) ≡ suc n
stays_behind n = omega arith

-- NEXT goes on to the next row,
pub next_goes_on : (now : ℕ → Option (List Value)) (rows : List (List Value)) (place : ℕ) → place ≤ length rows
    → fetched now Move.next (CursorState.over_rows rows place) ≡ record { cursor = CursorState.over_rows rows (suc place); row = slice_get rows place }
next_goes_on now rows place h = ap (at_place rows) (next_within (length rows) place h)

-- Behind the last row a cursor stays there, without a row, again and again.
pub next_stays_behind : (now : ℕ → Option (List Value)) (rows : List (List Value))
    → fetched now Move.next (CursorState.over_rows rows (suc (length rows))) ≡ record { cursor = CursorState.over_rows rows (suc (length rows)); row = slice_get rows (length rows) }
next_stays_behind now rows = ap (at_place rows) (stays_behind (length rows))

pub no_row_behind : (rows : List (List Value)) → slice_get rows (length rows) ≡ None
no_row_behind rows = slice_get_past rows (length rows) (omega arith)
