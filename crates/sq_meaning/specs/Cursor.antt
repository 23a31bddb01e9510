-- Cursors, and the place that a FETCH reaches (ISO/IEC 9075:1992, 4.21 and 13.3).
use Rattle.std.specs.Prelude.{ℕ, zero, suc, ◌+◌, min, Bool, true, false, List, [], ◌∷◌, length, ℤ, pos, negsuc, ◌+ℤ◌, ◌-ℤ◌, if◌then◌else◌, slice_get, int_le, Option, Some, None}
use Rattle.sq_value.specs.SetFunctions.{numbers}
use Rattle.sq_value.specs.declared.value.Value.{Value}
use Rattle.sq_meaning.specs.Query.{rows}

-- A cursor is in one of three states. It is closed. Or it is over the rows of its table under numbers that OPEN fixed:
-- the numbers still to come, and the number that it is on, if any. Or it is over rows that OPEN fixed, at a place. The
-- place is 0 before the first of them, n on the nth, and one more than their count after the last.
pub data CursorState : Type 0 where
  closed : CursorState
  over_numbers : List ℕ → Option ℕ → CursorState
  over_rows : List (List Value) → ℕ → CursorState

-- the place of a cursor after OPEN
abbrev pub before_numbers : List ℕ → CursorState
before_numbers numbers = CursorState.over_numbers numbers None

abbrev pub before_rows : List (List Value) → CursorState
before_rows rows = CursorState.over_rows rows 0

-- the direction of a FETCH (13.3, fetch orientation)
pub data Move : Type 0 where
  next : Move
  prior : Move
  first : Move
  last : Move
  absolute : ℤ → Move
  relative : ℤ → Move

-- the place that is wanted among so many rows, from the place that the cursor is at
abbrev pub wanted : Move → ℕ → ℕ → ℤ
wanted Move.next count place = pos place +ℤ pos 1
wanted Move.prior count place = pos place -ℤ pos 1
wanted Move.first count place = pos 1
wanted Move.last count place = pos count
wanted (Move.absolute n) count place = if int_le (pos 0) n then n else (pos (count + 1) +ℤ n)
wanted (Move.relative n) count place = pos place +ℤ n

-- no place is before 0 or after the last by more than one
abbrev pub bounded : ℕ → ℤ → ℕ
bounded count (pos place) = min place (count + 1)
bounded count (negsuc _) = 0

abbrev pub row_at : List (List Value) → ℕ → Option (List Value)
row_at rows zero = None
row_at rows (suc n) = slice_get rows n

-- ---- FETCH

-- the cursor after it, and the row that it reached
pub record Fetched : Type 0 where
  pub cursor : CursorState
  pub row : Option (List Value)

abbrev pub at_place : List (List Value) → ℕ → Fetched
at_place rows place = record { cursor = CursorState.over_rows rows place; row = row_at rows place }

abbrev pub at_number : List ℕ → ℕ → Fetched → Option (List Value) → Fetched
at_number behind number otherwise None = otherwise
at_number behind number otherwise (Some row) = record {
  cursor = CursorState.over_numbers behind (Some number);
  row = Some row;
}

-- the next number under which a row is now; numbers without a row are passed for good
abbrev pub to_next : (ℕ → Option (List Value)) → List ℕ → Fetched
to_next now [] = record { cursor = CursorState.over_numbers [] None; row = None }
to_next now (number ∷ behind) = at_number behind number (to_next now behind) (now number)

-- `now` is the row under a number as the cursor's query shows it now. An updatable cursor has no move but NEXT.
abbrev pub fetched : (ℕ → Option (List Value)) → Move → CursorState → Fetched
fetched now move CursorState.closed = record { cursor = CursorState.closed; row = None }
fetched now move (CursorState.over_numbers numbers on) = to_next now numbers
fetched now move (CursorState.over_rows rows place) =
    at_place rows (bounded (length rows) (wanted move (length rows) place))

-- ---- the row that a cursor is on

abbrev pub is_open : CursorState → Bool
is_open CursorState.closed = false
is_open _ = true

-- the number that a positioned statement changes
abbrev pub number_on : CursorState → Option ℕ
number_on (CursorState.over_numbers numbers on) = on
number_on _ = None

-- after a positioned DELETE the cursor is before the next row (13.6)
abbrev pub off_row : CursorState → CursorState
off_row (CursorState.over_numbers numbers on) = CursorState.over_numbers numbers None
off_row c = c
