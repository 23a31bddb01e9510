-- What calls work on (ISO/IEC 9075:1992, 4.21 and 4.28).
use Rattle.std.specs.Prelude.{◌≡◌, ℕ, ◌+◌, min, Bool, true, false, List, drop, is_some, length, map, slice_get, slice_index_or, slice_set, Option, None}
use Rattle.std.specs.List.{position_or_len}
use Rattle.sq_store.specs.declared.table.Table.{Table}
use Rattle.sq_store.specs.Content.{Content, row_at}
use Rattle.sq_store.specs.Keys.{Keys}
use Rattle.sq_session.specs.declared.cursor.CursorState.{CursorState}
use Rattle.sq_session.specs.declared.cursor.CursorState.TheVariants as cursor
use Rattle.sq_session.specs.declared.cursor.NumbersCursor.{NumbersCursor}

-- The tables now, the tables at the last COMMIT, the columns of each key of each table, the greatest number of
-- a row, and one cursor for each declared cursor.
pub record State : Type 0 where
  pub tables : Content
  pub committed : Content
  pub keys : List Keys
  pub row_numbers : ℕ
  pub cursors : List CursorState

-- The state of a store that has these tables, now and as committed, these keys and row numbers, with these cursors.
abbrev pub state_of : Content → Content → List Keys → ℕ → List CursorState → State
state_of tables committed keys row_numbers cursors =
    record {
      tables = tables;
      committed = committed;
      keys = keys;
      row_numbers = row_numbers;
      cursors = cursors;
    }

-- ---- cursors

abbrev pub is_open : CursorState → Bool
is_open cursor.Closed = false
is_open (cursor.Numbers c) = true
is_open (cursor.Walking c) = true
is_open (cursor.Rows c) = true

abbrev pub cursor_at : State → ℕ → CursorState
cursor_at s number = slice_index_or s.cursors number cursor.Closed

abbrev pub with_cursor : State → ℕ → CursorState → State
with_cursor s number c = record s { cursors = slice_set s.cursors number c }

abbrev pub closed : CursorState → CursorState
closed c = cursor.Closed

abbrev pub all_closed : List CursorState → List CursorState
all_closed cursors = map closed cursors

-- all cursors are closed, as they are before the first call
abbrev pub AreClosed : List CursorState → Type 0
AreClosed cursors = cursors ≡ all_closed cursors

-- the number of the row that a cursor is on
abbrev pub number_on : CursorState → Option ℕ
number_on cursor.Closed = None
number_on (cursor.Numbers c) = c.on
number_on (cursor.Walking c) = c.on
number_on (cursor.Rows c) = None

-- A cursor after its row was deleted: on no row.
abbrev pub off_row : CursorState → CursorState
off_row cursor.Closed = cursor.Closed
off_row (cursor.Numbers c) = cursor.Numbers (record c { on = None })
off_row (cursor.Walking c) = cursor.Walking (record c { on = None })
off_row (cursor.Rows c) = cursor.Rows c

-- ---- the rows of cursors

-- whether there is a row under a number now
abbrev pub is_there : Table → ℕ → Bool
is_there t number = is_some (row_at t number)

-- the numbers that are left to a cursor
abbrev pub left : NumbersCursor → List ℕ
left c = drop c.passed c.numbers

-- How many of the numbers left to a cursor come before the first under which there is a row now.
abbrev pub gone : Table → NumbersCursor → ℕ
gone t c = position_or_len (is_there t) (left c)

-- A cursor over numbers after FETCH: on the first number left under which there is a row now, if any; those
-- before it are passed for good.
abbrev pub next_number : Table → NumbersCursor → NumbersCursor
next_number t c =
    record c {
      passed = min (length c.numbers) (c.passed + gone t c + 1);
      on = slice_get (left c) (gone t c);
    }

-- ---- COMMIT and ROLLBACK (14.3, 14.4) close all cursors

abbrev pub committed_state : State → State
committed_state s = record s { committed = s.tables; cursors = all_closed s.cursors }

abbrev pub rolled_back : State → State
rolled_back s = record s { tables = s.committed; cursors = all_closed s.cursors }
