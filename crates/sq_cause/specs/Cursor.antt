-- Why a statement can't use its cursor (ISO/IEC 9075:1992, 13.2 to 13.4, 13.6 and 13.9): the cursor that it names is open, closed, on no
-- row, or on a row that is gone.
use Rattle.std.specs.Prelude.{◌≡◌, ℕ, Bool, true, false, ◌<◌, List, length, slice_get, Option, Some, None}
use Rattle.std.specs.Option.{option_map_or}
use Rattle.sq_store.specs.Content.{Content, row_at, table_at}
use Rattle.sq_bound.specs.declared.statement.ChangeTarget.{ChangeTarget}
use Rattle.sq_bound.specs.declared.statement.ChangeTarget.TheVariants as target
use Rattle.sq_bound.specs.declared.statement.PositionedTarget.{PositionedTarget}
use Rattle.sq_session.specs.Kind.{Kind}
use Rattle.sq_session.specs.State.{is_open, number_on}
use Rattle.sq_session.specs.declared.cursor.CursorState.{CursorState}
use Rattle.sq_cause.specs.declared.cause.CursorCause.{CursorCause}
use Rattle.sq_cause.specs.declared.cause.CursorCause.TheVariants as cause

-- the cursor with this number is open
abbrev pub is_open_at : List CursorState → ℕ → Bool
is_open_at cursors number = option_map_or is_open (slice_get cursors number) false

-- the cursor with this number is open, and on this
pub record StandsOn (cursors : List CursorState) (number : ℕ) (on : Option ℕ) : Type 0 where
  pub cursor : CursorState
  pub at : slice_get cursors number ≡ Some cursor
  pub opened : is_open cursor ≡ true
  pub row : number_on cursor ≡ on

-- no row of the table has this number
pub record IsGone (tables : Content) (table number : ℕ) : Type 0 where
  pub there : table < length tables
  pub gone : row_at (table_at tables table) number ≡ None

-- a positioned statement: its cursor is closed, on no row, or on a row that is gone from the table
abbrev pub IsPositionCause : PositionedTarget → List CursorState → Content → CursorCause → Type 0
IsPositionCause p cursors tables (cause.IsOpen n) = ⊥
IsPositionCause p cursors tables (cause.IsClosed n) = (n ≡ p.cursor) × (is_open_at cursors n ≡ false)
IsPositionCause p cursors tables (cause.IsOnNoRow n) = (n ≡ p.cursor) × StandsOn cursors n None
IsPositionCause p cursors tables (cause.RowIsGone n number) =
    (n ≡ p.cursor) × StandsOn cursors n (Some number) × IsGone tables p.base number

abbrev pub IsTargetCause : ChangeTarget → List CursorState → Content → CursorCause → Type 0
IsTargetCause (target.Searched t) cursors tables c = ⊥
IsTargetCause (target.Positioned p) cursors tables c = IsPositionCause p cursors tables c

-- OPEN wants a cursor that is closed
abbrev pub IsOpenCause : ℕ → List CursorState → CursorCause → Type 0
IsOpenCause cursor cursors (cause.IsOpen n) = (n ≡ cursor) × (is_open_at cursors n ≡ true)
IsOpenCause cursor cursors _ = ⊥

-- FETCH and CLOSE want one that is open
abbrev pub IsClosedCause : ℕ → List CursorState → CursorCause → Type 0
IsClosedCause cursor cursors (cause.IsClosed n) = (n ≡ cursor) × (is_open_at cursors n ≡ false)
IsClosedCause cursor cursors _ = ⊥

-- what is said is true of the cursor that a statement of this kind names
abbrev pub IsCursorCause : Kind → List CursorState → Content → CursorCause → Type 0
IsCursorCause (Kind.opens o) cursors tables c = IsOpenCause o.cursor cursors c
IsCursorCause (Kind.fetches f) cursors tables c = IsClosedCause f.cursor cursors c
IsCursorCause (Kind.closes n) cursors tables c = IsClosedCause n cursors c
IsCursorCause (Kind.updates_at u p) cursors tables c = IsPositionCause p cursors tables c
IsCursorCause (Kind.deletes_at caller p) cursors tables c = IsPositionCause p cursors tables c
IsCursorCause _ cursors tables c = ⊥
