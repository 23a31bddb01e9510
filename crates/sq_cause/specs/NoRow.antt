-- A statement that comes to no row (ISO/IEC 9075:1992, 13.3, 13.7, 13.8 and 13.10): FETCH is on none of its cursor's rows, no row meets the
-- condition of UPDATE or DELETE, or the query of INSERT has none; and an INSERT for whose rows too few numbers are left (own rule).
use Rattle.std.specs.Prelude.{◌≡◌, ℕ, Bool, true, false, not, is_some, List, [], slice_get, None, Ok, Err}
use Rattle.std.specs.Option.{option_map_or}
use Rattle.sq_lex.specs.declared.name.Name.{Name}
use Rattle.sq_value.specs.declared.value.Value.{Value}
use Rattle.sq_store.specs.Content.{Content}
use Rattle.sq_meaning.specs.Cursor.{row_at as row_of}
use Rattle.sq_meaning.specs.declared.status.Status.TheVariants as status
use Rattle.sq_bound.specs.declared.condition.BoundSpecification.{BoundSpecification}
use Rattle.sq_bound.specs.declared.statement.BoundInsert.{BoundInsert}
use Rattle.sq_bound.specs.declared.statement.ChangeTarget.{ChangeTarget}
use Rattle.sq_bound.specs.declared.statement.ChangeTarget.TheVariants as target
use Rattle.sq_bound.specs.declared.statement.InsertedRows.TheVariants as source
use Rattle.sq_change.specs.Made.{Seen, Shown, numbers_changed, rows_inserted}
use Rattle.sq_change.specs.Statement.{IsShown}
use Rattle.sq_session.specs.Kind.{Kind}
use Rattle.sq_session.specs.Schemas.{Schemas}
use Rattle.sq_session.specs.State.{State}
use Rattle.sq_session.specs.Step.{seen_in}
use Rattle.sq_session.specs.declared.cursor.CursorState.{CursorState}
use Rattle.sq_session.specs.declared.cursor.CursorState.TheVariants as cursor
use Rattle.sq_cause.specs.Query.{HasRows}
use Rattle.sq_cause.specs.declared.cause.NoRowCause.{NoRowCause}
use Rattle.sq_cause.specs.declared.cause.NoRowCause.TheVariants as cause

-- the cursor is open, and on none of its rows
abbrev pub is_on_none : CursorState → Bool
is_on_none cursor.Closed = false
is_on_none (cursor.Rows c) = not (is_some (row_of c.rows c.place))
is_on_none (cursor.Numbers c) = not (is_some c.on)
is_on_none (cursor.Walking c) = not (is_some c.on)

abbrev pub IsOnNone : List CursorState → ℕ → Type 0
IsOnNone cursors number = option_map_or is_on_none (slice_get cursors number) false ≡ true

-- of the rows that a searched statement may change, none meets the condition
abbrev pub ChoosesNone : Seen → ChangeTarget → Type 0
ChoosesNone seen t =
    (shown : Shown) → IsShown seen shown → numbers_changed shown seen t None ≡ Err status.NoData

-- the rows of an insert statement are those of a query, which has none
pub record IsGivenNone (s : Schemas) (user : Name) (values : List Value) (tables : Content) (i : BoundInsert) : Type 0 where
  pub query : BoundSpecification
  pub source_is : i.source ≡ source.Query query
  pub none : HasRows s user values tables query (Ok [])

abbrev pub IsNoneOfFetch : ℕ → List CursorState → NoRowCause → Type 0
IsNoneOfFetch n cursors c = (c ≡ cause.Fetched n) × IsOnNone cursors n

abbrev pub IsNoneOfTarget : Seen → ChangeTarget → NoRowCause → Type 0
IsNoneOfTarget seen (target.Searched t) c =
    (c ≡ cause.Chosen t.base) × ChoosesNone seen (target.Searched t)
IsNoneOfTarget seen (target.Positioned p) c = ⊥

abbrev pub IsNoRowCause : Schemas → Kind → List Value → State → NoRowCause → Type 0
IsNoRowCause s (Kind.fetches f) values state c = IsNoneOfFetch f.cursor state.cursors c
IsNoRowCause s (Kind.inserts caller i) values state c =
    (c ≡ cause.Given) × IsGivenNone s caller.user values state.tables i
IsNoRowCause s (Kind.updates u) values state c =
    IsNoneOfTarget (seen_in s u.caller values state.tables) u.statement.target c
IsNoRowCause s (Kind.deletes caller t) values state c =
    IsNoneOfTarget (seen_in s caller values state.tables) (target.Searched t) c
IsNoRowCause s _ values state c = ⊥

-- ---- row numbers

-- the new rows of an insert statement into the base table at this place need more numbers than are left
abbrev pub HasNoNumber : Seen → ℕ → BoundInsert → ℕ → Type 0
HasNoNumber seen row_numbers i place =
    (place ≡ i.leaf.table.place)
    × ((shown : Shown) → IsShown seen shown → rows_inserted shown seen row_numbers i ≡ Err status.NoRowNumberLeft)

abbrev pub IsNoNumberCause : Schemas → Kind → List Value → State → ℕ → Type 0
IsNoNumberCause s (Kind.inserts caller i) values state place =
    HasNoNumber (seen_in s caller values state.tables) state.row_numbers i place
IsNoNumberCause s _ values state place = ⊥
