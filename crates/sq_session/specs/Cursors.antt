-- The cursors of a session, one for each declared cursor: closed, or open over what the declaration says
-- (ISO/IEC 9075:1992, 4.21).
use Rattle.std.specs.Prelude.{◌≡◌, ◌≤◌, ◌<◌, ⊤, ℕ, Bool, true, false, ◌&&◌, if◌then◌else◌, nat_eq, nat_le, nat_lt, List, [], ◌∷◌, fold, length, slice_get, slice_set, Option, IfSome}
use Rattle.std.specs.List.{AllByRecursion, AllZip}
use Rattle.sq_value.specs.declared.domain.Kind.{Kind}
use Rattle.sq_value.specs.declared.value.Value.{Value}
use Rattle.sq_store.specs.Content.{Content, table_at}
use Rattle.sq_meaning.specs.WellFormed.{AreRowsOf, IsRowOf}
use Rattle.sq_meaning.specs.Words.{is_some_and}
use Rattle.sq_bound.specs.Fits.{AreInDomains, holds, keys_of_bases}
use Rattle.sq_bound.specs.WellFormed.{IsCursor, TableKinds, kinds_of_results}
use Rattle.sq_bound.specs.declared.names.BaseTable.{BaseTable}
use Rattle.sq_bound.specs.declared.query.BoundCursor.{BoundCursor}
use Rattle.sq_bound.specs.declared.statement.BoundStatement.{BoundStatement}
use Rattle.sq_bound.specs.declared.statement.BoundUpdate.{BoundUpdate}
use Rattle.sq_bound.specs.declared.statement.BoundStatement.TheVariants as statement
use Rattle.sq_bound.specs.declared.statement.ChangeTarget.{ChangeTarget}
use Rattle.sq_bound.specs.declared.statement.ChangeTarget.TheVariants as target
use Rattle.sq_module.specs.declared.program.DeclaredCursor.{DeclaredCursor}
use Rattle.sq_change.specs.Constraints.{constraints_hold}
use Rattle.sq_change.specs.Statement.{base_of}
use Rattle.sq_session.specs.Kind.{Over, conditions_in, over_of}
use Rattle.sq_session.specs.Reads.{one_reads}
use Rattle.sq_session.specs.State.{State}
use Rattle.sq_session.specs.Walk.{numbers_meant}
use Rattle.sq_session.specs.declared.cursor.CursorState.{CursorState}
use Rattle.sq_session.specs.declared.cursor.CursorState.TheVariants as cursor
use Rattle.sq_session.specs.declared.cursor.NumbersCursor.{NumbersCursor}
use Rattle.sq_session.specs.declared.walk_list.ListedCursor.{ListedCursor}
use Rattle.sq_session.specs.declared.walk.WalkingCursor.{WalkingCursor}

-- ---- what an open cursor goes over

abbrev pub is_over_rows : Over → Bool
is_over_rows Over.rows = true
is_over_rows (Over.numbers table) = false
is_over_rows (Over.walk table) = false

-- A cursor may be open over numbers of rows of this table: also one that walked before an UPDATE.
abbrev pub is_over_numbers : Over → ℕ → Bool
is_over_numbers Over.rows table = false
is_over_numbers (Over.numbers base) table = nat_eq base table
is_over_numbers (Over.walk base) table = nat_eq base table

abbrev pub is_over_table : Over → ℕ → Bool
is_over_table Over.rows table = false
is_over_table (Over.numbers base) table = false
is_over_table (Over.walk base) table = nat_eq base table

abbrev pub is_over : Over → CursorState → Bool
is_over over cursor.Closed = true
is_over over (cursor.Rows c) = is_over_rows over
is_over over (cursor.Numbers c) = is_over_numbers over c.table
is_over over (cursor.Walking c) = is_over_table over c.table

-- Whether a cursor over this is updatable.
abbrev pub is_updatable : Over → Bool
is_updatable Over.rows = false
is_updatable (Over.numbers table) = true
is_updatable (Over.walk table) = true

-- ---- all cursors

-- There is one cursor for each declared cursor, over what that one goes over.
abbrev pub are_over : List DeclaredCursor → List CursorState → Bool
are_over [] [] = true
are_over [] (c ∷ cs) = false
are_over (d ∷ ds) [] = false
are_over (d ∷ ds) (c ∷ cs) = is_over (over_of d.cursor.body) c && are_over ds cs

-- ---- what open cursors keep

-- An open cursor has listed rows of these kinds.
abbrev pub HasListed : List Kind → CursorState → Type 0
HasListed kinds (cursor.Rows c) = AreRowsOf kinds c.rows
HasListed kinds _ = ⊥

-- A cursor is well formed for parameters of the kinds of these values.
pub record MayKeep (columns : TableKinds) (declared : BoundCursor) (values : List Value) : Type 0 where
  pub parameters : List Kind
  pub is_cursor : IsCursor columns parameters declared
  pub given : IsRowOf parameters values

-- What an open cursor keeps: a cursor over rows has listed rows of the kinds of its columns, a cursor over
-- numbers has passed no more numbers than it has, and a walking cursor keeps the values of the parameters with
-- which it was opened.
abbrev pub HasKept : TableKinds → BoundCursor → CursorState → Type 0
HasKept columns declared cursor.Closed = ⊤
HasKept columns declared (cursor.Rows c) = AreRowsOf (kinds_of_results declared.columns) c.rows
HasKept columns declared (cursor.Numbers c) = c.passed ≤ length c.numbers
HasKept columns declared (cursor.Walking c) = MayKeep columns declared c.values

-- A cursor keeps what the cursor declared with this number does.
abbrev pub HasKeptAt : TableKinds → List DeclaredCursor → ℕ → CursorState → Type 0
HasKeptAt columns declared number c = IfSome (slice_get declared number) (λ d. HasKept columns d.cursor c)

abbrev pub HaveKept : TableKinds → List DeclaredCursor → List CursorState → Type 0
HaveKept columns = AllZip (λ d c. HasKept columns d.cursor c)

-- After an OPEN all cursors keep what they were declared to.
abbrev pub OpenHaveKept : TableKinds → List DeclaredCursor → BoundStatement → List CursorState → Type 0
OpenHaveKept columns declared (statement.Open n) cursors = HaveKept columns declared cursors
OpenHaveKept columns declared _ cursors = ⊤

-- ---- a session

-- Tables are legal for base tables: each of these has its rows, every value is in the domain of its column, and all
-- constraints hold (11.4, 11.8).
pub record AreLegal (bases : List BaseTable) (tables : Content) : Type 0 where
  pub rows : holds bases tables ≡ true
  pub in_domains : AreInDomains bases tables
  pub constraints : constraints_hold bases tables ≡ true

-- What a statement leaves of a session: legal tables, and after an OPEN cursors that keep what they were declared to.
pub record IsLeftBy (columns : TableKinds) (bases : List BaseTable) (declared : List DeclaredCursor)
    (performed : BoundStatement) (s : State) : Type 0 where
  pub tables : AreLegal bases s.tables
  pub opened : OpenHaveKept columns declared performed s.cursors

-- The state of a session that is in order: its tables, now and as committed, are those of the base tables with
-- their keys; every value in them is in the domain of its column, and all constraints hold (11.4, 11.8); each
-- cursor is over what is declared, and what open cursors keep is of the kinds of their columns and parameters.
abbrev pub IsWhole : TableKinds → List BaseTable → List DeclaredCursor → State → Type 0
IsWhole columns bases declared s =
    (holds bases s.tables ≡ true) × (holds bases s.committed ≡ true) × (s.keys ≡ keys_of_bases bases)
    × (are_over declared s.cursors ≡ true)
    × AreInDomains bases s.tables × AreInDomains bases s.committed × HaveKept columns declared s.cursors
    × (constraints_hold bases s.tables ≡ true) × (constraints_hold bases s.committed ≡ true)

-- ---- an UPDATE

-- Whether a row with this number is left to a walk: the number lies from the walk's place on, and before its mark.
abbrev pub is_left : WalkingCursor → ℕ → Bool
is_left c number = nat_le c.next number && nat_lt number c.mark

-- The numbers of the rows in these tables that a walking cursor has still to come to.
abbrev pub numbers_left : DeclaredCursor → Content → WalkingCursor → List ℕ
numbers_left d tables c =
    numbers_meant (conditions_in d.cursor.body) c.values d.user c.next c.mark (table_at tables c.table).rows

-- The cursor over those numbers that takes the place of a walking one, on the same row.
abbrev pub listed : DeclaredCursor → Content → WalkingCursor → NumbersCursor
listed d tables c = record { table = c.table; numbers = numbers_left d tables c; passed = 0; on = c.on }

-- Whether a cursor walks over the base table that an UPDATE changes, with conditions that read what changes.
abbrev pub reads : BoundUpdate → DeclaredCursor → WalkingCursor → Bool
reads u d c = nat_eq c.table (base_of u.target) && one_reads u.assignments (conditions_in d.cursor.body)

-- Whether an UPDATE may change a row that is left to a walk over its base table. Which rows a searched one
-- changes isn't known before; a positioned one changes the row under this number, which its cursor is on.
abbrev pub may_change_left : ChangeTarget → Option ℕ → WalkingCursor → Bool
may_change_left (target.Searched t) on c = true
may_change_left (target.Positioned p) on c = is_some_and (is_left c) on

-- A walk is listed before an UPDATE that may change which rows it reaches: one of a column that its conditions
-- read, and of a row that may be left to it.
abbrev pub is_listed : BoundUpdate → Option ℕ → DeclaredCursor → WalkingCursor → Bool
is_listed u on d c = reads u d c && may_change_left u.target on c

-- After an UPDATE a walking cursor that was listed goes on over the numbers of its rows; any other cursor stays
-- as it is.
abbrev pub goes_on : BoundUpdate → Option ℕ → Content → DeclaredCursor → CursorState → CursorState
goes_on u on tables d cursor.Closed = cursor.Closed
goes_on u on tables d (cursor.Rows c) = cursor.Rows c
goes_on u on tables d (cursor.Numbers c) = cursor.Numbers c
goes_on u on tables d (cursor.Walking c) =
    if is_listed u on d c then cursor.Numbers (listed d tables c) else cursor.Walking c

-- All cursors after an UPDATE.
abbrev pub go_on : BoundUpdate → Option ℕ → Content → List DeclaredCursor → List CursorState
    → List CursorState
go_on u on tables [] cs = cs
go_on u on tables (d ∷ ds) [] = []
go_on u on tables (d ∷ ds) (c ∷ cs) = goes_on u on tables d c ∷ go_on u on tables ds cs

-- ---- lists that are made before an UPDATE, and put in place of walks after it

abbrev pub put : List CursorState → ListedCursor → List CursorState
put cursors l = slice_set cursors l.number (cursor.Numbers l.cursor)

abbrev pub put_all : List CursorState → List ListedCursor → List CursorState
put_all cursors lists = fold put cursors lists

-- Each list is of a cursor that there is.
abbrev pub AreThere : ℕ → List ListedCursor → Type 0
AreThere count lists = AllByRecursion (λ l. l.number < count) lists
