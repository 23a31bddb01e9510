-- What one call may do to the tables and the cursors, and what it answers (ISO/IEC 9075:1992, 13.2 to 13.10, 14.3 and 14.4).
-- No statement that has no fault ends with 42000.
use Rattle.std.specs.Prelude.{◌≡◌, ℕ, Bool, true, false, List, is_some, option_and_then, Option, Some, None, Result, Ok, Err}
use Rattle.sq_lex.specs.declared.name.Name.{Name}
use Rattle.sq_value.specs.declared.value.Value.{Value}
use Rattle.sq_store.specs.Content.{Content, row_at, table_at}
use Rattle.sq_bound.specs.Condition.{select_of}
use Rattle.sq_bound.specs.declared.condition.TablePlace.{TablePlace}
use Rattle.sq_bound.specs.declared.statement.BoundInsert.{BoundInsert}
use Rattle.sq_bound.specs.declared.statement.ChangeTarget.{ChangeTarget}
use Rattle.sq_bound.specs.declared.statement.ChangeTarget.TheVariants as target
use Rattle.sq_bound.specs.declared.statement.PositionedTarget.{PositionedTarget}
use Rattle.sq_meaning.specs.Environment.{Row, outermost}
use Rattle.sq_meaning.specs.Placed.{by_place}
use Rattle.sq_meaning.specs.Query.{rows}
use Rattle.sq_meaning.specs.Status.{Outcome, and_then}
use Rattle.sq_meaning.specs.WellFormed.{IsNoSyntaxError}
use Rattle.sq_meaning.specs.declared.status.Status.{Status}
use Rattle.sq_meaning.specs.declared.status.Status.TheVariants as status
use Rattle.sq_change.specs.Made.{Seen, Shown, seen_by}
use Rattle.sq_change.specs.Performed.{delete_outcome, insert_outcome, update_outcome}
use Rattle.sq_change.specs.Statement.{IsShown}
use Rattle.sq_expression.specs.Fault.{status_of}
use Rattle.sq_expression.specs.Frame.{inputs_of}
use Rattle.sq_query.specs.Table.{AreMeant}
use Rattle.sq_expression.specs.declared.fault.Fault.{Fault}
use Rattle.sq_expression.specs.declared.fault.Fault.TheVariants as fault
use Rattle.sq_meaning.specs.Machine.{single_row}
use Rattle.sq_session.specs.Cursors.{go_on}
use Rattle.sq_session.specs.Fetch.{come_to_number, come_to_row, come_to_walk, over_numbers, over_rows, over_walk}
use Rattle.sq_session.specs.Kind.{Caller, Fetching, Kind, Opening, Selecting, Updating, read_parameters}
use Rattle.sq_session.specs.Open.{IsMeantIfAny, IsOpenOver}
use Rattle.sq_session.specs.Parameter.{started_values}
use Rattle.sq_session.specs.Schemas.{Schemas}
use Rattle.sq_session.specs.State.{State, committed_state, cursor_at, is_open, number_on, off_row, rolled_back, with_cursor}
use Rattle.sq_session.specs.Target.{ended, row_reply}
use Rattle.sq_session.specs.declared.cursor.CursorState.{CursorState}
use Rattle.sq_session.specs.declared.cursor.CursorState.TheVariants as cursor
use Rattle.sq_session.specs.declared.reply.Done.{Done}

-- ---- how a statement ends

-- How a statement ends: a statement that is not performed, with a status alone. A statement that runs out of
-- memory does not end.
abbrev pub ending : Result Done Fault → Option Done
ending (Ok d) = Some d
ending (Err (fault.Status f)) = Some (ended (status_of f))
ending (Err fault.NoMemory) = None

abbrev pub ended_by : Outcome Done → Done
ended_by (Ok d) = d
ended_by (Err st) = ended st

abbrev pub is_success : Status → Bool
is_success status.SuccessfulCompletion = true
is_success _ = false

-- A statement ends with this status, and nothing changes.
abbrev pub Refuses : Status → State → Done → State → Type 0
Refuses st before d after = (d ≡ ended st) × (after ≡ before)

-- ---- OPEN (13.2)

-- OPEN puts this cursor in place; or it ends with a status, and nothing changes.
abbrev pub OpensAs : Outcome CursorState → ℕ → State → Done → State → Type 0
OpensAs (Ok c) number before d after =
    (d ≡ ended status.SuccessfulCompletion) × (after ≡ with_cursor before number c)
OpensAs (Err st) number before d after = Refuses st before d after

abbrev pub MayOpenClosed : Schemas → Opening → List Value → State → Done → State → Type 0
MayOpenClosed s o values before d after =
    (opened : Outcome CursorState) × IsOpenOver o.over values before.tables opened
    × IsMeantIfAny s o.body o.user o.parameters values before.tables opened
    × OpensAs opened o.cursor before d after

-- OPEN of a cursor that is open already is refused.
abbrev pub MayOpenIf : Bool → Schemas → Opening → List Value → State → Done → State → Type 0
MayOpenIf true s o values before d after = Refuses status.InvalidCursorState before d after
MayOpenIf false s o values before d after = MayOpenClosed s o values before d after

abbrev pub MayOpen : Schemas → Opening → List Value → State → Done → State → Type 0
MayOpen s o values before d after = MayOpenIf (is_open (cursor_at before o.cursor)) s o values before d after

-- ---- FETCH (13.3)

-- FETCH puts this cursor in place and ends with this reply; or it ends with a status, and nothing changes.
abbrev pub Comes : Outcome (CursorState × Done) → ℕ → State → Done → State → Type 0
Comes (Ok come) number before d after = (d ≡ come.1) × (after ≡ with_cursor before number come.0)
Comes (Err st) number before d after = Refuses st before d after

abbrev pub MayFetchFrom : CursorState → Fetching → List Value → State → Done → State → Type 0
MayFetchFrom cursor.Closed f values before d after = Refuses status.InvalidCursorState before d after
MayFetchFrom (cursor.Rows c) f values before d after =
    Comes (over_rows (come_to_row f values c)) f.cursor before d after
MayFetchFrom (cursor.Numbers c) f values before d after =
    Comes (over_numbers (come_to_number f before.tables c)) f.cursor before d after
MayFetchFrom (cursor.Walking c) f values before d after =
    Comes (over_walk (come_to_walk f before.tables c)) f.cursor before d after

abbrev pub MayFetch : Fetching → List Value → State → Done → State → Type 0
MayFetch f values before d after = MayFetchFrom (cursor_at before f.cursor) f values before d after

-- ---- CLOSE (13.4)

abbrev pub MayCloseIf : Bool → ℕ → State → Done → State → Type 0
MayCloseIf true number before d after =
    (d ≡ ended status.SuccessfulCompletion) × (after ≡ with_cursor before number cursor.Closed)
MayCloseIf false number before d after = Refuses status.InvalidCursorState before d after

abbrev pub MayClose : ℕ → State → Done → State → Type 0
MayClose number before d after = MayCloseIf (is_open (cursor_at before number)) number before d after

-- ---- SELECT INTO (13.5)

-- The rows of the query of a SELECT INTO, or the status of finding them, over the tables that the stored rows
-- and the views' queries make for the user.
abbrev pub SelectIsMeant : Schemas → Selecting → List Value → Content → Outcome (List (List Value)) → Type 0
SelectIsMeant s select values tables found =
    (shown : TablePlace → Outcome (List Row)) → AreMeant s.views tables select.user shown
    → found ≡ rows (by_place shown) (select_of select.query) (outermost (inputs_of values) select.user)

-- A SELECT INTO finds the rows of its query, and sets its targets from the only one.
pub record Selects (s : Schemas) (select : Selecting) (values : List Value) (tables : Content)
    (d : Done) : Type 0 where
  pub found : Outcome (List (List Value))
  pub meant : SelectIsMeant s select values tables found
  pub ends : d ≡ ended_by (and_then (and_then found single_row) (row_reply select.parameters select.targets))

-- ---- INSERT, UPDATE and DELETE (13.6 to 13.10)

-- With success the tables are those that the statement gives, and all else is as wanted; with another status
-- nothing changes.
abbrev pub Performs : Outcome Content → State → State → Done → State → Type 0
Performs (Ok tables) wanted before d after =
    (d ≡ ended status.SuccessfulCompletion) × (after ≡ record wanted { tables = tables })
Performs (Err st) wanted before d after = Refuses st before d after

-- What the statement of a caller sees of these tables, with these values of its parameters.
abbrev pub seen_in : Schemas → Caller → List Value → Content → Seen
seen_in s caller values tables = seen_by s.views tables caller.user values

-- This is the outcome of INSERT, over the tables that the stored rows and the views' queries make for the
-- caller.
abbrev pub InsertComesTo : Schemas → Caller → List Value → BoundInsert → State → Outcome Content → Type 0
InsertComesTo s caller values i before done =
    (shown : Shown) → IsShown (seen_in s caller values before.tables) shown
    → done ≡ insert_outcome shown (seen_in s caller values before.tables) s.bases before.row_numbers i

abbrev pub MayInsert : Schemas → Caller → List Value → BoundInsert → State → Done → State → Type 0
MayInsert s caller values i before d after =
    (done : Outcome Content) × InsertComesTo s caller values i before done
    × Performs done before before d after

-- This is the outcome of UPDATE; the cursor of a positioned one is on the row of this number.
abbrev pub UpdateComesTo : Schemas → Updating → List Value → Option ℕ → Content → Outcome Content → Type 0
UpdateComesTo s u values on tables done =
    (shown : Shown) → IsShown (seen_in s u.caller values tables) shown
    → done ≡ update_outcome shown (seen_in s u.caller values tables) s.bases u.statement on

-- The state in which walking cursors that may come to what an UPDATE changes go on over the numbers that were
-- left to them before it; the cursor of a positioned one is on the row of this number.
abbrev pub walks_listed : Updating → Option ℕ → State → State
walks_listed u on s = record s { cursors = go_on u.statement on s.tables u.cursors s.cursors }

abbrev pub MayUpdate : Schemas → Updating → List Value → Option ℕ → State → Done → State → Type 0
MayUpdate s u values on before d after =
    (done : Outcome Content) × UpdateComesTo s u values on before.tables done
    × Performs done (walks_listed u on before) before d after

-- This is the outcome of DELETE; the cursor of a positioned one is on the row of this number.
abbrev pub DeleteComesTo : Schemas → Caller → List Value → ChangeTarget → Option ℕ → Content
    → Outcome Content → Type 0
DeleteComesTo s caller values t on tables done =
    (shown : Shown) → IsShown (seen_in s caller values tables) shown
    → done ≡ delete_outcome shown (seen_in s caller values tables) s.bases t on

abbrev pub MayDelete : Schemas → Caller → List Value → ChangeTarget → Option ℕ → State → State → Done
    → State → Type 0
MayDelete s caller values t on wanted before d after =
    (done : Outcome Content) × DeleteComesTo s caller values t on before.tables done
    × Performs done wanted before d after

-- whether the cursor is on a row that is there
abbrev pub is_on_row : State → PositionedTarget → Bool
is_on_row s p =
    is_some (option_and_then (row_at (table_at s.tables p.base)) (number_on (cursor_at s p.cursor)))

-- a positioned statement needs a cursor that is on a row that is there
abbrev pub is_ready : State → ChangeTarget → Bool
is_ready s (target.Searched t) = true
is_ready s (target.Positioned p) = is_on_row s p

-- The number of the row that the cursor of a positioned statement is on.
abbrev pub on_row : State → PositionedTarget → Option ℕ
on_row s p = number_on (cursor_at s p.cursor)

-- The number of the row that a positioned statement means; none for a searched statement.
abbrev pub number_meant : State → ChangeTarget → Option ℕ
number_meant s (target.Searched t) = None
number_meant s (target.Positioned p) = on_row s p

abbrev pub MayUpdateAt : Bool → Schemas → Updating → PositionedTarget → List Value → State → Done → State
    → Type 0
MayUpdateAt true s u p values before d after = MayUpdate s u values (on_row before p) before d after
MayUpdateAt false s u p values before d after = Refuses status.InvalidCursorState before d after

-- a positioned DELETE takes its cursor off the row
abbrev pub left_row : State → PositionedTarget → State
left_row s p = with_cursor s p.cursor (off_row (cursor_at s p.cursor))

abbrev pub MayDeleteAt : Bool → Schemas → Caller → PositionedTarget → List Value → State → Done → State
    → Type 0
MayDeleteAt true s caller p values before d after =
    MayDelete s caller values (target.Positioned p) (on_row before p) (left_row before p) before d after
MayDeleteAt false s caller p values before d after = Refuses status.InvalidCursorState before d after

-- ---- a statement, and a call

abbrev pub Ends : State → Done → State → Type 0
Ends wanted d after = (d ≡ ended status.SuccessfulCompletion) × (after ≡ wanted)

-- What a statement of a procedure may do, whose parameters start with these values, over what the schemas
-- define.
abbrev pub MayStep : Schemas → Kind → List Value → State → Done → State → Type 0
MayStep s (Kind.opens o) values before d after = MayOpen s o values before d after
MayStep s (Kind.fetches f) values before d after = MayFetch f values before d after
MayStep s (Kind.closes number) values before d after = MayClose number before d after
MayStep s (Kind.selects select) values before d after =
    (after ≡ before) × Selects s select values before.tables d
MayStep s (Kind.inserts caller i) values before d after = MayInsert s caller values i before d after
MayStep s (Kind.updates u) values before d after = MayUpdate s u values None before d after
MayStep s (Kind.deletes caller t) values before d after =
    MayDelete s caller values (target.Searched t) None before before d after
MayStep s (Kind.updates_at u p) values before d after =
    MayUpdateAt (is_on_row before p) s u p values before d after
MayStep s (Kind.deletes_at caller p) values before d after =
    MayDeleteAt (is_on_row before p) s caller p values before d after
MayStep s Kind.commits values before d after = Ends (committed_state before) d after
MayStep s Kind.rolls_back values before d after = Ends (rolled_back before) d after

-- A statement does not end with 42000.
abbrev pub EndsRight : Done → Type 0
EndsRight d = IsNoSyntaxError d.status

-- For each user there are tables that the stored rows and the views' queries make, since a view reads earlier
-- views alone.
abbrev pub HasTables : Schemas → Content → Type 0
HasTables s tables =
    (user : Name) → (shown : TablePlace → Outcome (List Row)) × AreMeant s.views tables user shown

-- What the call of a procedure with these values may do. A statement with a fault ends with 42000 and changes
-- nothing; a statement without a fault does not end with 42000.
abbrev pub MayCall : Schemas → Option Kind → List Value → State → Done → State → Type 0
MayCall s None values before d after = Refuses status.SyntaxErrorOrAccessRuleViolation before d after
MayCall s (Some k) values before d after =
    MayStep s k (started_values (read_parameters k) values) before d after × EndsRight d
    × HasTables s before.tables
