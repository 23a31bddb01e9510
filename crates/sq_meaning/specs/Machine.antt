-- The table machine: one step is one procedure call (ISO/IEC 9075:1992, 4.21, 12.4, clause 13, 14.3 and 14.4).
use Rattle.std.specs.Prelude.{ℕ, Bool, true, false, ◌&&◌, List, [], ◌∷◌, map, ℤ, pos, if◌then◌else◌, ◌==◌, find, flat_map, Option, unwrap_or, option_map, option_and_then, Some, None, Ok, Err}
use Rattle.sq_lex.specs.declared.name.Name.{Name}
use Rattle.sq_value.specs.Key.{in_columns}
use Rattle.sq_value.specs.declared.value.Value.{Value}
use Rattle.sq_value.specs.declared.value.Value.TheVariants as value
use Rattle.sq_store.specs.Content.{Content, no_rows}
use Rattle.sq_tree.specs.declared.module.Cursor.{Cursor}
use Rattle.sq_tree.specs.declared.module.ModuleText.{ModuleText}
use Rattle.sq_tree.specs.declared.module.Procedure.{Procedure}
use Rattle.sq_tree.specs.declared.statement.Delete.{Delete}
use Rattle.sq_tree.specs.declared.statement.Fetch.{Fetch}
use Rattle.sq_tree.specs.declared.statement.Orientation.{Orientation}
use Rattle.sq_tree.specs.declared.statement.Orientation.TheVariants as orientation
use Rattle.sq_tree.specs.declared.statement.Position.{Position}
use Rattle.sq_tree.specs.declared.statement.Position.TheVariants as position_of
use Rattle.sq_tree.specs.declared.statement.Select.{Select as SelectStatement}
use Rattle.sq_tree.specs.declared.statement.Statement.{Statement}
use Rattle.sq_tree.specs.declared.statement.Statement.TheVariants as statement
use Rattle.sq_tree.specs.declared.statement.Update.{Update}
use Rattle.sq_tree.specs.declared.statement.Where.{Where}
use Rattle.sq_tree.specs.declared.statement.Where.TheVariants as rows_where
use Rattle.sq_meaning.specs.Environment.{Row, same_name}
use Rattle.sq_meaning.specs.Query.{rows}
use Rattle.sq_meaning.specs.QueryExpression.{ordered_rows}
use Rattle.sq_meaning.specs.Rows.{SortColumn}
use Rattle.sq_meaning.specs.SortKeys.{sort_columns}
use Rattle.sq_meaning.specs.Spelled.{cond_of, listed, listed_if_any, number_with_sign}
use Rattle.sq_meaning.specs.Status.{Outcome, ◌>>=◌, or_status}
use Rattle.sq_meaning.specs.Syntax.{present}
use Rattle.sq_meaning.specs.Syntax.{absent}
use Rattle.sq_meaning.specs.Tables.{kinds_by_name}
use Rattle.sq_meaning.specs.Target.{Target, chosen_numbers}
use Rattle.sq_meaning.specs.declared.status.Status.{Status}
use Rattle.sq_meaning.specs.declared.status.Status.TheVariants as status
use Rattle.sq_meaning.specs.Catalog.{base_count, tables_of}
use Rattle.sq_meaning.specs.Change.{Setting, Which, delete_outcome, insert_outcome, outer_env, reading_in, rows_at, update_outcome}
use Rattle.sq_meaning.specs.Cursor.{CursorState, Fetched, Move, before_numbers, before_rows, fetched, is_open, number_on, off_row}
use Rattle.sq_meaning.specs.Module.{cursor_named, cursors, declared_parameters, module_named, procedure_named}
use Rattle.sq_meaning.specs.Parameter.{Parameters, Reply, inputs_of, parameter_named, replied_row, replied_with, started_parameters}
use Rattle.sq_meaning.specs.Schema.{Elements}
use Rattle.sq_meaning.specs.WellFormedStatement.{Surroundings, cursor_names, cursor_query, is_well_formed_procedure, orientation_of, select_of_statement, surroundings_of, updatable_cursor}

-- a program: schema elements and modules, and the greatest number that a row may have
pub record Program : Type 0 where
  pub elements : Elements
  pub modules : List ModuleText
  pub row_numbers : ℕ

-- a cursor of a module
pub record CursorEntry : Type 0 where
  pub in_module : Name
  pub name : Name
  pub state : CursorState

-- the database now, the database at the last COMMIT, and a cursor for each that a module declares
pub record State : Type 0 where
  pub tables : Content
  pub committed : Content
  pub cursors : List CursorEntry

-- a call of a procedure of a module, with the values that it hands in
pub record Call : Type 0 where
  pub in_module : Name
  pub procedure : Name
  pub values : List Value

abbrev pub Outcomes : Type 0
Outcomes = State × Reply

-- ---- cursors

abbrev pub is_entry : Name → Name → CursorEntry → Bool
is_entry module_name name c = same_name c.in_module module_name && same_name c.name name

abbrev pub cursor_at : State → Name → Name → CursorState
cursor_at s module_name name =
    unwrap_or (option_map (λ c. c.state) (find (is_entry module_name name) s.cursors)) CursorState.closed

abbrev pub set_cursor : Name → Name → CursorState → CursorEntry → CursorEntry
set_cursor module_name name state c = if is_entry module_name name c then record c { state = state } else c

abbrev pub with_cursor : State → Name → Name → CursorState → State
with_cursor s module_name name state =
    record s { cursors = map (set_cursor module_name name state) s.cursors }

abbrev pub closed_entry : CursorEntry → CursorEntry
closed_entry c = record c { state = CursorState.closed }

abbrev pub all_closed : List CursorEntry → List CursorEntry
all_closed cursors = map closed_entry cursors

-- ---- at first both databases are empty, and all cursors closed

abbrev pub entries_of : ModuleText → List CursorEntry
entries_of m = map (λ c. record { in_module = m.name; name = c.name; state = CursorState.closed }) (cursors m)

abbrev pub first_state : Program → State
first_state p = record {
  tables = no_rows (base_count p.elements);
  committed = no_rows (base_count p.elements);
  cursors = flat_map entries_of p.modules;
}

-- ---- the surroundings of a statement

pub record Running : Type 0 where
  pub program : Program
  pub in_module : ModuleText
  pub procedure : Procedure
  pub parameters : Parameters
  pub state : State

abbrev pub surroundings : Running → Surroundings
surroundings r = surroundings_of r.program.elements r.in_module r.procedure

abbrev pub setting : Running → Setting
setting r = record {
  elements = r.program.elements;
  row_numbers = r.program.row_numbers;
  content = r.state.tables;
  inputs = inputs_of r.parameters;
  user = r.in_module.authorization;
}

abbrev pub ends_with : Running → Status → Outcomes
ends_with r s = (r.state, replied_with s)

-- the state of a cursor of the module, before and after
abbrev pub cursor_now : Running → Name → CursorState
cursor_now r name = cursor_at r.state r.in_module.name name

abbrev pub moved : Running → Name → CursorState → State
moved r name state = with_cursor r.state r.in_module.name name state

-- ---- OPEN (13.2)

abbrev pub sorted_query : Running → Cursor → List SortColumn → Outcome (List Row)
sorted_query r c order =
    ordered_rows (reading_in (setting r))
    (kinds_by_name (tables_of r.program.elements) (surroundings r).parameters)
    (cursor_query (surroundings r) c) order (outer_env (setting r))

-- the columns that ORDER BY sorts by
abbrev pub sort_order : Running → Cursor → Outcome (List SortColumn)
sort_order r c = do
  names ← cursor_names (surroundings r) c
  sort_columns names (listed_if_any c.order_by)

-- the rows of the cursor's query, in their order
abbrev pub cursor_rows : Running → Cursor → Outcome (List Row)
cursor_rows r c = do
  order ← sort_order r c
  sorted_query r c order

-- an updatable cursor fixes the numbers of its rows, any other the rows
abbrev pub numbers_or_rows : Running → Cursor → Option Target → Outcome CursorState
numbers_or_rows r c None = do
  found ← cursor_rows r c
  Ok (before_rows found)
numbers_or_rows r c (Some target) = do
  numbers ← chosen_numbers (reading_in (setting r)) (outer_env (setting r)) target
      (rows_at (setting r) target.place)
  Ok (before_numbers numbers)

abbrev pub opened : Running → Cursor → Outcome CursorState
opened r c = numbers_or_rows r c (updatable_cursor (surroundings r) c)

-- with a status the cursor stays closed
abbrev pub open_by : Running → Name → Outcome CursorState → Outcomes
open_by r name (Ok state) = (moved r name state, replied_with status.SuccessfulCompletion)
open_by r name (Err s) = ends_with r s

abbrev pub open_cursor : Running → Name → Cursor → Outcomes
open_cursor r name c =
    if is_open (cursor_now r name) then ends_with r status.InvalidCursorState else open_by r name (opened r c)

-- ---- FETCH (13.3)

abbrev pub integer_of : Value → ℤ
integer_of (value.Num n) = n.unscaled
integer_of _ = pos 0

abbrev pub parameter_integer : Parameters → Name → ℤ
parameter_integer parameters name =
    integer_of (unwrap_or (option_map (λ p. p.value) (parameter_named parameters name)) value.Null)

-- the number of ABSOLUTE and RELATIVE, read before any target is set
abbrev pub position_integer : Parameters → Position → ℤ
position_integer parameters (position_of.Number n) = (number_with_sign n).unscaled
position_integer parameters (position_of.Parameter name) = parameter_integer parameters name

abbrev pub move_of : Parameters → Option Orientation → Move
move_of parameters None = Move.next
move_of parameters (Some orientation.Next) = Move.next
move_of parameters (Some orientation.Prior) = Move.prior
move_of parameters (Some orientation.First) = Move.first
move_of parameters (Some orientation.Last) = Move.last
move_of parameters (Some (orientation.Absolute p)) = Move.absolute (position_integer parameters p)
move_of parameters (Some (orientation.Relative p)) = Move.relative (position_integer parameters p)

abbrev pub numbered_row : Setting → ℕ → ℕ → Option Row
numbered_row s place number = option_map (λ r. r.row) (find (λ r. r.number == number) (rows_at s place))

-- the row under a number, as an updatable cursor shows it now
abbrev pub shown_now : Running → Option Target → ℕ → Option Row
shown_now r None number = None
shown_now r (Some target) number =
    option_map (λ row. in_columns row target.columns) (numbered_row (setting r) target.place number)

-- no data if no row is reached; a failure of retrieving leaves the cursor at the place that it reached
abbrev pub fetch_reply : Running → Fetch → Option Row → Reply
fetch_reply r f None = replied_with status.NoData
fetch_reply r f (Some row) = replied_row r.parameters (listed f.targets) row

abbrev pub fetch_to : Running → Fetch → Fetched → Outcomes
fetch_to r f reached = (moved r f.cursor reached.cursor, fetch_reply r f reached.row)

abbrev pub fetch_cursor : Running → Fetch → Cursor → Outcomes
fetch_cursor r f c =
    if is_open (cursor_now r f.cursor)
    then fetch_to r f (fetched (shown_now r (updatable_cursor (surroundings r) c))
    (move_of r.parameters (orientation_of f)) (cursor_now r f.cursor))
    else ends_with r status.InvalidCursorState

-- ---- CLOSE (13.4)

abbrev pub close_cursor : Running → Name → Outcomes
close_cursor r name =
    if is_open (cursor_now r name)
    then (moved r name CursorState.closed, replied_with status.SuccessfulCompletion)
    else ends_with r status.InvalidCursorState

-- ---- SELECT INTO (13.5)

-- the only row
abbrev pub single_row : List Row → Outcome Row
single_row [] = Err status.NoData
single_row (row ∷ []) = Ok row
single_row (row ∷ next ∷ others) = Err status.CardinalityViolation

abbrev pub selected_row : Running → SelectStatement → Outcome Row
selected_row r s = do
  found ← rows (reading_in (setting r)) (select_of_statement r.in_module.authorization s)
      (outer_env (setting r))
  single_row found

abbrev pub select_reply : Running → SelectStatement → Outcome Row → Reply
select_reply r s (Ok row) = replied_row r.parameters (listed s.targets) row
select_reply r s (Err st) = replied_with st

abbrev pub select_into : Running → SelectStatement → Outcomes
select_into r s = (r.state, select_reply r s (selected_row r s))

-- ---- INSERT, UPDATE and DELETE (13.6 to 13.10)

-- a status leaves everything as it was; else the database is the new one, and the cursors are as `behind` has them
abbrev pub change_by : Running → State → Outcome Content → Outcomes
change_by r behind (Ok content) =
    (record behind { tables = content }, replied_with status.SuccessfulCompletion)
change_by r behind (Err s) = ends_with r s

-- the number that the cursor is on, if its row exists
abbrev pub row_is_there : Running → Target → ℕ → Option ℕ
row_is_there r target number = option_map (λ row. number) (numbered_row (setting r) target.place number)

abbrev pub current_number : Running → Name → Option ℕ
current_number r cursor =
    option_and_then (λ c. option_and_then
    (λ target. option_and_then (row_is_there r target) (number_on (cursor_now r cursor)))
    (updatable_cursor (surroundings r) c))
    (cursor_named r.in_module cursor)

-- the rows that UPDATE and DELETE change; a positioned statement needs a cursor that is on an existing row
abbrev pub which_rows : Running → Option Where → Outcome Which
which_rows r None = Ok (Which.searched absent)
which_rows r (Some (rows_where.Condition c)) =
    Ok (Which.searched (present (cond_of r.in_module.authorization c)))
which_rows r (Some (rows_where.CurrentOf cursor)) = do
  number ← or_status status.InvalidCursorState (current_number r cursor)
  Ok (Which.numbered number)

abbrev pub update_rows : Running → Update → Outcome Content
update_rows r u = do
  which ← which_rows r u.target
  update_outcome (setting r) u which

abbrev pub delete_rows : Running → Delete → Outcome Content
delete_rows r x = do
  which ← which_rows r x.target
  delete_outcome (setting r) x which

-- after a positioned DELETE the cursor is before the next row
abbrev pub behind_delete : Running → Option Where → State
behind_delete r (Some (rows_where.CurrentOf cursor)) = moved r cursor (off_row (cursor_now r cursor))
behind_delete r _ = r.state

-- ---- COMMIT and ROLLBACK (14.3, 14.4) close all cursors

abbrev pub committed_state : State → State
committed_state s = record { tables = s.tables; committed = s.tables; cursors = all_closed s.cursors }

abbrev pub rolled_back : State → State
rolled_back s = record { tables = s.committed; committed = s.committed; cursors = all_closed s.cursors }

-- ---- a statement

-- the cursor that a statement names; that it exists is a rule of well-formed statements
abbrev pub with_named : Running → Name → (Cursor → Outcomes) → Outcomes
with_named r name go_on =
    unwrap_or (option_map go_on (cursor_named r.in_module name))
    (ends_with r status.SyntaxErrorOrAccessRuleViolation)

abbrev pub performed : Running → Statement → Outcomes
performed r (statement.Open name) = with_named r name (open_cursor r name)
performed r (statement.Fetch f) = with_named r f.cursor (fetch_cursor r f)
performed r (statement.Close name) = close_cursor r name
performed r (statement.Select s) = select_into r s
performed r (statement.Insert i) = change_by r r.state (insert_outcome (setting r) i)
performed r (statement.Update u) = change_by r r.state (update_rows r u)
performed r (statement.Delete x) = change_by r (behind_delete r x.target) (delete_rows r x)
performed r (statement.Commit work) = (committed_state r.state, replied_with status.SuccessfulCompletion)
performed r (statement.Rollback work) = (rolled_back r.state, replied_with status.SuccessfulCompletion)

-- ---- a call

-- a statement that is not well formed changes nothing
abbrev pub performed_if : (well_formed : Bool) → Running → Outcomes
performed_if true r = performed r r.procedure.statement
performed_if false r = ends_with r status.SyntaxErrorOrAccessRuleViolation

abbrev pub running : Program → State → List Value → ModuleText → Procedure → Running
running p s values m procedure = record {
  program = p;
  in_module = m;
  procedure = procedure;
  parameters = started_parameters (declared_parameters procedure) values;
  state = s;
}

abbrev pub call_of : Program → State → List Value → ModuleText → Procedure → Outcomes
call_of p s values m procedure =
    performed_if (is_well_formed_procedure p.elements m procedure) (running p s values m procedure)

abbrev pub call_in : Program → State → Call → ModuleText → Option Outcomes
call_in p s c m = option_map (call_of p s c.values m) (procedure_named m c.procedure)

-- the state after a call, and the call's answer; a script's calls name existing procedures
abbrev pub outcome : Program → State → Call → Outcomes
outcome p s c =
    unwrap_or (option_and_then (call_in p s c) (module_named p.modules c.in_module))
    (s, replied_with status.SyntaxErrorOrAccessRuleViolation)

abbrev pub stepped : Program → State → Call → State
stepped p s c = (outcome p s c).0

abbrev pub replied : Program → State → Call → Reply
replied p s c = (outcome p s c).1
