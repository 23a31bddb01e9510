-- What a FETCH of an updatable cursor shows (ISO/IEC 9075:1992, 13.2 and 13.3).
use Rattle.std.specs.List.{AllByRecursion, IsAmong}
use Rattle.std.specs.Prelude.{◌≡◌, ℕ, true, List, [], ◌∷◌, ◌++◌, Some, Ok}
use Rattle.sq_lex.specs.declared.name.Name.{Name}
use Rattle.sq_value.specs.Key.{in_columns}
use Rattle.sq_value.specs.declared.truth.Truth.TheVariants.{True}
use Rattle.sq_store.specs.declared.table.Numbered.{Numbered}
use Rattle.sq_tree.specs.declared.module.Cursor.{Cursor}
use Rattle.sq_tree.specs.declared.module.ModuleText.{ModuleText}
use Rattle.sq_tree.specs.declared.module.Procedure.{Procedure}
use Rattle.sq_tree.specs.declared.statement.Fetch.{Fetch}
use Rattle.sq_tree.specs.declared.statement.Statement.TheVariants as statement
use Rattle.sq_meaning.specs.Environment.{Row}
use Rattle.sq_meaning.specs.Spelled.{listed}
use Rattle.sq_meaning.specs.Target.{Target, level_truth}
use Rattle.sq_meaning.specs.declared.status.Status.TheVariants as status
use Rattle.sq_meaning.specs.Change.{outer_env, reading_in, rows_at}
use Rattle.sq_meaning.specs.Cursor.{is_open, number_on}
use Rattle.sq_meaning.specs.Machine.{Call, Program, Running, State, cursor_at, first_state, numbered_row, replied, running, setting, stepped}
use Rattle.sq_meaning.specs.Module.{cursor_named, module_named, procedure_named}
use Rattle.sq_meaning.specs.Parameter.{replied_row, replied_with}
use Rattle.sq_meaning.specs.Run.{RunItem, after, after_item}
use Rattle.sq_meaning.specs.WellFormedStatement.{is_well_formed_procedure, surroundings_of, updatable_cursor}

-- the state that some items lead to
abbrev pub state_after : Program → List RunItem → State
state_after p items = after p (first_state p) items

-- a row is there under a number for which each condition is true: those of views, and that of the cursor
pub record IsMet (r : Running) (target : Target) (number : ℕ) : Type 0 where
  pub row : Numbered
  pub is_there : IsAmong (rows_at (setting r) target.place) row
  pub numbered : row.number ≡ number
  pub conditions : AllByRecursion (λ level.
      level_truth (reading_in (setting r)) (outer_env (setting r)) level row.row ≡ Ok True) target.levels

-- a cursor is open in a state, and after each of these items
abbrev pub StaysOpen : Program → (in_module cursor : Name) → State → List RunItem → Type 0
StaysOpen p in_module cursor s [] = is_open (cursor_at s in_module cursor) ≡ true
StaysOpen p in_module cursor s (i ∷ items) =
    (is_open (cursor_at s in_module cursor) ≡ true) × StaysOpen p in_module cursor (after_item p s i) items

-- Among these items a call opened a cursor, which has been open since, and a row under this number met the conditions
-- then.
pub record WasMet (p : Program) (items : List RunItem) (m : ModuleText) (cursor : Name) (target : Target)
    (number : ℕ) : Type 0 where
  pub earlier : List RunItem
  pub opening : Call
  pub later : List RunItem
  pub are : items ≡ earlier ++ RunItem.call opening ∷ later
  pub procedure : Procedure
  pub is_in_module : module_named p.modules opening.in_module ≡ Some m
  pub is_procedure : procedure_named m opening.procedure ≡ Some procedure
  pub opens : procedure.statement ≡ statement.Open cursor
  pub done : replied p (state_after p earlier) opening ≡ replied_with status.SuccessfulCompletion
  pub met : IsMet (running p (state_after p earlier) opening.values m procedure) target number
  pub open_since : StaysOpen p m.name cursor (stepped p (state_after p earlier) opening) later

-- a call of a procedure that fetches from an updatable cursor
pub record Fetches (p : Program) (c : Call) : Type 0 where
  pub in_module : ModuleText
  pub is_in_module : module_named p.modules c.in_module ≡ Some in_module
  pub procedure : Procedure
  pub is_procedure : procedure_named in_module c.procedure ≡ Some procedure
  pub is_sound : is_well_formed_procedure p.elements in_module procedure ≡ true
  pub fetch : Fetch
  pub statement_is : procedure.statement ≡ statement.Fetch fetch
  pub cursor : Cursor
  pub is_cursor : cursor_named in_module fetch.cursor ≡ Some cursor
  pub target : Target
  pub is_updatable : updatable_cursor (surroundings_of p.elements in_module procedure) cursor ≡ Some target

-- the call as its statement is performed
abbrev pub performing : (p : Program) (items : List RunItem) (c : Call) → Fetches p c → Running
performing p items c is = running p (state_after p items) c.values is.in_module is.procedure

-- the reply shows the row that is now under a number which met the conditions when the cursor was opened, and on which
-- the cursor is
pub record ShowsNow (p : Program) (items : List RunItem) (c : Call) (is : Fetches p c) : Type 0 where
  pub number : ℕ
  pub row : Row
  pub is_now : numbered_row (setting (performing p items c is)) is.target.place number ≡ Some row
  pub reply : replied p (state_after p items) c ≡ replied_row (performing p items c is).parameters
      (listed is.fetch.targets) (in_columns row is.target.columns)
  pub was_met : WasMet p items is.in_module is.fetch.cursor is.target number
  pub is_on : number_on
      (cursor_at (stepped p (state_after p items) c) is.in_module.name is.fetch.cursor) ≡ Some number

pub data FetchReply (p : Program) (items : List RunItem) (c : Call) (is : Fetches p c) : Type 0 where
  not_open : replied p (state_after p items) c ≡ replied_with status.InvalidCursorState
      → FetchReply p items c is
  no_row : replied p (state_after p items) c ≡ replied_with status.NoData → FetchReply p items c is
  shows : ShowsNow p items c is → FetchReply p items c is

-- After any items a FETCH of an updatable cursor finds it closed, or without a next row, or shows a row as it is now whose
-- number met the conditions when the cursor was opened.
unfoldable pub FetchShowsRowsNow : Program → Type 0
FetchShowsRowsNow p = (items : List RunItem) (c : Call) (is : Fetches p c) → FetchReply p items c is
