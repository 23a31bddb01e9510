-- What OPEN, FETCH and CLOSE tell: nothing but rows of tables and views on which the module's user holds SELECT, and what
-- became of rows on which a cursor was opened (ISO/IEC 9075:1992, 4.21, 4.26 and 13.2 to 13.4).
use Rattle.std.specs.Prelude.{◌≡◌, ⊤, ℕ, Bool, true, false, List, [], find, filter_map, ◌==◌, Option, option_map, option_and_then, Some, None}
use Rattle.sq_lex.specs.declared.name.Name.{Name}
use Rattle.sq_value.specs.Key.{in_columns}
use Rattle.sq_store.specs.Content.{Content, table_at}
use Rattle.sq_tree.specs.declared.module.ModuleText.{ModuleText}
use Rattle.sq_tree.specs.declared.module.Procedure.{Procedure}
use Rattle.sq_tree.specs.declared.statement.Statement.{Statement}
use Rattle.sq_tree.specs.declared.statement.Statement.TheVariants as statement
use Rattle.sq_meaning.specs.Environment.{Row}
use Rattle.sq_meaning.specs.Target.{Target}
use Rattle.sq_meaning.specs.Cursor.{CursorState}
use Rattle.sq_meaning.specs.Machine.{Call, Program, State, cursor_at, replied, stepped}
use Rattle.sq_meaning.specs.Module.{cursor_named, module_named, procedure_named}
use Rattle.sq_meaning.specs.Run.{RunItem}
use Rattle.sq_meaning.specs.Schema.{Elements}
use Rattle.sq_meaning.specs.WellFormedStatement.{updatable_cursor}
use Rattle.sq_run.specs.Confined.{LookAlike}
use Rattle.sq_run.specs.ShownRows.{state_after}

-- ---- cursors

-- what the cursor of this name is over, if it is updatable
abbrev pub target_named : Elements → ModuleText → Name → Option Target
target_named elements m name =
    option_and_then (updatable_cursor (record { elements = elements; in_module = m; parameters = [] }))
    (cursor_named m name)

-- the row under a number as an updatable cursor shows it now
abbrev pub shown_under : Option Target → Content → ℕ → Option Row
shown_under None content number = None
shown_under (Some target) content number =
    option_map (λ row. in_columns row target.columns)
    (option_map (λ r. r.row) (find (λ r. r.number == number) (table_at content target.place).rows))

-- Two states of a cursor look alike: it is closed, or it is at the same place of the same rows, or it comes to the same rows
-- under the numbers that it keeps. Each of these is shown as it is now, even if a change took it out of its view.
abbrev pub LooksAlike : (one other : ℕ → Option Row) → CursorState → CursorState → Type 0
LooksAlike one other CursorState.closed CursorState.closed = ⊤
LooksAlike one other (CursorState.over_numbers numbers on) (CursorState.over_numbers others beside) =
    filter_map one numbers ≡ filter_map other others
LooksAlike one other (CursorState.over_rows rows place) (CursorState.over_rows others beside) =
    (rows ≡ others) × (place ≡ beside)
LooksAlike one other _ _ = ⊥

-- ---- what a module may see

-- Two states look alike to a module: its user reads the same rows, and its cursors look alike.
pub record AlikeTo (p : Program) (m : ModuleText) (s t : State) : Type 0 where
  pub tables : LookAlike p.elements m.authorization s.tables t.tables
  pub cursors : (name : Name) → LooksAlike (shown_under (target_named p.elements m name) s.tables)
      (shown_under (target_named p.elements m name) t.tables)
      (cursor_at s m.name name) (cursor_at t m.name name)

abbrev pub is_of_cursor : Statement → Bool
is_of_cursor (statement.Open name) = true
is_of_cursor (statement.Fetch f) = true
is_of_cursor (statement.Close name) = true
is_of_cursor _ = false

-- A call of OPEN, FETCH or CLOSE answers the same in two states that look alike to its module, and they look alike to it
-- afterwards, whatever items led to the one and to the other.
unfoldable pub CursorsTellWhatMayBeRead : Program → Type 0
CursorsTellWhatMayBeRead p =
    (items others : List RunItem) (c : Call) (m : ModuleText) (q : Procedure)
    → module_named p.modules c.in_module ≡ Some m → procedure_named m c.procedure ≡ Some q
    → is_of_cursor q.statement ≡ true →
    let s : State = state_after p items in
    let t : State = state_after p others in
    AlikeTo p m s t → (replied p s c ≡ replied p t c) × AlikeTo p m (stepped p s c) (stepped p t c)
