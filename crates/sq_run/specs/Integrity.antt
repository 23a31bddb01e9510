-- What a call changes, and the privileges that the module's user holds for it (ISO/IEC 9075:1992, 4.26, 13.6 to 13.10 and
-- 14.4).
use Rattle.std.specs.List.{AllByRecursion, IsAmong, list_any}
use Rattle.std.specs.Prelude.{◌≡◌, ℕ, Bool, true, false, List, filter_map, nat_eq, slice_get, Some, Ok}
use Rattle.sq_lex.specs.declared.name.Name.{Name}
use Rattle.sq_store.specs.Content.{table_at, with_table}
use Rattle.sq_store.specs.declared.table.Numbered.{Numbered}
use Rattle.sq_store.specs.declared.table.Table.{Table}
use Rattle.sq_tree.specs.declared.module.ModuleText.{ModuleText}
use Rattle.sq_tree.specs.declared.statement.Statement.{Statement}
use Rattle.sq_tree.specs.declared.statement.Statement.TheVariants as statement
use Rattle.sq_meaning.specs.Environment.{Row, TableName}
use Rattle.sq_meaning.specs.Status.{Outcome, ◌>>=◌}
use Rattle.sq_meaning.specs.Syntax.{absent}
use Rattle.sq_meaning.specs.Tables.{Tables, descriptor_of}
use Rattle.sq_meaning.specs.Target.{Target, searched_target, target_of}
use Rattle.sq_meaning.specs.Catalog.{tables_of}
use Rattle.sq_meaning.specs.Change.{place_under, with_replaced, with_rows, without}
use Rattle.sq_meaning.specs.Machine.{Call, Program, State, stepped}
use Rattle.sq_meaning.specs.Module.{module_named}
use Rattle.sq_meaning.specs.Privilege.{Privilege}
use Rattle.sq_meaning.specs.Privileges.{holds}
use Rattle.sq_meaning.specs.Schema.{Elements}
use Rattle.sq_meaning.specs.Script.{procedure_called}
use Rattle.sq_meaning.specs.Words.{is_some_and}

-- the places, in the base table, of the columns that a table or view has under these names
abbrev pub base_places : Tables → TableName → List Name → Outcome (List ℕ)
base_places tables name columns = do
  d ← descriptor_of tables name
  target ← searched_target tables name absent
  Ok (filter_map (place_under d target) columns)

-- a row that was there under its number, with the same values at all other places than these
pub record IsRowWith (places : List ℕ) (before : Table) (new : Numbered) : Type 0 where
  pub old : Numbered
  pub was_there : IsAmong before.rows old
  pub number : new.number ≡ old.number
  pub others : (place : ℕ) → list_any (nat_eq place) places ≡ false
      → slice_get new.row place ≡ slice_get old.row place

-- A base table is changed through the table or view of this name by a user who holds the privilege on that name: INSERT
-- where rows are added, DELETE where some go, and where some get other values, UPDATE on each column that does.
pub data IsAllowed (elements : Elements) (user : Name) (name : TableName) (before after : Table)
    : Type 0 where
  inserts : holds elements user name Privilege.insert ≡ true → (rows : List Row)
      → after ≡ with_rows before rows
      → IsAllowed elements user name before after
  deletes : holds elements user name Privilege.delete ≡ true → (numbers : List ℕ)
      → after ≡ without before numbers
      → IsAllowed elements user name before after
  updates : (columns : List Name)
      → AllByRecursion (λ c. holds elements user name (Privilege.update c) ≡ true) columns → (places : List ℕ)
      → base_places (tables_of elements) name columns ≡ Ok places → (changed : List Numbered)
      → after ≡ with_replaced before changed → AllByRecursion (IsRowWith places before) changed
      → IsAllowed elements user name before after

-- one base table is changed: the one of this name, or the one under the view of this name
pub record ChangesOne (p : Program) (s : State) (c : Call) : Type 0 where
  pub in_module : ModuleText
  pub is_in_module : module_named p.modules c.in_module ≡ Some in_module
  pub name : TableName
  pub target : Target
  pub means : target_of (tables_of p.elements) name ≡ Ok target
  pub after : Table
  pub is_after : (stepped p s c).tables ≡ with_table s.tables target.place after
  pub allowed : IsAllowed p.elements in_module.authorization name (table_at s.tables target.place) after

abbrev pub is_rollback : Statement → Bool
is_rollback (statement.Rollback work) = true
is_rollback _ = false

-- a call of a procedure whose statement is ROLLBACK
abbrev pub rolls_back : Program → Call → Bool
rolls_back p c =
    is_some_and (λ q. is_rollback q.statement) (procedure_called p.modules c.in_module c.procedure)

pub data Changes (p : Program) (s : State) (c : Call) : Type 0 where
  nothing : (stepped p s c).tables ≡ s.tables → Changes p s c
  to_committed : rolls_back p c ≡ true → (stepped p s c).tables ≡ s.committed → Changes p s c
  one_table : ChangesOne p s c → Changes p s c

-- A call changes no table; or it is one of ROLLBACK; or it changes one base table, for which its module's user holds the
-- privilege.
unfoldable pub OnlyAllowedChanges : Program → Type 0
OnlyAllowedChanges p = (s : State) (c : Call) → Changes p s c
