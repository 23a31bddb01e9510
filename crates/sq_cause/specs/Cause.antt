-- What a cause says, in the words of the machine, of the state as it is after the call: a call that ends with a status other than 00000
-- leaves the tables as they were, and but for FETCH the cursors, too.
use Rattle.std.specs.Prelude.{◌≡◌, ⊤, ℕ, List, Some}
use Rattle.sq_value.specs.declared.value.Value.{Value}
use Rattle.sq_store.specs.Keys.{Keys}
use Rattle.sq_store.specs.declared.change.Change.{Change}
use Rattle.sq_meaning.specs.declared.status.Status.{Status}
use Rattle.sq_meaning.specs.declared.status.Status.TheVariants as status
use Rattle.sq_bound.specs.declared.names.Leaf.{Leaf}
use Rattle.sq_change.specs.Made.{Seen}
use Rattle.sq_session.specs.Kind.{Kind, fault_at, kind_at, read_parameters}
use Rattle.sq_session.specs.Parameter.{started_values}
use Rattle.sq_session.specs.Schemas.{Schemas}
use Rattle.sq_session.specs.Session.{Session}
use Rattle.sq_session.specs.State.{State}
use Rattle.sq_cause.specs.Broken.{IsBroken, seen_of}
use Rattle.sq_cause.specs.Clause.{IsClauseCause}
use Rattle.sq_cause.specs.Cursor.{IsCursorCause}
use Rattle.sq_cause.specs.Made.{IsMade, leaf_of}
use Rattle.sq_cause.specs.NoRow.{IsNoNumberCause, IsNoRowCause}
use Rattle.sq_cause.specs.Option.{IsOptionBreach}
use Rattle.sq_cause.specs.QueryCause.{IsQueryCause}
use Rattle.sq_cause.specs.RowEnd.{IsRowEnd}
use Rattle.sq_cause.specs.Select.{IsSelectCause, status_of_select}
use Rattle.sq_cause.specs.Target.{IsTargetCause, status_of_target}
use Rattle.sq_cause.specs.Value.{IsValueCause}
use Rattle.sq_cause.specs.ValueFault.{status_of_value}
use Rattle.sq_cause.specs.declared.cause.Cause.{Cause}
use Rattle.sq_cause.specs.declared.cause.Cause.TheVariants as cause

-- the status that a call with this cause ends with
abbrev pub status_of : Cause → Status
status_of (cause.Fault f) = status.SyntaxErrorOrAccessRuleViolation
status_of (cause.Cursor c) = status.InvalidCursorState
status_of (cause.Breach table b) = status.IntegrityConstraintViolation
status_of (cause.CheckOption table b) = status.CheckOptionViolation
status_of (cause.Value v) = status_of_value v.fault
status_of (cause.Target t) = status_of_target t.fault
status_of (cause.Select c) = status_of_select c
status_of (cause.NoRow c) = status.NoData
status_of (cause.NoNumber table) = status.NoRowNumberLeft
status_of (cause.Clause c) = c.status
status_of (cause.RowEnd e) = e.status
status_of (cause.Query q) = q.end.end.end.status
status_of (cause.General st) = st

-- ---- of changes that are made in the base table of a leaf; these are the columns of the keys of all tables

abbrev pub IsChangeCause : Schemas → Seen → List Keys → Leaf → List Change → Cause → Type 0
IsChangeCause s seen keys leaf changes (cause.Breach table b) =
    (table ≡ leaf.table.place) × IsBroken s seen keys leaf.table changes b
IsChangeCause s seen keys leaf changes (cause.CheckOption table b) =
    (table ≡ leaf.table.place) × IsOptionBreach s seen leaf changes b
IsChangeCause s seen keys leaf changes (cause.RowEnd e) = IsRowEnd s seen leaf changes e
IsChangeCause s seen keys leaf changes _ = ⊥

-- the statement would make these changes, and this is what would not hold, or would end with a status
pub record ChangeCause (s : Schemas) (k : Kind) (values : List Value) (state : State) (c : Cause) : Type 0 where
  pub leaf : Leaf
  pub leaf_is : leaf_of k ≡ Some leaf
  pub changes : List Change
  pub made : IsMade s k values state changes
  pub broken : IsChangeCause s (seen_of s k values state) state.keys leaf changes c

-- ---- of a statement without a fault, whose parameters start with these values

abbrev pub IsStatementCause : Schemas → Kind → List Value → State → Cause → Type 0
IsStatementCause s k values state (cause.Fault f) = ⊥
IsStatementCause s k values state (cause.Cursor c) = IsCursorCause k state.cursors state.tables c
IsStatementCause s k values state (cause.Breach table b) = ChangeCause s k values state (cause.Breach table b)
IsStatementCause s k values state (cause.CheckOption table b) =
    ChangeCause s k values state (cause.CheckOption table b)
IsStatementCause s k values state (cause.Value v) = IsValueCause s k values state v
IsStatementCause s k values state (cause.Target t) = IsTargetCause k state.cursors state.tables t
IsStatementCause s k values state (cause.Select c) = IsSelectCause s k values state.tables c
IsStatementCause s k values state (cause.NoRow c) = IsNoRowCause s k values state c
IsStatementCause s k values state (cause.NoNumber table) = IsNoNumberCause s k values state table
IsStatementCause s k values state (cause.Clause c) = IsClauseCause s k values state c
IsStatementCause s k values state (cause.RowEnd e) = ChangeCause s k values state (cause.RowEnd e)
IsStatementCause s k values state (cause.Query q) = IsQueryCause s k values state.tables q
IsStatementCause s k values state (cause.General st) = ⊤

-- the procedure has a statement without a fault, of which this is a cause
pub record HasCause (s : Session) (procedure : ℕ) (values : List Value) (c : Cause) : Type 0 where
  pub kind : Kind
  pub at : kind_at s.procedures procedure ≡ Some kind
  pub cause : IsStatementCause s.schemas kind (started_values (read_parameters kind) values) s.state c

-- ---- of a call

-- What a cause says is true. A general cause says the status alone.
abbrev pub IsCause : Session → ℕ → List Value → Cause → Type 0
IsCause s procedure values (cause.Fault f) = fault_at s.procedures procedure ≡ Some f
IsCause s procedure values (cause.Cursor c) = HasCause s procedure values (cause.Cursor c)
IsCause s procedure values (cause.Breach table b) = HasCause s procedure values (cause.Breach table b)
IsCause s procedure values (cause.CheckOption table b) = HasCause s procedure values (cause.CheckOption table b)
IsCause s procedure values (cause.Value v) = HasCause s procedure values (cause.Value v)
IsCause s procedure values (cause.Target t) = HasCause s procedure values (cause.Target t)
IsCause s procedure values (cause.Select c) = HasCause s procedure values (cause.Select c)
IsCause s procedure values (cause.NoRow c) = HasCause s procedure values (cause.NoRow c)
IsCause s procedure values (cause.NoNumber table) = HasCause s procedure values (cause.NoNumber table)
IsCause s procedure values (cause.Clause c) = HasCause s procedure values (cause.Clause c)
IsCause s procedure values (cause.RowEnd e) = HasCause s procedure values (cause.RowEnd e)
IsCause s procedure values (cause.Query q) = HasCause s procedure values (cause.Query q)
IsCause s procedure values (cause.General st) = ⊤
