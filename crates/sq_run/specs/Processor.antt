-- A processor of schema and module texts: the table machine, the state to which calls have brought it, and what each
-- call does and keeps (ISO/IEC 9075:1992, 4.21, 12.3, 12.4 and clause 13).
use Rattle.std.specs.Prelude.{◌≡◌, ◌≤◌, ◌-◌, ◌&&◌, ℕ, Bool, true, false, not, List, map, flat_map, position, slice_get, Option, Some, None, option_map, unwrap_or}
use Rattle.std.specs.Option.{option_map_or}
use Rattle.sq_lex.specs.declared.name.Name.{Name}
use Rattle.sq_value.specs.declared.value.Value.{Value}
use Rattle.sq_store.specs.Content.{table_at}
use Rattle.sq_store.specs.declared.table.Numbered.{Numbered}
use Rattle.sq_tree.specs.Schema.{schema_tokens, schema_depth}
use Rattle.sq_tree.specs.Module.{module_tokens, module_depth}
use Rattle.sq_tree.specs.declared.module.Cursor.{Cursor}
use Rattle.sq_tree.specs.declared.module.ModuleText.{ModuleText}
use Rattle.sq_tree.specs.declared.module.Procedure.{Procedure}
use Rattle.sq_tree.specs.declared.schema.SchemaText.{SchemaText}
use Rattle.sq_tree.specs.declared.statement.Fetch.{Fetch}
use Rattle.sq_tree.specs.declared.statement.Select.{Select}
use Rattle.sq_tree.specs.declared.statement.Statement.{Statement}
use Rattle.sq_tree.specs.declared.statement.Statement.TheVariants as statement
use Rattle.sq_meaning.specs.Constraints.{ConstraintsHold}
use Rattle.sq_meaning.specs.Environment.{Input, same_name}
use Rattle.sq_meaning.specs.Keyed.{is_keyed_statement, is_quiet_cursor}
use Rattle.sq_meaning.specs.Cursor.{number_on}
use Rattle.sq_meaning.specs.Machine.{Call, Program, State, cursor_at, first_state, replied, stepped}
use Rattle.sq_meaning.specs.Module.{cursor_named, declared_parameters, procedures}
use Rattle.sq_meaning.specs.ModuleRefusal.{first_module_refusal}
use Rattle.sq_meaning.specs.Parameter.{inputs_of, started_parameters}
use Rattle.sq_meaning.specs.Report.{Bytes}
use Rattle.sq_meaning.specs.Run.{program_of}
use Rattle.sq_meaning.specs.Schema.{base_place}
use Rattle.sq_meaning.specs.SchemaRefusal.{first_schema_refusal}
use Rattle.sq_meaning.specs.Script.{fit}
use Rattle.sq_meaning.specs.WellFormedStatement.{is_well_formed_procedure, surroundings_of}
use Rattle.sq_meaning.specs.declared.status.Status.TheVariants.{SuccessfulCompletion}
use Rattle.sq_session.specs.declared.reply.Reply.{Reply}
use Rattle.sq_perform.specs.Steps.{told}
use Rattle.sq_perform.specs.Texts.{AllSpell}
use Rattle.sq_run.specs.Keyed.{is_keyed_select}

-- what runs, and the state to which calls have brought it
pub record Machine : Type 0 where
  pub program : Program
  pub state : State

-- ---- texts

-- trees that the texts spell, none of which is refused
pub record AreAccepted (schemas modules : List Bytes) : Type 0 where
  pub schema_trees : List SchemaText
  pub module_trees : List ModuleText
  pub schemas_spell : AllSpell schema_tokens schema_depth schemas schema_trees
  pub modules_spell : AllSpell module_tokens module_depth modules module_trees
  pub accepted : first_schema_refusal schema_trees ≡ None
  pub admitted : first_module_refusal module_trees ≡ None

-- the machine of the texts in its first state, where rows may have numbers up to this one
pub record IsOpened (row_numbers : ℕ) (schemas modules : List Bytes) (m : Machine) : Type 0 where
  pub texts : AreAccepted schemas modules
  pub program : m.program ≡ program_of texts.schema_trees texts.module_trees row_numbers
  pub state : m.state ≡ first_state m.program

-- ---- procedures, each with its module: the number of one is its place in the order of the texts

abbrev pub with_module : ModuleText → List (ModuleText × Procedure)
with_module m = map (λ p. (m, p)) (procedures m)

abbrev pub all_procedures : Program → List (ModuleText × Procedure)
all_procedures p = flat_map with_module p.modules

abbrev pub procedure_at : Program → ℕ → Option (ModuleText × Procedure)
procedure_at p number = slice_get (all_procedures p) number

abbrev pub is_called : Name → Name → ModuleText × Procedure → Bool
is_called in_module name e = same_name in_module e.0.name && same_name name e.1.name

-- the number of the procedure of this module and name
abbrev pub number_of : Program → Name → Name → Option ℕ
number_of p in_module name = position (is_called in_module name) (all_procedures p)

-- whether there are as many values as parameters, each of which can store its own (12.4)
abbrev pub takes : Program → ℕ → List Value → Bool
takes p number values =
    option_map_or (λ e. fit (declared_parameters e.1) values) (procedure_at p number) false

-- ---- a call

abbrev pub call_of : List Value → ModuleText × Procedure → Call
call_of values e = record { in_module = e.0.name; procedure = e.1.name; values = values }

-- the call of the procedure with this number
abbrev pub call_at : Program → ℕ → List Value → Option Call
call_at p number values = option_map (call_of values) (procedure_at p number)

-- the machine after that call
abbrev pub after_call : Machine → ℕ → List Value → Machine
after_call m number values =
    record m { state = option_map_or (stepped m.program m.state) (call_at m.program number values) m.state }

-- A call of the procedure with this number answers as the machine does, and is the machine's step.
pub record IsStep (m : Machine) (number : ℕ) (values : List Value) (reply : Reply) (after : Machine)
    : Type 0 where
  pub call : Call
  pub is : call_at m.program number values ≡ Some call
  pub replies : told reply ≡ replied m.program m.state call
  pub steps : after ≡ record m { state = stepped m.program m.state call }

-- ---- what each call keeps

-- all constraints hold, of the tables as they are and as they were committed (4.10)
abbrev pub AllHold : Machine → Type 0
AllHold m =
    ConstraintsHold m.program.elements m.state.tables × ConstraintsHold m.program.elements m.state.committed

-- a call that is not successful changes no table
abbrev pub FailsWithoutChange : Machine → Reply → Machine → Type 0
FailsWithoutChange m reply after =
    (reply.status ≡ SuccessfulCompletion → ⊥) → after.state.tables ≡ m.state.tables

-- CLOSE, COMMIT and ROLLBACK take no memory (own rule)
abbrev pub takes_memory : Statement → Bool
takes_memory (statement.Close name) = false
takes_memory (statement.Commit work) = false
takes_memory (statement.Rollback work) = false
takes_memory _ = true

abbrev pub needs_memory : Program → ℕ → Bool
needs_memory p number = option_map_or (λ e. takes_memory e.1.statement) (procedure_at p number) false

-- the rules find a fault in the statement of the procedure with this number, so each call of it answers 42000 (12.3)
abbrev pub has_fault : Program → ℕ → Bool
has_fault p number =
    option_map_or (λ e. not (is_well_formed_procedure p.elements e.0 e.1)) (procedure_at p number) false

-- ---- how many rows a call reads (own rule; the standard asks nothing of how rows are found)

abbrev pub inputs : List Value → Procedure → List Input
inputs values p = inputs_of (started_parameters (declared_parameters p) values)

-- the number of the row that a cursor of a module is on
abbrev pub number_at : Machine → ModuleText → Name → Option ℕ
number_at m in_module cursor = number_on (cursor_at m.state in_module.name cursor)

-- A call of this procedure of a module, in whose statement the rules find no fault: UPDATE, DELETE and SELECT INTO that
-- name their row by a key read one at most, and OPEN of a quiet cursor reads none. A FETCH that takes an updatable cursor
-- from the row of one number, or from no row, to that of another reads one at least, and no more than the numbers differ.
pub record ReadsFew (m : Machine) (values : List Value) (e : ModuleText × Procedure) (count : ℕ)
    (after : Machine) : Type 0 where
  pub changes : is_keyed_statement m.program.elements e.0.authorization (inputs values e.1) e.1.statement ≡ true
      → count ≤ 1
  pub selects : (q : Select) → e.1.statement ≡ statement.Select q
      → is_keyed_select m.program.elements e.0.authorization (inputs values e.1) q ≡ true → count ≤ 1
  pub opens : (name : Name) (c : Cursor) → e.1.statement ≡ statement.Open name
      → cursor_named e.0 name ≡ Some c
      → is_quiet_cursor (surroundings_of m.program.elements e.0 e.1) c ≡ true → count ≡ 0
  pub fetches : (f : Fetch) (c : Cursor) (number : ℕ) → e.1.statement ≡ statement.Fetch f
      → cursor_named e.0 f.cursor ≡ Some c → number_at after e.0 f.cursor ≡ Some number
      → (1 ≤ count) × (count ≤ number - unwrap_or (number_at m e.0 f.cursor) 0)

-- so it is of the call of the procedure with this number
abbrev pub CallReadsFew : Machine → ℕ → List Value → ℕ → Machine → Type 0
CallReadsFew m number values count after =
    (e : ModuleText × Procedure) → procedure_at m.program number ≡ Some e
    → is_well_formed_procedure m.program.elements e.0 e.1 ≡ true → ReadsFew m values e count after

-- ---- tables

-- the rows of the base table of this owner and name, with their numbers
abbrev pub rows_of : Machine → Name → Name → Option (List Numbered)
rows_of m user name =
    option_map (λ place. (table_at m.state.tables place).rows)
    (base_place m.program.elements (record { user = user; name = name }))
