-- What the texts of a run come to (own form: texts and a script stand for the work of a host program): what is to be
-- done, or the first refusal. All schema texts are read and then judged, then all modules, then the script.
use Rattle.std.specs.Prelude.{ℕ, ◌+◌, List, [], ◌∷◌, map, take, slice_get, Option, option_map, Some, None, Result, Ok, Err}
use Rattle.sq_lex.specs.Position as lexed
use Rattle.sq_tree.specs.Starts.{script_item_start}
use Rattle.sq_tree.specs.declared.module.ModuleText.{ModuleText}
use Rattle.sq_tree.specs.declared.schema.SchemaText.{SchemaText}
use Rattle.sq_tree.specs.declared.script.ScriptText.{ScriptText}
use Rattle.sq_grammar.specs.Reading.{Parser}
use Rattle.sq_meaning.specs.ModuleRefusal.{ModuleRefusal, first_module_refusal}
use Rattle.sq_meaning.specs.Schema.{Elements}
use Rattle.sq_meaning.specs.SchemaRefusal.{SchemaRefusal, first_schema_refusal}
use Rattle.sq_meaning.specs.Script.{ScriptRefusal, first_script_refusal}
use Rattle.sq_meaning.specs.Machine.{Program, first_state}
use Rattle.sq_meaning.specs.Report.{Bytes, report}
use Rattle.sq_meaning.specs.Run.{RunItem, item_of_script, program_of}
use Rattle.sq_meaning.specs.declared.refusal.ScriptFault.{ScriptFault}
use Rattle.sq_meaning.specs.declared.refusal.ScriptFault.TheVariants as fault
use Rattle.sq_perform.specs.Read.{ReadText, module_rule, read_text, refusal_at, refusal_of, schema_rule, script_rule}
use Rattle.sq_perform.specs.Refusal.{refused_part, refused_start}
use Rattle.sq_perform.specs.declared.refusal.Refusal.{Refusal}
use Rattle.sq_perform.specs.declared.refusal.RefusalName.{RefusalName}
use Rattle.sq_perform.specs.declared.refusal.RefusalName.TheVariants.{BadArguments, Module, Schema, UnknownProcedure, UnknownTable}
use Rattle.sq_perform.specs.declared.refusal.RunFault.{RunFault}
use Rattle.sq_perform.specs.declared.refusal.RunFault.TheVariants.{ModuleRefused, SchemaRefused, ScriptRefused}

-- ---- what is to be done

-- a table machine, and what a script asks of it
pub record Task : Type 0 where
  pub machine : Program
  pub items : List RunItem

-- what the tree of a script asks of a machine
abbrev pub asked_of : Program → ScriptText → Task
asked_of machine script = record { machine = machine; items = map item_of_script script.items }

-- what trees ask for, whose tables have row numbers up to this one
abbrev pub task_of : List SchemaText → List ModuleText → ScriptText → ℕ → Task
task_of schemas modules script row_numbers = asked_of (program_of schemas modules row_numbers) script

-- the lines of these items, from the machine's first state on
abbrev pub lines : Task → List RunItem → Bytes
lines task items = report task.machine (first_state task.machine) items

abbrev pub whole_report : Task → Bytes
whole_report task = lines task task.items

abbrev pub report_of_first : Task → ℕ → Bytes
report_of_first task count = lines task (take count task.items)

-- ---- one after the other

-- goes on with what was read, and stops at a refusal
abbrev pub and_then : {A B E : Type 0} → Result A E → (A → Result B E) → Result B E
and_then (Ok x) f = f x
and_then (Err e) f = Err e

infixl 10 ◌>>=◌
abbrev pub ◌>>=◌ : {A B E : Type 0} → Result A E → (A → Result B E) → Result B E
r >>= f = and_then r f

abbrev pub accepted_unless : {A : Type 0} → Option Refusal → A → Result A Refusal
accepted_unless None x = Ok x
accepted_unless (Some refusal) x = Err refusal

-- a refusal of this kind of texts
abbrev pub refused_as : {A : Type 0} → (Refusal → RunFault) → Result A Refusal → Result A RunFault
refused_as kind (Ok x) = Ok x
refused_as kind (Err refusal) = Err (kind refusal)

-- ---- the texts of a kind

-- All are read in their order, up to the first that has no tree. The first has this number.
abbrev pub read_texts : {T : Type 0} → Parser T → ℕ → List Bytes → Result (List (ReadText T)) Refusal
read_texts rule number [] = Ok []
read_texts rule number (text ∷ others) = do
  first ← read_text rule number text
  rest ← read_texts rule (number + 1) others
  Ok (first ∷ rest)

abbrev pub trees_of : {T : Type 0} → List (ReadText T) → List T
trees_of texts = map (λ t. t.tree) texts

-- a refusal at the token that is found in the tree of the text of this number
abbrev pub refused_text : {T : Type 0} → ℕ → (T → ℕ) → RefusalName → Option (ReadText T) → Refusal
refused_text number token_in what (Some t) = refusal_of number t.text t.tokens (token_in t.tree) what
refused_text number token_in what None = refusal_at number what lexed.start

-- ---- schemas, modules and the script

-- a schema definition or one of its elements is refused at its first token
abbrev pub refused_schema : List (ReadText SchemaText) → SchemaRefusal → Refusal
refused_schema texts r =
    refused_text r.text (λ tree. refused_part tree r.schema r.element) (Schema (record { fault = r.fault }))
    (slice_get texts r.text)

-- a module, a cursor or a procedure is refused at its first token
abbrev pub refused_module : List (ReadText ModuleText) → ModuleRefusal → Refusal
refused_module texts r =
    refused_text r.text (λ tree. refused_start tree r.item) (Module r.fault) (slice_get texts r.text)

abbrev pub script_fault_name : ScriptFault → RefusalName
script_fault_name fault.UnknownProcedure = UnknownProcedure
script_fault_name fault.UnknownTable = UnknownTable
script_fault_name fault.BadArguments = BadArguments

-- an item of the script is refused at its first token
abbrev pub refused_script : ReadText ScriptText → ScriptRefusal → Refusal
refused_script t r =
    refusal_of 0 t.text t.tokens (script_item_start t.tree r.item) (script_fault_name r.fault)

abbrev pub accepted_schemas : List Bytes → Result (List SchemaText) Refusal
accepted_schemas schemas = do
  texts ← read_texts schema_rule 0 schemas
  accepted_unless (option_map (refused_schema texts) (first_schema_refusal (trees_of texts))) (trees_of texts)

abbrev pub accepted_modules : List Bytes → Result (List ModuleText) Refusal
accepted_modules modules = do
  texts ← read_texts module_rule 0 modules
  accepted_unless (option_map (refused_module texts) (first_module_refusal (trees_of texts))) (trees_of texts)

abbrev pub accepted_script : Elements → List ModuleText → Bytes → Result ScriptText Refusal
accepted_script elements modules script = do
  text ← read_text script_rule 0 script
  accepted_unless (option_map (refused_script text) (first_script_refusal elements modules text.tree))
      text.tree

-- ---- all texts

-- schema texts, module texts, and the greatest number of a row
abbrev pub accepted_program : List Bytes → List Bytes → ℕ → Result Program RunFault
accepted_program schemas modules row_numbers = do
  schema_trees ← refused_as SchemaRefused (accepted_schemas schemas)
  module_trees ← refused_as ModuleRefused (accepted_modules modules)
  Ok (program_of schema_trees module_trees row_numbers)

-- the same and a script
abbrev pub answered : List Bytes → List Bytes → Bytes → ℕ → Result Task RunFault
answered schemas modules script row_numbers = do
  machine ← accepted_program schemas modules row_numbers
  tree ← refused_as ScriptRefused (accepted_script machine.elements machine.modules script)
  Ok (asked_of machine tree)
