-- The judgement of texts (own form): all schema texts are read and then judged, then all modules, then the script; then
-- the script runs. The first finding is the judgement.
use Rattle.std.specs.Prelude.{ℕ, List, map, Option, Some, None, Result, Ok, Err}
use Rattle.sq_tree.specs.declared.«module».ModuleText.{ModuleText}
use Rattle.sq_tree.specs.declared.schema.SchemaText.{SchemaText}
use Rattle.sq_tree.specs.declared.script.ScriptText.{ScriptText}
use Rattle.sq_meaning.specs.ModuleRefusal.{ModuleRefusal, first_module_refusal}
use Rattle.sq_meaning.specs.SchemaRefusal.{SchemaRefusal, first_schema_refusal}
use Rattle.sq_meaning.specs.Script.{ScriptRefusal, first_script_refusal}
use Rattle.sq_meaning.specs.Machine.{Program, first_state}
use Rattle.sq_meaning.specs.Report.{Bytes, report}
use Rattle.sq_meaning.specs.Run.{item_of_script, program_of}

-- an `F` says which text could not be read, and why
pub data Judgement (F : Type 0) : Type 0 where
  schema_unread : F → Judgement F
  schema_refused : SchemaRefusal → Judgement F
  module_unread : F → Judgement F
  module_refused : ModuleRefusal → Judgement F
  script_unread : F → Judgement F
  script_refused : ScriptRefusal → Judgement F
  reported : Bytes → Judgement F

-- ---- the script

abbrev pub script_judged : {F : Type 0} → Program → ScriptText → Option ScriptRefusal → Judgement F
script_judged p script (Some refusal) = Judgement.script_refused refusal
script_judged p script None = Judgement.reported (report p (first_state p) (map item_of_script script.items))

abbrev pub script_judgement : {F : Type 0} → Program → Result ScriptText F → Judgement F
script_judgement p (Err fault) = Judgement.script_unread fault
script_judgement p (Ok script) = script_judged p script (first_script_refusal p.elements p.modules script)

-- ---- before it the modules

abbrev pub modules_judged : {F : Type 0} → Program → Result ScriptText F → Option ModuleRefusal → Judgement F
modules_judged p script (Some refusal) = Judgement.module_refused refusal
modules_judged p script None = script_judgement p script

abbrev pub modules_judgement : {F : Type 0} → List SchemaText → Result (List ModuleText) F
    → Result ScriptText F → ℕ → Judgement F
modules_judgement schemas (Err fault) script row_numbers = Judgement.module_unread fault
modules_judgement schemas (Ok modules) script row_numbers =
    modules_judged (program_of schemas modules row_numbers) script (first_module_refusal modules)

-- ---- before them the schemas

abbrev pub schemas_judged : {F : Type 0} → List SchemaText → Result (List ModuleText) F → Result ScriptText F
    → ℕ → Option SchemaRefusal → Judgement F
schemas_judged schemas modules script row_numbers (Some refusal) = Judgement.schema_refused refusal
schemas_judged schemas modules script row_numbers None = modules_judgement schemas modules script row_numbers

-- schema texts, module texts and a script, as they were read, and the greatest number of a row
abbrev pub judgement : {F : Type 0} → Result (List SchemaText) F → Result (List ModuleText) F
    → Result ScriptText F → ℕ → Judgement F
judgement (Err fault) modules script row_numbers = Judgement.schema_unread fault
judgement (Ok schemas) modules script row_numbers =
    schemas_judged schemas modules script row_numbers (first_schema_refusal schemas)
