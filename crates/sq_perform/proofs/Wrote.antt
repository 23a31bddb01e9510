-- What a session wrote of a script is what a run of the texts wrote.
use Rattle.std.proofs.Common.{◌≡◌, ℕ, zero, suc, List, Option, Result, Ok, Err, refl, false}
use Rattle.std.specs.Prelude.{OnOk, IfErr}
use Rattle.sq_meaning.specs.Report.{Bytes}
use Rattle.sq_session.specs.Session.{Session}
use Rattle.sq_perform.specs.Asked.{AreAsked}
use Rattle.sq_perform.specs.Fault.{IsOpeningFault, IsScriptFault}
use Rattle.sq_perform.specs.Performed.{IsScriptStop, Performed}
use Rattle.sq_perform.specs.Refused.{RefusedText}
use Rattle.sq_perform.specs.Opened.{Opened}
use Rattle.sq_perform.specs.Run.{Run}
use Rattle.sq_perform.specs.Steps.{Reported}
use Rattle.sq_perform.specs.Stop.{StoppedAt, Wrote, WroteAll, is_write}
use Rattle.sq_perform.specs.declared.action.Action.{Action}
use Rattle.sq_perform.specs.declared.refusal.RunFault.{RunFault}
use Rattle.sq_perform.specs.declared.refusal.RunFault.TheVariants.{SchemaRefused, ModuleRefused, ScriptRefused, Write, NoMemory}

-- ---- a script, as its items are performed

pub performed_all : (script : Bytes) (start : Session) (actions : List Action) (old new : Option Bytes) (answer : Result (Unit {0}) RunFault)
    → AreAsked start script actions → OnOk answer (Reported actions start old new) → OnOk answer (Performed script start old new)
performed_all script start actions old new (Ok u) asked done = record { actions = actions; asked = asked; reported = done }
performed_all script start actions old new (Err e) asked done = done

stop_of : (script : Bytes) (start : Session) (actions : List Action) (old new : Option Bytes) (fault : RunFault)
    → AreAsked start script actions → StoppedAt actions start old new fault → IsScriptStop script start old new fault
stop_of script start actions old new (SchemaRefused refusal) asked stop = absurd stop
stop_of script start actions old new (ModuleRefused refusal) asked stop = absurd stop
stop_of script start actions old new (ScriptRefused refusal) asked stop = absurd stop
stop_of script start actions old new (Write bytes) asked stop = record { actions = actions; asked = asked; inside = stop }
stop_of script start actions old new (NoMemory zero) asked stop = stop
stop_of script start actions old new (NoMemory (suc items)) asked stop = record { actions = actions; asked = asked; fewer = stop.0; reported = stop.1 }

pub performed_some : (script : Bytes) (start : Session) (actions : List Action) (old new : Option Bytes) (answer : Result (Unit {0}) RunFault)
    → AreAsked start script actions → IfErr answer (StoppedAt actions start old new) → IfErr answer (IsScriptStop script start old new)
performed_some script start actions old new (Ok u) asked stop = stop
performed_some script start actions old new (Err fault) asked stop = stop_of script start actions old new fault asked stop

-- Nothing of a refused script is done.
pub refused_stop : (script : Bytes) (start : Session) (taken : Option Bytes) (fault : RunFault) → IsScriptFault start script fault → IsScriptStop script start taken taken fault
refused_stop script start taken (SchemaRefused refusal) is = is
refused_stop script start taken (ModuleRefused refusal) is = is
refused_stop script start taken (ScriptRefused refusal) is = (refl, is.0, is.1)
refused_stop script start taken (Write bytes) is = absurd is
refused_stop script start taken (NoMemory zero) is = refl
refused_stop script start taken (NoMemory (suc items)) is = cc

pub script_writes_none : (start : Session) (script : Bytes) (fault : RunFault) → IsScriptFault start script fault → is_write fault ≡ false
script_writes_none start script (SchemaRefused refusal) is = refl
script_writes_none start script (ModuleRefused refusal) is = refl
script_writes_none start script (ScriptRefused refusal) is = refl
script_writes_none start script (Write bytes) is = absurd is
script_writes_none start script (NoMemory items) is = refl

-- ---- a session of schemas and modules, as its script is performed

abbrev pub run_of : {row_numbers : ℕ} {schemas modules : List Bytes} {script : Bytes} (start : Session) (actions : List Action) → Opened row_numbers schemas modules start
    → AreAsked start script actions → Run row_numbers schemas modules script
run_of start actions opened asked = record {
  schema_trees = opened.schema_trees;
  module_trees = opened.module_trees;
  script_tree = asked.tree;
  schemas_spell = opened.schemas_spell;
  modules_spell = opened.modules_spell;
  script_spells = asked.spells;
  start = start;
  is_opened = opened.is_opened;
  taken = asked.taken;
  actions = actions;
  are_items = asked.are_items;
}

pub wrote_all : (row_numbers : ℕ) (schemas modules : List Bytes) (script : Bytes) (start : Session) (old new : Option Bytes) (answer : Result (Unit {0}) RunFault)
    → Opened row_numbers schemas modules start → OnOk answer (Performed script start old new)
    → OnOk answer (WroteAll row_numbers schemas modules script old new)
unfolding WroteAll
wrote_all row_numbers schemas modules script start old new (Ok u) opened done = (run_of start done.actions opened done.asked, done.reported)
wrote_all row_numbers schemas modules script start old new (Err e) opened done = done

wrote_by : (row_numbers : ℕ) (schemas modules : List Bytes) (script : Bytes) (start : Session) (old new : Option Bytes) (fault : RunFault)
    → Opened row_numbers schemas modules start → IsScriptStop script start old new fault → Wrote row_numbers schemas modules script old new fault
unfolding Wrote
wrote_by row_numbers schemas modules script start old new (SchemaRefused refusal) opened stop = absurd stop
wrote_by row_numbers schemas modules script start old new (ModuleRefused refusal) opened stop = absurd stop
wrote_by row_numbers schemas modules script start old new (ScriptRefused refusal) opened stop = stop.0
wrote_by row_numbers schemas modules script start old new (Write bytes) opened stop = (run_of start stop.actions opened stop.asked, stop.inside)
wrote_by row_numbers schemas modules script start old new (NoMemory zero) opened stop = stop
wrote_by row_numbers schemas modules script start old new (NoMemory (suc items)) opened stop = (run_of start stop.actions opened stop.asked, stop.fewer, stop.reported)

pub wrote_some : (row_numbers : ℕ) (schemas modules : List Bytes) (script : Bytes) (start : Session) (old new : Option Bytes) (answer : Result (Unit {0}) RunFault)
    → Opened row_numbers schemas modules start → IfErr answer (IsScriptStop script start old new)
    → IfErr answer (Wrote row_numbers schemas modules script old new)
wrote_some row_numbers schemas modules script start old new (Ok u) opened stop = stop
wrote_some row_numbers schemas modules script start old new (Err fault) opened stop = wrote_by row_numbers schemas modules script start old new fault opened stop

refused_by : (row_numbers : ℕ) (schemas modules : List Bytes) (script : Bytes) (start : Session) (old new : Option Bytes) (fault : RunFault)
    → Opened row_numbers schemas modules start → IsScriptStop script start old new fault → RefusedText row_numbers schemas modules script fault
unfolding RefusedText
refused_by row_numbers schemas modules script start old new (SchemaRefused refusal) opened stop = absurd stop
refused_by row_numbers schemas modules script start old new (ModuleRefused refusal) opened stop = absurd stop
refused_by row_numbers schemas modules script start old new (ScriptRefused refusal) opened stop = record { start = start; opened = opened; text = stop.1; refused = stop.2 }
refused_by row_numbers schemas modules script start old new (Write bytes) opened stop = tt
refused_by row_numbers schemas modules script start old new (NoMemory items) opened stop = tt

pub refused_some : (row_numbers : ℕ) (schemas modules : List Bytes) (script : Bytes) (start : Session) (old new : Option Bytes) (answer : Result (Unit {0}) RunFault)
    → Opened row_numbers schemas modules start → IfErr answer (IsScriptStop script start old new) → IfErr answer (RefusedText row_numbers schemas modules script)
refused_some row_numbers schemas modules script start old new (Ok u) opened stop = stop
refused_some row_numbers schemas modules script start old new (Err fault) opened stop = refused_by row_numbers schemas modules script start old new fault opened stop

-- ---- texts of which no session is made

pub opening_wrote : (row_numbers : ℕ) (schemas modules : List Bytes) (script : Bytes) (taken : Option Bytes) (fault : RunFault) → IsOpeningFault schemas modules fault
    → Wrote row_numbers schemas modules script taken taken fault
unfolding Wrote
opening_wrote row_numbers schemas modules script taken (SchemaRefused refusal) is = refl
opening_wrote row_numbers schemas modules script taken (ModuleRefused refusal) is = refl
opening_wrote row_numbers schemas modules script taken (ScriptRefused refusal) is = absurd is
opening_wrote row_numbers schemas modules script taken (Write bytes) is = absurd is
opening_wrote row_numbers schemas modules script taken (NoMemory zero) is = refl
opening_wrote row_numbers schemas modules script taken (NoMemory (suc items)) is = cc

pub opening_refused : (row_numbers : ℕ) (schemas modules : List Bytes) (script : Bytes) (fault : RunFault) → IsOpeningFault schemas modules fault → RefusedText row_numbers schemas modules script fault
unfolding RefusedText
opening_refused row_numbers schemas modules script (SchemaRefused refusal) is = is
opening_refused row_numbers schemas modules script (ModuleRefused refusal) is = is
opening_refused row_numbers schemas modules script (ScriptRefused refusal) is = absurd is
opening_refused row_numbers schemas modules script (Write bytes) is = tt
opening_refused row_numbers schemas modules script (NoMemory items) is = tt

pub opening_writes_none : (schemas modules : List Bytes) (fault : RunFault) → IsOpeningFault schemas modules fault → is_write fault ≡ false
opening_writes_none schemas modules (SchemaRefused refusal) is = refl
opening_writes_none schemas modules (ModuleRefused refusal) is = refl
opening_writes_none schemas modules (ScriptRefused refusal) is = refl
opening_writes_none schemas modules (Write bytes) is = absurd is
opening_writes_none schemas modules (NoMemory items) is = refl
