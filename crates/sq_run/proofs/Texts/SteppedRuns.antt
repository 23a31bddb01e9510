-- Who opens a session of texts and performs what their script asks for, item by item, comes to what a run of the texts comes to.
use Rattle.std.proofs.Common.{◌≡◌, ℕ, List, [], Option, None, Some, Result, Ok, Err, ap, ◌∙◌, refl, sym}
use Rattle.sq_meaning.specs.Report.{Bytes}
use Rattle.sq_session.specs.Session.{Session}
use Rattle.sq_perform.specs.Asked.{AreAsked}
use Rattle.sq_perform.specs.Fault.{IsOpeningFault, IsScriptFault}
use Rattle.sq_perform.specs.Opened.{Opened}
use Rattle.sq_perform.specs.Steps.{Reported, Steps}
use Rattle.sq_perform.specs.declared.action.Action.{Action}
use Rattle.sq_perform.specs.declared.refusal.RunFault.{RunFault}
use Rattle.sq_perform.specs.declared.refusal.RunFault.TheVariants.{SchemaRefused, ModuleRefused, ScriptRefused, Write, NoMemory}
use Rattle.sq_perform.proofs.Wrote.{opening_refused, opening_wrote, performed_all, refused_some, refused_stop, wrote_all, wrote_some}
use Rattle.sq_run.specs.Answer.{Task, answered}
use Rattle.sq_run.specs.Answers.{Answers}
use Rattle.sq_run.specs.Opens.{IsOfTexts}
use Rattle.sq_run.specs.Reported.{reported}
use Rattle.sq_run.proofs.Texts.Accepts.{answers}

pub of_run : (answer : Result Task RunFault) (report : Bytes) → Answers answer (Some []) (Some report) (Ok tt) → reported answer ≡ Ok report
unfolding Answers
of_run answer report h = ap reported h.1 ∙ ap Ok (sym h.2)

pub of_stop : (answer : Result Task RunFault) (old new : Option Bytes) (fault : RunFault) → IsOfTexts fault → Answers answer old new (Err fault) → answer ≡ Err fault
unfolding Answers
of_stop answer old new (SchemaRefused refusal) of_texts h = h.0
of_stop answer old new (ModuleRefused refusal) of_texts h = h.0
of_stop answer old new (ScriptRefused refusal) of_texts h = h.0
of_stop answer old new (Write bytes) of_texts h = absurd of_texts
of_stop answer old new (NoMemory items) of_texts h = absurd of_texts

module _ (row_numbers : ℕ) (schemas modules : List Bytes) (script : Bytes) where
  -- the report of the actions is that of the run
  pub stepped : (start last : Session) (actions : List Action) (report : Bytes) → Opened row_numbers schemas modules start → AreAsked start script actions → Steps actions start report last
      → reported (answered schemas modules script row_numbers) ≡ Ok report
  stepped start last actions report opened asked steps =
      let made : Reported actions start (Some []) (Some report) = record { report = report; last = last; steps = steps; taken = refl } in
      let performed = performed_all script start actions (Some []) (Some report) (Ok tt) asked made in
      let wrote = wrote_all row_numbers schemas modules script start (Some []) (Some report) (Ok tt) opened performed in
      of_run (answered schemas modules script row_numbers) report
      (answers row_numbers schemas modules script (Some []) (Some report) (Ok tt) wrote tt tt)

  -- a refusal of a schema or a module is that of the run
  pub opening_stopped : (fault : RunFault) → IsOfTexts fault → IsOpeningFault schemas modules fault → answered schemas modules script row_numbers ≡ Err fault
  opening_stopped fault of_texts is =
      of_stop (answered schemas modules script row_numbers) None None fault of_texts
      (answers row_numbers schemas modules script None None (Err fault) tt
      (opening_wrote row_numbers schemas modules script None fault is) (opening_refused row_numbers schemas modules script fault is))

  -- so is a refusal of the script
  pub script_stopped : (start : Session) (fault : RunFault) → IsOfTexts fault → Opened row_numbers schemas modules start → IsScriptFault start script fault
      → answered schemas modules script row_numbers ≡ Err fault
  script_stopped start fault of_texts opened is =
      let stop = refused_stop script start None fault is in
      of_stop (answered schemas modules script row_numbers) None None fault of_texts
      (answers row_numbers schemas modules script None None (Err fault) tt
      (wrote_some row_numbers schemas modules script start None None (Err fault) opened stop)
      (refused_some row_numbers schemas modules script start None None (Err fault) opened stop))
