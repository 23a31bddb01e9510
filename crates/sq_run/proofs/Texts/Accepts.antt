-- A run over a session is one that the definitions describe: what is written is the report of what the texts come to, or the
-- run stops for their first refusal.
use Rattle.std.proofs.Common.{◌≡◌, ◌<◌, ℕ, zero, suc, List, length, Option, Result, Ok, Err, ap, sym, subst, ◌∙◌}
use Rattle.std.proofs.lemmas.List.{length-map}
use Rattle.std.specs.Prelude.{IfErr, OnOk}
use Rattle.sq_meaning.specs.Report.{Bytes}
use Rattle.sq_run.proofs.Texts.Answered.{modules_answered, schemas_answered, script_answered, asked_by, task_answered}
use Rattle.sq_run.proofs.Texts.Headline.{run_reports, run_stops_after, run_stops_inside}
use Rattle.sq_perform.specs.Action.{item_of}
use Rattle.sq_run.specs.Answer.{answered}
use Rattle.sq_perform.specs.Refused as session
use Rattle.sq_perform.specs.Run.{Run}
use Rattle.sq_perform.specs.Stop as session_stop
use Rattle.sq_perform.specs.declared.refusal.RunFault.{RunFault}
use Rattle.sq_perform.specs.declared.refusal.RunFault.TheVariants.{SchemaRefused, ModuleRefused, ScriptRefused, Write, NoMemory}
use Rattle.sq_run.specs.Answers.{Answers}

module _ (row_numbers : ℕ) (schemas modules : List Bytes) (script : Bytes) where
  as_many : (r : Run row_numbers schemas modules script) → length r.actions ≡ length (asked_by row_numbers schemas modules script r).items
  as_many r = sym (length-map r.actions (item_of r.start.procedures r.start.tables)) ∙ ap (λ l. length l) r.are_items

  module _ (old new : Option Bytes) where
    done : session_stop.WroteAll row_numbers schemas modules script old new → Answers (answered schemas modules script row_numbers) old new (Ok tt)
    unfolding Answers session_stop.WroteAll
    done h = (asked_by row_numbers schemas modules script h.0, task_answered row_numbers schemas modules script h.0, run_reports row_numbers schemas modules script h.0 old new h.1)

    stopped : (fault : RunFault) → session_stop.Wrote row_numbers schemas modules script old new fault → session.RefusedText row_numbers schemas modules script fault
        → Answers (answered schemas modules script row_numbers) old new (Err fault)
    unfolding Answers session_stop.Wrote
    stopped (SchemaRefused refusal) h is = (schemas_answered row_numbers schemas modules script refusal is, h)
    stopped (ModuleRefused refusal) h is = (modules_answered row_numbers schemas modules script refusal is, h)
    stopped (ScriptRefused refusal) h is = (script_answered row_numbers schemas modules script refusal is, h)
    stopped (Write bytes) h is =
        let inside = run_stops_inside row_numbers schemas modules script h.0 old new bytes h.1 in
        (asked_by row_numbers schemas modules script h.0, task_answered row_numbers schemas modules script h.0, inside.0, inside.1)
    stopped (NoMemory zero) h is = h
    stopped (NoMemory (suc count)) h is = (
      asked_by row_numbers schemas modules script h.0,
      task_answered row_numbers schemas modules script h.0,
      subst (λ n. suc count < n) (as_many h.0) h.1,
      run_stops_after row_numbers schemas modules script h.0 old new (suc count) h.2,
    )

    pub answers : (result : Result (Unit {0}) RunFault) → OnOk result (session_stop.WroteAll row_numbers schemas modules script old new)
        → IfErr result (session_stop.Wrote row_numbers schemas modules script old new) → IfErr result (session.RefusedText row_numbers schemas modules script)
        → Answers (answered schemas modules script row_numbers) old new result
    answers (Ok tt) report wrote is = done report
    answers (Err fault) report wrote is = stopped fault wrote is
