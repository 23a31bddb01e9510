-- The machine of accepted texts is lawful, and their answer tells of trees what it should.
use Rattle.std.proofs.Common.{◌≡◌, ℕ, List, None, Result, Ok, Err, refl, sym, subst}
use Rattle.std.specs.Prelude.{IfOk}
use Rattle.sq_tree.specs.declared.«module».ModuleText.{ModuleText}
use Rattle.sq_tree.specs.declared.schema.SchemaText.{SchemaText}
use Rattle.sq_meaning.specs.ModuleRefusal.{first_module_refusal}
use Rattle.sq_meaning.specs.SchemaRefusal.{first_schema_refusal}
use Rattle.sq_meaning.specs.Machine.{Program}
use Rattle.sq_meaning.specs.Report.{Bytes}
use Rattle.sq_meaning.specs.Run.{program_of}
use Rattle.sq_perform.specs.declared.refusal.RunFault.{RunFault}
use Rattle.sq_run.specs.Answer.{Task, answered}
use Rattle.sq_run.specs.Kept.{ConstraintsAreKept, FailuresChangeNothing}
use Rattle.sq_run.specs.Lawful.{Lawful}
use Rattle.sq_run.specs.Refused.{RefusalsTell}
use Rattle.sq_run.specs.Trees.{TellsOfTrees}
use Rattle.sq_run.specs.Unexpected.{UnexpectedIsFinal}
use Rattle.sq_run.proofs.Texts.AcceptedTexts.{accepted_are, accepted_spell_trees, texts_have_one_tree}
use Rattle.sq_run.proofs.Laws.AskedLaws.{only_listed_rules_break}
use Rattle.sq_run.proofs.Laws.CallLaws.{failed_changes_nothing}
use Rattle.sq_run.proofs.Laws.CalledAs.{faults_change_nothing}
use Rattle.sq_run.proofs.Laws.CommitLaws.{commit_alone_commits}
use Rattle.sq_run.proofs.Laws.ConfinedCursorLaws.{cursors_tell_what_may_be_read}
use Rattle.sq_run.proofs.Laws.ConfinedLaws.{select_tells_what_may_be_read}
use Rattle.sq_run.proofs.Laws.DefaultLaws.{defaults_are_not_reached}
use Rattle.sq_run.proofs.Laws.IntegrityLaws.{only_allowed_changes}
use Rattle.sq_run.proofs.Laws.NameLaws.{constraints_hold_in_runs}
use Rattle.sq_run.proofs.Texts.RefusedLaws.{refusals_tell}
use Rattle.sq_run.proofs.Rows.RowsRead.{readings_are_rows}
use Rattle.sq_run.proofs.Texts.SpellingOnly.{spelled_is_spelling}
use Rattle.sq_run.proofs.Laws.ShownRowLaws.{fetch_shows_rows_now}
use Rattle.sq_run.proofs.Tokens.UnexpectedTokens.{unexpected_tokens}

failures : (p : Program) → FailuresChangeNothing p
unfolding FailuresChangeNothing
failures p = λ s c failed. failed_changes_nothing p s c failed

module _ (schemas : List SchemaText) (modules : List ModuleText) (row_numbers : ℕ) (accepted : first_schema_refusal schemas ≡ None) where
  abbrev p : Program
  p = program_of schemas modules row_numbers

  constraints : ConstraintsAreKept p
  unfolding ConstraintsAreKept
  constraints = λ items. constraints_hold_in_runs schemas modules row_numbers items accepted

  pub lawful : first_module_refusal modules ≡ None → Lawful p
  lawful admitted = record {
    constraints = constraints;
    failures = failures p;
    faults = faults_change_nothing p;
    committed = commit_alone_commits p;
    changes = only_allowed_changes p;
    fetched = fetch_shows_rows_now p;
    selected = select_tells_what_may_be_read p;
    rules = only_listed_rules_break;
    cursors = cursors_tell_what_may_be_read schemas modules row_numbers accepted;
    defaults = defaults_are_not_reached schemas modules row_numbers accepted admitted;
  }

-- ---- of the texts of a run

module _ (row_numbers : ℕ) (schemas modules : List Bytes) (script : Bytes) where
  abbrev IsLawful : Task → Type 0
  IsLawful task = Lawful task.machine

  task_lawful : (task : Task) → answered schemas modules script row_numbers ≡ Ok task → IsLawful task
  task_lawful task e =
      let a = accepted_are row_numbers schemas modules script task e in
      subst IsLawful (sym a.task_is) (lawful a.schema_trees a.module_trees row_numbers a.schemas_accepted a.modules_accepted)

  pub accepted_lawful : IfOk (answered schemas modules script row_numbers) IsLawful
  accepted_lawful = by_answer (answered schemas modules script row_numbers) refl
    where
      by_answer : (r : Result Task RunFault) → answered schemas modules script row_numbers ≡ r → IfOk r IsLawful
      by_answer (Ok task) e = task_lawful task e
      by_answer (Err fault) e = tt

  unexpected_is_final : UnexpectedIsFinal row_numbers schemas modules script
  unfolding UnexpectedIsFinal RefusalsTell
  unexpected_is_final = λ fault e. unexpected_tokens schemas modules script fault (refusals_tell row_numbers schemas modules script fault e)

  pub tells_of_trees : TellsOfTrees row_numbers schemas modules script
  tells_of_trees = record {
    accepted = accepted_spell_trees row_numbers schemas modules script;
    one_tree = texts_have_one_tree;
    refused = refusals_tell row_numbers schemas modules script;
    unexpected = unexpected_is_final;
    rows = readings_are_rows;
    spelling = spelled_is_spelling;
  }
