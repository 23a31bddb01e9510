-- The outcome of a run.
use Rattle.std.specs.Prelude.{◌≡◌, IsErr, Ok, Result, ⊤}
use Rattle.sq_exchange.specs.declared.answer.Answer.{Answer}
use Rattle.sq_exchange.specs.declared.answer.Answer.TheVariants.{Done, Refused}
use Rattle.sq_exchange.specs.declared.answer.Answer.TheVariants as answer
use Rattle.sq_meaning.specs.Report.{Bytes}
use Rattle.sq_run.specs.Answer.{Task}
use Rattle.sq_run.specs.Opens.{IsOfTexts}
use Rattle.sq_run.specs.Reported.{reported}
use Rattle.sq_run.specs.declared.RunFault.{RunFault}
use Rattle.sq_show.specs.Page.{StepsThrough}
use Rattle.sq_page_c.specs.declared.outcome.Outcome.{Outcome}

-- how a run that stops for this fault is answered: as refused only if a text is
abbrev pub IsOfStop : RunFault → Answer → Type 0
IsOfStop fault Refused = IsOfTexts fault
IsOfStop fault answer.NoMemory = ⊤
IsOfStop fault _ = ⊥

-- An answer says of the text that comes with it that this is the report, or that a text is refused. If memory
-- ran out, or the number of rows is out of bounds, it says no more.
abbrev pub Says : Result Task RunFault → Bytes → Answer → Type 0
Says task text Done = reported task ≡ Ok text
Says task text Refused = IsErr task
Says task text _ = ⊤

-- a page that steps through a run of the texts, with their report
pub record ShowsSteps (task : Result Task RunFault) (page : Bytes) : Type 0 where
  pub report : Bytes
  pub is : reported task ≡ Ok report
  pub steps : StepsThrough page report

-- the same, if the text is a page
abbrev pub SaysSteps : Result Task RunFault → Bytes → Answer → Type 0
SaysSteps task text Done = ShowsSteps task text
SaysSteps task text Refused = IsErr task
SaysSteps task text _ = ⊤

abbrev pub IsOutcome : Result Task RunFault → Outcome → Type 0
IsOutcome task o = Says task o.text.items o.answer

abbrev pub IsSteps : Result Task RunFault → Outcome → Type 0
IsSteps task o = SaysSteps task o.text.items o.answer
