-- The answer to a run says how it ended.
use Rattle.std.proofs.Common.{◌≡◌, List, [], Option, Some, Result, Ok, Err, refl, subst, sym}
use Rattle.std.specs.Prelude.{IsErr}
use Rattle.sq_exchange.specs.declared.answer.Answer.{Answer}
use Rattle.sq_exchange.specs.declared.answer.Answer.TheVariants.{Done, NotOpen, AlreadyOpen, Refused, NoMemory, Unknown, BadValue, BadArguments, OtherKind, NullPointer, NoRoom, IsNull, NoRow}
use Rattle.sq_meaning.specs.Report.{Bytes}
use Rattle.sq_run.specs.Answer.{Task}
use Rattle.sq_run.specs.Answers.{Answers}
use Rattle.sq_run.specs.Opens.{IsOfTexts}
use Rattle.sq_run.specs.declared.RunFault.{RunFault}
use Rattle.sq_run.specs.Reported.{reported}
use Rattle.sq_run.proofs.Texts.SteppedRuns.{of_run, of_stop}
use Rattle.sq_page_c.specs.Outcome.{IsOfStop, Says, SaysSteps}

is_err : (task : Result Task RunFault) (fault : RunFault) → task ≡ Err fault → IsErr task
is_err task fault is = subst IsErr (sym is) refl

-- a run that stopped
pub says_stop : (task : Result Task RunFault) (text : Bytes) (fault : RunFault) (answer : Answer) → (IsOfTexts fault → task ≡ Err fault) → IsOfStop fault answer → Says task text answer
says_stop task text fault Refused stops is = is_err task fault (stops is)
says_stop task text fault NoMemory stops is = tt
says_stop task text fault Done stops is = absurd is
says_stop task text fault NotOpen stops is = absurd is
says_stop task text fault AlreadyOpen stops is = absurd is
says_stop task text fault Unknown stops is = absurd is
says_stop task text fault BadValue stops is = absurd is
says_stop task text fault BadArguments stops is = absurd is
says_stop task text fault OtherKind stops is = absurd is
says_stop task text fault NullPointer stops is = absurd is
says_stop task text fault NoRoom stops is = absurd is
says_stop task text fault IsNull stops is = absurd is
says_stop task text fault NoRow stops is = absurd is

-- the same of a page
pub steps_stop : (task : Result Task RunFault) (text : Bytes) (fault : RunFault) (answer : Answer) → (IsOfTexts fault → task ≡ Err fault) → IsOfStop fault answer → SaysSteps task text answer
steps_stop task text fault Refused stops is = is_err task fault (stops is)
steps_stop task text fault NoMemory stops is = tt
steps_stop task text fault Done stops is = absurd is
steps_stop task text fault NotOpen stops is = absurd is
steps_stop task text fault AlreadyOpen stops is = absurd is
steps_stop task text fault Unknown stops is = absurd is
steps_stop task text fault BadValue stops is = absurd is
steps_stop task text fault BadArguments stops is = absurd is
steps_stop task text fault OtherKind stops is = absurd is
steps_stop task text fault NullPointer stops is = absurd is
steps_stop task text fault NoRoom stops is = absurd is
steps_stop task text fault IsNull stops is = absurd is
steps_stop task text fault NoRow stops is = absurd is

-- ---- by what a run answers

pub says_report : (task : Result Task RunFault) (old new : Option Bytes) (text : Bytes) → old ≡ Some [] → new ≡ Some text → Answers task old new (Ok tt) → reported task ≡ Ok text
says_report task old new text start end h =
    of_run task text
    (subst (λ (o : Option Bytes). Answers task o (Some text) (Ok tt)) start
    (subst (λ (n : Option Bytes). Answers task old n (Ok tt)) end h))

pub says_refused : (task : Result Task RunFault) (old new : Option Bytes) (text : Bytes) (fault : RunFault) (answer : Answer) → Answers task old new (Err fault) → IsOfStop fault answer → Says task text answer
says_refused task old new text fault answer h is = says_stop task text fault answer (λ of_texts. of_stop task old new fault of_texts h) is
