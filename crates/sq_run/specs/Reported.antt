-- What is printed of a run, or why it is refused.
use Rattle.std.specs.Prelude.{Result, Ok, Err}
use Rattle.sq_meaning.specs.Report.{Bytes}
use Rattle.sq_perform.specs.declared.refusal.RunFault.{RunFault}
use Rattle.sq_run.specs.Answer.{Task, whole_report}

abbrev pub reported : Result Task RunFault → Result Bytes RunFault
reported (Ok task) = Ok (whole_report task)
reported (Err refusal) = Err refusal
