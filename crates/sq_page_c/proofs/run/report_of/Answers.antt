-- Left open for report_of: its result; answered by Says.
use Rattle.std.proofs.Common.{rules}
use Rattle.sq_run.specs.Answer.{answered}
use Rattle.sq_run.specs.Texts.{texts}
use Rattle.sq_page_c.proofs.Says.{says_refused, says_report}
use Rattle.sq_page_c.proofs.run.report_of.Goals as goal

pub returns-in-Ok : goal.returns-in-Ok
returns-in-Ok c =
    says_report (answered (texts c.args.schemas.now) (texts c.args.modules.now) c.args.script.now c.args.limits.row_numbers) _ _ c.into_writer-report.result.items
    (search rules) (search rules) (rw c.in-Ok.is at c.run-ended.ensures.answers)

pub returns-in-Err : goal.returns-in-Err
returns-in-Err c =
    says_refused (answered (texts c.args.schemas.now) (texts c.args.modules.now) c.args.script.now c.args.limits.row_numbers) _ _ c.outcome_of_stop.result.text.items c.in-Err.fault c.outcome_of_stop.result.answer
    (rw c.in-Err.is at c.run-ended.ensures.answers) c.outcome_of_stop.ensures
