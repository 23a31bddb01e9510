-- Left open for page_of: its result; answered by Says.
use Rattle.sq_run.specs.Answer.{answered}
use Rattle.sq_run.specs.Texts.{texts}
use Rattle.sq_run.proofs.Texts.SteppedRuns.{opening_stopped, script_stopped, stepped}
use Rattle.sq_show.proofs.Paging.{page_report}
use Rattle.sq_page_c.proofs.Says.{steps_stop}
use Rattle.sq_page_c.proofs.steps.page_of.Goals as goal

pub returns-in-Err : goal.returns-in-Err
returns-in-Err c =
    let schemas = texts c.args.schemas.now in let modules = texts c.args.modules.now in let script = c.args.script.now in let rows = c.args.limits.row_numbers in
    steps_stop (answered schemas modules script rows) c.outcome_of_stop.result.text.items c.in-Err.fault c.outcome_of_stop.result.answer
    (λ of_texts. opening_stopped rows schemas modules script c.in-Err.fault of_texts c.in-Err.ensures.refused) c.outcome_of_stop.ensures

pub returns-in-Ok-trace_page : goal.returns-in-Ok-trace_page
returns-in-Ok-trace_page c =
    let schemas = texts c.args.schemas.now in let modules = texts c.args.modules.now in let script = c.args.script.now in let rows = c.args.limits.row_numbers in
    let shown = page_report c.in-Ok-read_script.actions.items c.in-Ok.session c.trace_page.new.session c.in-Ok-trace_page.text.items (rw c.as_slice.ensures.value at c.in-Ok-trace_page.ensures) in
    record {
      report = shown.0;
      is = stepped rows schemas modules script c.in-Ok.session c.trace_page.new.session c.in-Ok-read_script.actions.items shown.0 c.in-Ok.ensures.opened c.in-Ok-read_script.ensures.asked shown.2;
      steps = shown.1;
    }

pub returns : goal.returns
returns c =
    let schemas = texts c.args.schemas.now in let modules = texts c.args.modules.now in let script = c.args.script.now in let rows = c.args.limits.row_numbers in
    steps_stop (answered schemas modules script rows) c.outcome_of_stop-in-Err-read_script.result.text.items c.in-Err-read_script.fault c.outcome_of_stop-in-Err-read_script.result.answer
    (λ of_texts. script_stopped rows schemas modules script c.in-Ok.session c.in-Err-read_script.fault of_texts c.in-Ok.ensures.opened c.in-Err-read_script.ensures.refused) c.outcome_of_stop-in-Err-read_script.ensures
