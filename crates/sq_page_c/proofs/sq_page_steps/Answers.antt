-- Left open for sq_page_steps: its result; answered by Showing.
use Rattle.sq_run.specs.Answer.{answered}
use Rattle.sq_page_c.specs.Outcome.{IsSteps}
use Rattle.sq_page_c.specs.Texts.{pieces}
use Rattle.sq_page_c.proofs.Showing.{shown}
use Rattle.sq_page_c.proofs.sq_page_steps.Goals as goal

pub returns : goal.returns
returns c =
    let schemas = pieces c.args.schema_lengths.now c.args.schemas.now in
    let modules = pieces c.args.module_lengths.now c.args.modules.now in
    let task = answered schemas modules c.args.script.now c.args.row_numbers in
    shown (IsSteps task) c.outcome_of_steps-outcome.result c.args.room.now c.put.new.room c.put.new.count c.put.result c.code.result
    (c.outcome_of_steps-outcome.ensures schemas modules c.run_texts-given.ensures)
    c.put.ensures.answer c.put.ensures.room c.put.ensures.count c.code.ensures
