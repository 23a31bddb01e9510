-- Left open for sq_page_run: its result; answered by Showing.
use Rattle.sq_run.specs.Answer.{answered}
use Rattle.sq_page_c.specs.Outcome.{IsOutcome}
use Rattle.sq_page_c.specs.Texts.{pieces}
use Rattle.sq_page_c.proofs.Showing.{shown}
use Rattle.sq_page_c.proofs.sq_page_run.Goals as goal

pub returns : goal.returns
returns c =
    let schemas = pieces c.args.schema_lengths.now c.args.schemas.now in
    let modules = pieces c.args.module_lengths.now c.args.modules.now in
    let task = answered schemas modules c.args.script.now c.args.row_numbers in
    shown (IsOutcome task) c.outcome_of_run-outcome.result c.args.room.now c.put.new.room c.put.new.count c.put.result c.code.result
    (c.outcome_of_run-outcome.ensures schemas modules c.run_texts-given.ensures)
    c.put.ensures.answer c.put.ensures.room c.put.ensures.count c.code.ensures
