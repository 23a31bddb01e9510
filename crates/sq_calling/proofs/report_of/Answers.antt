-- Left open for report_of: the clauses report and fault; answered without a law.
-- The report is what the output has taken: nothing before the run, and all of the writer after it.
use Rattle.std.proofs.Common.{Some, [], Ok, Err, ap, subst, sym, ◌∙◌}
use Rattle.sq_run.specs.Texts.{texts}
use Rattle.sq_run.specs.Answer.{answered}
use Rattle.sq_run.specs.Answers.{Answers}
use Rattle.sq_calling.proofs.report_of.Goals as goal

pub returns-in-Ok-clause-report : goal.returns-in-Ok-clause-report
returns-in-Ok-clause-report c =
    let wanted = answered (texts c.args.schemas.now) (texts c.args.modules.now) c.args.script.now 1000000 in
    let from_nothing : Answers wanted (Some []) (Some c.run.new.out.writer.items) (Ok tt) =
    subst (λ bytes. Answers wanted (Some bytes) (Some c.run.new.out.writer.items) (Ok tt)) (ap (λ out. out.writer.items) c.new-out.ensures ∙ c.new.ensures.items) c.in-Ok.ensures.answers in
    subst (λ writer. Answers wanted (Some []) (Some writer.items) (Ok tt)) (sym c.into_writer.ensures) from_nothing

pub returns-in-Err-clause-fault : goal.returns-in-Err-clause-fault
returns-in-Err-clause-fault c =
    let wanted = answered (texts c.args.schemas.now) (texts c.args.modules.now) c.args.script.now 1000000 in (
      Some c.run.new.out.writer.items,
      subst (λ bytes. Answers wanted (Some bytes) (Some c.run.new.out.writer.items) (Err c.in-Err.fault)) (ap (λ out. out.writer.items) c.new-out.ensures ∙ c.new.ensures.items) c.in-Err.ensures.answers,
    )
