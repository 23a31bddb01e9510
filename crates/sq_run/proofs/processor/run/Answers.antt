-- Left open for run: the clauses answers, trees, laws and faults; answered by Accepts, FaultLaws and others.
use Rattle.sq_perform.specs.Texts.{texts}
use Rattle.sq_run.proofs.Texts.Accepts.{answers}
use Rattle.sq_run.proofs.Texts.FaultLaws.{faults_answer}
use Rattle.sq_run.proofs.Texts.LawfulTexts.{accepted_lawful, tells_of_trees}
use Rattle.sq_run.proofs.processor.run.Goals as goal

pub returns-clause-answers : goal.returns-clause-answers
returns-clause-answers g c =
    answers c.args.limits.row_numbers (texts c.args.schemas.now) (texts c.args.modules.now) c.args.script.now (g.W.Out.taken c.args.out.now) (g.W.Out.taken c.run.new.out) c.run.result
    c.run.ensures.report c.run.ensures.stopped c.run.ensures.refused

pub returns-clause-trees : goal.returns-clause-trees
returns-clause-trees g c = tells_of_trees c.args.limits.row_numbers (texts c.args.schemas.now) (texts c.args.modules.now) c.args.script.now

pub returns-clause-laws : goal.returns-clause-laws
returns-clause-laws g c = accepted_lawful c.args.limits.row_numbers (texts c.args.schemas.now) (texts c.args.modules.now) c.args.script.now

pub returns-clause-faults : goal.returns-clause-faults
returns-clause-faults g c =
    faults_answer c.args.limits.row_numbers (texts c.args.schemas.now) (texts c.args.modules.now) c.args.script.now (g.W.Out.taken c.args.out.now) (g.W.Out.taken c.run.new.out) c.run.result
    c.run.ensures.report
