-- Left open: the call of start, the clauses opened and 2 more, and the invariant of the result; answered by BesideLaws and Opened.
use Rattle.sq_perform.specs.Texts.{texts}
use Rattle.sq_run.proofs.Steps.BesideLaws.{accepted_by, all_hold, beside_first}
use Rattle.sq_run.proofs.Texts.Opened.{opens, opens_lawful, refuses}
use Rattle.sq_run.proofs.machine.Processor.open.Goals as goal

pub start-counterpart-requires : goal.start-counterpart-requires
start-counterpart-requires g c = record {
  accepted = accepted_by c.args.limits.row_numbers (texts c.args.schemas.now) (texts c.args.modules.now) c.in-Ok.session c.in-Ok.ensures.opened;
}

pub invariant_of-result : goal.invariant_of-result
invariant_of-result g c =
    beside_first c.args.limits.row_numbers (texts c.args.schemas.now) (texts c.args.modules.now) c.in-Ok.session c.in-Ok.ensures.opened
    c.start-counterpart.result.machine c.start-counterpart.ensures

pub returns-in-Ok-clause-opened : goal.returns-in-Ok-clause-opened
returns-in-Ok-clause-opened g c =
    opens c.args.limits.row_numbers (texts c.args.schemas.now) (texts c.args.modules.now) c.start-counterpart.result.machine c.start-counterpart.ensures

pub returns-in-Ok-clause-constraints : goal.returns-in-Ok-clause-constraints
returns-in-Ok-clause-constraints g c =
    all_hold c.in-Ok.session c.start-counterpart.result.machine
    (beside_first c.args.limits.row_numbers (texts c.args.schemas.now) (texts c.args.modules.now) c.in-Ok.session c.in-Ok.ensures.opened
    c.start-counterpart.result.machine c.start-counterpart.ensures)

pub returns-in-Ok-clause-laws : goal.returns-in-Ok-clause-laws
returns-in-Ok-clause-laws g c =
    opens_lawful c.args.limits.row_numbers (texts c.args.schemas.now) (texts c.args.modules.now) c.start-counterpart.result.machine c.start-counterpart.ensures

pub returns-in-Err-clause-opened : goal.returns-in-Err-clause-opened
returns-in-Err-clause-opened g c =
    refuses c.args.limits.row_numbers (texts c.args.schemas.now) (texts c.args.modules.now) c.in-Err.fault c.in-Err.ensures.refused
