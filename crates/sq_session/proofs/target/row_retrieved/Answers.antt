-- Left open for row_retrieved: the clauses reply and right; answered by Taken.
use Rattle.sq_session.specs.Retrieved.{values_of}
use Rattle.sq_session.proofs.Parameters.Taken.{status_allowed, status_replied}
use Rattle.sq_session.proofs.target.row_retrieved.Goals as goal

pub returns-in-Err-Status-clause-reply : goal.returns-in-Err-Status-clause-reply
returns-in-Err-Status-clause-reply c =
    status_replied c.args.called.now.procedure.now.parameters c.args.targets.now (values_of c.args.row.now) c.in-Err-Status.failure c.status.result c.without_outputs.result c.requires.row
    (rw c.in-Err-Status.field-0-is at c.in-Err-Status.ensures) c.status.ensures c.without_outputs.ensures

pub returns-in-Err-Status-clause-right : goal.returns-in-Err-Status-clause-right
returns-in-Err-Status-clause-right c =
    status_allowed c.args.called.now.procedure.now.parameters c.args.targets.now (values_of c.args.row.now) c.in-Err-Status.failure c.status.result c.without_outputs.result c.requires.row
    (rw c.in-Err-Status.field-0-is at c.in-Err-Status.ensures) c.status.ensures c.without_outputs.ensures
