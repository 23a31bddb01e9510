-- Left open for comes_to: the clause ends; answered without a law.
use Rattle.sq_cause.proofs.row_end.comes_to.Goals as goal

pub returns-in-Err-Status-clause-ends : goal.returns-in-Err-Status-clause-ends
returns-in-Err-Status-clause-ends g c = rw c.status.ensures (rw c.in-Err-Status.field-0-is at c.in-Err-Status.ensures.truth)
