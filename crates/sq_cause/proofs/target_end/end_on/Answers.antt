-- Left open for end_on: its result; answered without a law.
use Rattle.sq_cause.proofs.target_end.end_on.Goals as goal

pub returns-in-Err-Status : goal.returns-in-Err-Status
returns-in-Err-Status g c = rw c.status.ensures (rw c.in-Err-Status.field-0-is at c.in-Err-Status.ensures.truth)
