-- Left open for is_not_true: its result; answered without a law.
use Rattle.std.proofs.Common.{inl, inr}
use Rattle.sq_cause.proofs.option_breach.is_not_true.Goals as goal

pub returns-in-Ok-False : goal.returns-in-Ok-False
returns-in-Ok-False g c = λ t. inl (rw (c.get.ensures, c.in-Ok-False.field-0-is) at c.in-Ok-False.ensures.truth)

pub returns-in-Ok-Unknown : goal.returns-in-Ok-Unknown
returns-in-Ok-Unknown g c = λ t. inr (rw (c.get.ensures, c.in-Ok-Unknown.field-0-is) at c.in-Ok-Unknown.ensures.truth)
