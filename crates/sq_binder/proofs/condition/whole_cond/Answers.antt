-- Left open for whole_cond: its result; answered by laws of sq_binding.
use Rattle.std.proofs.Common.{refl}
use Rattle.sq_binding.proofs.Standing.SeenLevels.{cond_seen-roll}
use Rattle.sq_binder.proofs.condition.whole_cond.Goals as goal

pub returns : goal.returns
returns c = (cond_seen-roll c.args.terms.part, refl)
