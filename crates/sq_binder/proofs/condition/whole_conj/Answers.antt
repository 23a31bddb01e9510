-- Left open for whole_conj: its result; answered by laws of sq_binding.
use Rattle.std.proofs.Common.{refl}
use Rattle.sq_binding.proofs.Standing.SeenLevels.{conj_seen-roll}
use Rattle.sq_binder.proofs.condition.whole_conj.Goals as goal

pub returns : goal.returns
returns c = (conj_seen-roll c.args.tests.part, refl)
