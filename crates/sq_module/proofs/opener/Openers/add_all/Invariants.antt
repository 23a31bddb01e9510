use Rattle.std.proofs.Common.{take}
use Rattle.sq_module.specs.Refusal.{AreOpeners}
use Rattle.sq_module.proofs.opener.Openers.add_all.Given as goal

abbrev pub invariant-loop-item : goal.invariant-loop-item
invariant-loop-item l = AreOpeners (take l.item-index l.items) l.self
