use Rattle.sq_check.specs.Modules.{AreOpeners}
use Rattle.sq_check.proofs.opener.openers_of.Given as goal

abbrev pub invariant-loop-item : goal.invariant-loop-item
invariant-loop-item l = AreOpeners l.program l.«module» l.openers.entries
