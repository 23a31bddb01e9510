use Rattle.std.proofs.Common.{◌≡◌, take, fold, None, option_copied}
use Rattle.sq_value.specs.private.SetFunctions.{kept_best}
use Rattle.sq_value.proofs.set_functions.best_of.Given as goal

abbrev pub invariant-loop-value : goal.invariant-loop-value
invariant-loop-value l = option_copied l.best ≡ fold (kept_best l.extreme) None (take l.value-index l.values)
