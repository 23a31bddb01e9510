-- Left open for best_of: its result; answered by Extremes.
use Rattle.std.proofs.Common.{None, fold, sym, ap, ◌∙◌}
use Rattle.std.proofs.lemmas.List.{take_all}
use Rattle.sq_value.specs.private.SetFunctions.{kept_best}
use Rattle.sq_value.proofs.Extremes.{best_is}
use Rattle.sq_value.proofs.set_functions.best_of.Goals as goal

pub returns : goal.returns
returns c =
    c.loop-value.invariant
    ∙ ap (fold (kept_best c.args.extreme) None) (take_all c.loop-value.value-index c.args.values.now c.loop-value-test.false)
    ∙ sym (best_is c.args.extreme c.args.values.now)
