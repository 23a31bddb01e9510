-- Left open for total: its result; answered by Totals.
use Rattle.std.proofs.Common.{pos, ◌+ℤ◌, fold, sym, ap, ◌∙◌}
use Rattle.std.proofs.lemmas.List.{take_all}
use Rattle.sq_value.specs.private.SetFunctions.{unscaled_of}
use Rattle.sq_value.proofs.Totals.{total_is}
use Rattle.sq_value.proofs.set_functions.total.Goals as goal

pub returns : goal.returns
returns c =
    c.loop-value.invariant.sum
    ∙ ap (fold (λ sum v. sum +ℤ unscaled_of v) (pos 0)) (take_all c.loop-value.value-index c.args.values.now c.loop-value-test.false)
    ∙ sym (total_is c.args.values.now)
