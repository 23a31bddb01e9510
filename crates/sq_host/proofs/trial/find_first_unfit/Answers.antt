-- Left open for find_first_unfit: its result; answered by Places.
use Rattle.std.proofs.Common.{sym, ap, ◌∙◌}
use Rattle.std.proofs.Math.ListN.{set}
use Rattle.sq_run.specs.Processor.{takes}
use Rattle.sq_host.proofs.Places.{first_unfit, no_nulls}
use Rattle.sq_host.proofs.trial.find_first_unfit.Goals as goal

pub returns-then-not-fits : goal.returns-then-not-fits
returns-then-not-fits c =
    let m = c.args.processor.now in let number = c.args.procedure in
    no_nulls m number c.args.values.now c.in_ok-tried.tried.items c.in_ok-tried.ensures
    (sym (c.fits.ensures ∙ ap (λ vs. takes m.program number vs) c.as_slice.ensures.value) ∙ c.if-not-fits.true)

pub returns-then-not-fits-2 : goal.returns-then-not-fits-2
returns-then-not-fits-2 c =
    let m = c.args.processor.now in let number = c.args.procedure in
    let tried = c.as_slice-in-loop-place.ensures.value ∙ ap (λ v. set c.loop-place.tried.items c.loop-place.place v) c.in_ok-tried-2.ensures.value in
    first_unfit m number c.loop-place.tried.items c.args.values.now c.loop-place.place c.index-values-place.result c.loop-place.invariant.fits
    (sym (c.fits-in-loop-place.ensures ∙ ap (λ vs. takes m.program number vs) tried) ∙ c.if-not-fits-2.true)
    c.loop-place.invariant.same c.loop-place.invariant.long c.loop-place-test.true c.index-values-place.is
