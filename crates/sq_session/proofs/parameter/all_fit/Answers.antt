-- Left open for all_fit: its result, and that the loop keeps its invariant; answered by Fitting.
use Rattle.std.proofs.Common.{◌<◌, arith, length}
use Rattle.sq_session.proofs.Parameters.Fitting.{fit_all, fit_next, fit_stops, fit_uneven}
use Rattle.sq_session.proofs.parameter.all_fit.Goals as goal

pub returns-then-parameters-values : goal.returns-then-parameters-values
returns-then-parameters-values c = fit_uneven c.args.parameters.now c.args.values.now c.if-parameters-values.true

pub returns-then-not-fits : goal.returns-then-not-fits
returns-then-not-fits c =
    let there : c.loop-place.place < length c.args.values.now = omega (arith, c.loop-place-test.true, c.if-parameters-values.false) in
    fit_stops c.args.parameters.now c.args.values.now c.loop-place.place c.index-parameters-place.result c.index-values-place.result c.fits.result
    c.loop-place-test.true there c.index-parameters-place.is c.index-values-place.is c.fits.ensures c.if-not-fits.true c.loop-place.invariant

pub loop-place-preserved : goal.loop-place-preserved
loop-place-preserved c =
    let there : c.loop-place.place < length c.args.values.now = omega (arith, c.loop-place-test.true, c.if-parameters-values.false) in
    fit_next c.args.parameters.now c.args.values.now c.loop-place.place c.index-parameters-place.result c.index-values-place.result c.fits.result
    c.loop-place-test.true there c.index-parameters-place.is c.index-values-place.is c.fits.ensures c.if-not-fits.false c.loop-place.invariant

pub returns : goal.returns
returns c = fit_all c.args.parameters.now c.args.values.now c.loop-place.place c.loop-place-test.false c.if-parameters-values.false c.loop-place.invariant
