-- Left open: the calls of value and set, the result, and the loop's invariant; answered by Taken and Targets.
use Rattle.std.proofs.Common.{None, ap, arith, sym, ◌∙◌}
use Rattle.sq_session.specs.Retrieved.{values_of}
use Rattle.sq_session.specs.Target.{row_set}
use Rattle.sq_session.proofs.Parameters.Taken.{taken_here, taken_long}
use Rattle.sq_session.proofs.Parameters.Targets.{set_all, set_more, set_stops, value_at}
use Rattle.sq_session.proofs.target.assignments_of.Goals as goal

pub value-requires : goal.value-requires
value-requires c =
    let long = taken_long c.args.called.now.procedure.now.parameters c.args.targets.now (values_of c.args.row.now) c.requires.row in
    omega (arith, long, c.loop-place-test.true)

pub set-requires-clause-fits : goal.set-requires-clause-fits
set-requires-clause-fits c =
    taken_here c.as_slice-parameters.result.now c.args.called.now.procedure.now.parameters c.args.targets.now (values_of c.args.row.now) c.loop-place.place (record { parameter = 0; indicator = None })
    c.value.result.now c.as_slice-parameters.ensures c.requires.row c.loop-place-test.true (value_at (values_of c.args.row.now) c.loop-place.place c.value.result.now c.value.ensures)

pub returns : goal.returns
returns c =
    let long = taken_long c.args.called.now.procedure.now.parameters c.args.targets.now (values_of c.args.row.now) c.requires.row in
    ap (λ ps. row_set ps c.args.targets.now (values_of c.args.row.now)) (sym c.as_slice-parameters.ensures)
    ∙ set_all c.as_slice-parameters.result.now c.args.targets.now (values_of c.args.row.now) c.loop-place.place c.loop-place.assignments long (omega (arith, c.loop-place-test.false)) c.loop-place.invariant

pub returns-in-Err : goal.returns-in-Err
returns-in-Err c =
    let long = taken_long c.args.called.now.procedure.now.parameters c.args.targets.now (values_of c.args.row.now) c.requires.row in
    set_stops c.as_slice-parameters.result.now c.args.called.now.procedure.now.parameters c.args.targets.now (values_of c.args.row.now) c.loop-place.place (record { parameter = 0; indicator = None })
    c.value.result.now c.loop-place.assignments c.set.new.self c.in-Err.fault c.as_slice-parameters.ensures long c.loop-place-test.true (value_at (values_of c.args.row.now) c.loop-place.place c.value.result.now c.value.ensures) c.in-Err.ensures c.loop-place.invariant

pub loop-place-preserved : goal.loop-place-preserved
loop-place-preserved c =
    let long = taken_long c.args.called.now.procedure.now.parameters c.args.targets.now (values_of c.args.row.now) c.requires.row in
    set_more c.as_slice-parameters.result.now c.args.targets.now (values_of c.args.row.now) c.loop-place.place (record { parameter = 0; indicator = None }) c.value.result.now
    c.loop-place.assignments c.set.new.self long c.loop-place-test.true (value_at (values_of c.args.row.now) c.loop-place.place c.value.result.now c.value.ensures) c.in-Ok.ensures c.loop-place.invariant
