-- Left open: the result, and that the loop keeps its invariant; answered by Steps and IntoTargets.
use Rattle.std.proofs.Common.{◌≡◌, [], length, map, Ok, sym, ap, subst, arith}
use Rattle.std.specs.List.{zip}
use Rattle.sq_meaning.specs.Spelled.{listed}
use Rattle.sq_binding.specs.Targets.{targets_bound}
use Rattle.sq_binder.specs.Binds.{Stops}
use Rattle.sq_binder.specs.Scope.{declared_of}
use Rattle.sq_binder.proofs.OneByOne.Steps.{all_done, handed_on, step_done, step_stops}
use Rattle.sq_binder.specs.Target.{kinds_shown, target_step}
use Rattle.sq_binder.proofs.Statements.IntoTargets.{begun_stops, begun_targets, beside, pair_at, pair_within, pairs_past, step_once}
use Rattle.sq_binding.specs.SeenQuery.{output_seen}
use Rattle.sq_binder.proofs.into.targets_of.Goals as goal

pub returns-in_err-outputs : goal.returns-in_err-outputs
returns-in_err-outputs c =
    let parameters = map declared_of c.args.parameters.now in
    let first = c.args.targets.now.first in
    let column = c.in-Some.first.now in
    let stop = c.in_err-outputs.field-0.0 in
    let rest = ap length c.as_slice-rest.ensures in
    handed_on (map output_seen) (targets_bound parameters (listed c.args.targets.now) (kinds_shown c.args.columns.now)) c.from_residual.result stop c.from_residual.ensures.1
    (begun_stops parameters first c.args.targets.now.rest c.args.columns.now column c.in-Some.others.now c.in-Some.ensures.cases.0 (omega (arith, c.if-rest-others.false, rest)) stop
    (subst (λ os. Stops (target_step parameters (map output_seen os) (first, column.kind)) stop) c.new.ensures c.in_err-outputs.ensures))

pub loop-number-init : goal.loop-number-init
loop-number-init c =
    let parameters = map declared_of c.args.parameters.now in
    let first = c.args.targets.now.first in
    let column = c.in-Some.first.now in
    let outputs = c.in_ok-outputs.outputs in
    let rest = ap length c.as_slice-rest.ensures in
    let begun = subst (λ os. target_step parameters (map output_seen os) (first, column.kind) ≡ Ok (map output_seen outputs)) c.new.ensures c.in_ok-outputs.ensures in
    record {
      so_far = begun_targets parameters first c.args.targets.now.rest c.args.columns.now column c.in-Some.others.now c.in-Some.ensures.cases.0 (omega (arith, c.if-rest-others.false, rest)) (map output_seen outputs) begun;
      once = step_once parameters [] (first, column.kind) (map output_seen outputs) begun;
    }

pub returns-in-Err : goal.returns-in-Err
returns-in-Err c =
    let parameters = map declared_of c.args.parameters.now in
    let others = c.in-Some.others.now in
    let rest = c.args.targets.now.rest in
    let items = c.as_slice-rest.result.now in
    let are = c.as_slice-rest.ensures in
    let many = ap length are in
    let same : length rest ≡ length others = omega (arith, c.if-rest-others.false, many) in
    let i = c.loop-number.number in
    let target = c.index-rest-number.result in
    let column = c.index-others-number.result in
    step_stops (target_step parameters) beside (targets_bound parameters (listed c.args.targets.now) (kinds_shown c.args.columns.now)) (zip rest others) i (map output_seen c.loop-number.outputs) (target, column) c.in-Err.stop
    (pair_within rest items are others same i c.loop-number-test.true) (pair_at rest items are others same i target column c.loop-number-test.true c.index-rest-number.is c.index-others-number.is)
    c.loop-number.invariant.so_far (subst (λ column. Stops (target_step parameters (map output_seen c.loop-number.outputs) (target, column.kind)) c.in-Err.stop) (sym c.index-others-number.is) c.in-Err.ensures)

pub loop-number-preserved : goal.loop-number-preserved
loop-number-preserved c =
    let parameters = map declared_of c.args.parameters.now in
    let others = c.in-Some.others.now in
    let rest = c.args.targets.now.rest in
    let items = c.as_slice-rest.result.now in
    let are = c.as_slice-rest.ensures in
    let many = ap length are in
    let same : length rest ≡ length others = omega (arith, c.if-rest-others.false, many) in
    let i = c.loop-number.number in
    let target = c.index-rest-number.result in
    let column = c.index-others-number.result in
    let outputs = c.loop-number.outputs in
    let done = subst (λ column. target_step parameters (map output_seen outputs) (target, column.kind) ≡ Ok (map output_seen c.in-Ok.more)) (sym c.index-others-number.is) c.in-Ok.ensures in
    record {
      so_far = step_done (target_step parameters) beside (targets_bound parameters (listed c.args.targets.now) (kinds_shown c.args.columns.now)) (zip rest others) i (map output_seen outputs) (target, column) (map output_seen c.in-Ok.more)
          (pair_within rest items are others same i c.loop-number-test.true) (pair_at rest items are others same i target column c.loop-number-test.true c.index-rest-number.is c.index-others-number.is)
          c.loop-number.invariant.so_far done;
      once = step_once parameters (map output_seen outputs) (target, column.kind) (map output_seen c.in-Ok.more) done;
    }

pub returns : goal.returns
returns c =
    let parameters = map declared_of c.args.parameters.now in
    let others = c.in-Some.others.now in
    let rest = c.args.targets.now.rest in
    let are = c.as_slice-rest.ensures in
    let many = ap length are in
    let same : length rest ≡ length others = omega (arith, c.if-rest-others.false, many) in
    let i = c.loop-number.number in
    all_done (target_step parameters) beside (targets_bound parameters (listed c.args.targets.now) (kinds_shown c.args.columns.now)) (zip rest others) i (map output_seen c.loop-number.outputs)
    (pairs_past rest c.as_slice-rest.result.now are others same i c.loop-number-test.false) c.loop-number.invariant.so_far
