-- Left open: the call of started_value, the result, and the loop's invariant; answered by Fitting and others.
use Rattle.std.proofs.Common.{◌≤◌, rules, length, arith}
use Rattle.std.proofs.lemmas.List.{length_push}
use Rattle.std.proofs.lemmas.Slice.Zip.{zip_end, zip_turn}
use Rattle.sq_session.proofs.Parameters.Fitting.{fit_at, fit_even}
use Rattle.sq_session.proofs.Parameters.Started.{given_all, started_all, started_next}
use Rattle.sq_session.proofs.parameter.start_values.Goals as goal

pub started_value-requires : goal.started_value-requires
started_value-requires c =
    let turn =
    zip_turn c.args.parameters.now c.args.values.now c.loop-parameter.yielded c.into_iter-parameter-iterator.result c.loop-parameter.parameter-iterator c.next.new.self c.next.result (search rules) (search rules)
    c.loop-parameter.yielded_by (c.in-Some.parameter, c.in-Some.value) c.in-Some.is c.next.ensures.steps in
    fit_at c.args.parameters.now c.args.values.now (length c.loop-parameter.yielded) c.in-Some.parameter.now c.in-Some.value.now c.requires turn.0 turn.1
    (turn.2 c.in-Some.parameter.now) (turn.3 c.in-Some.value.now)

pub loop-parameter-preserved : goal.loop-parameter-preserved
loop-parameter-preserved c =
    let turn =
    zip_turn c.args.parameters.now c.args.values.now c.loop-parameter.yielded c.into_iter-parameter-iterator.result c.loop-parameter.parameter-iterator c.next.new.self c.next.result (search rules) (search rules)
    c.loop-parameter.yielded_by (c.in-Some.parameter, c.in-Some.value) c.in-Some.is c.next.ensures.steps in
    rw (c.in_ok-push.ensures.items, length_push c.loop-parameter.yielded (c.in-Some.parameter, c.in-Some.value))
    (started_next c.args.parameters.now c.args.values.now (length c.loop-parameter.yielded) c.in-Some.parameter.now c.in-Some.value.now c.in_ok-started_value.field-0 c.loop-parameter.started.items
    turn.0 turn.1 (turn.2 c.in-Some.parameter.now) (turn.3 c.in-Some.value.now) c.in_ok-started_value.ensures c.loop-parameter.invariant)

pub returns : goal.returns
returns c =
    let parameters = c.args.parameters.now in
    let values = c.args.values.now in
    let ended =
    zip_end parameters values c.loop-parameter.yielded c.into_iter-parameter-iterator.result c.loop-parameter.parameter-iterator c.next.new.self c.next.result (search rules) (search rules)
    c.loop-parameter.yielded_by c.in-None.is c.next.ensures.steps in
    let even = fit_even parameters values c.requires in
    let all : length parameters ≤ length c.loop-parameter.yielded = omega (arith, ended, even) in
    record {
      started = started_all parameters values (length c.loop-parameter.yielded) c.loop-parameter.started.items all c.loop-parameter.invariant;
      given = given_all parameters values (length c.loop-parameter.yielded) c.loop-parameter.started.items even all c.loop-parameter.invariant;
    }
