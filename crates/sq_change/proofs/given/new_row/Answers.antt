-- Left open: the call of value_or_default, the clause meant, and the loop's invariant; answered by InTurn and Domains.
use Rattle.std.proofs.Common.{arith, rules, ◌∙◌}
use Rattle.std.specs.List.{enumerate_from}
use Rattle.std.proofs.lemmas.Grind.{common_steps}
use Rattle.sq_expression.proofs.Expressions.{handed_on}
use Rattle.sq_change.specs.Made.{row_completed, value_completed}
use Rattle.sq_change.proofs.OneByOne.InTurn.{all_placed, made_all, made_failed, made_more, made_none, place_at}
use Rattle.sq_change.proofs.NewRows.Domains.{given_in_if, pushed_in}
use Rattle.sq_change.proofs.given.new_row.Goals as goal

pub value_or_default-requires : goal.value_or_default-requires
value_or_default-requires g c =
    given_in_if c.args.table.now c.args.columns.now c.loop-place.place c.index-own-place.result c.given_at-given.result c.requires.columns c.given_at-given.ensures.stored
    (rw (← c.as_slice-own.ensures) c.loop-place-test.true) (rw (← c.as_slice-own.ensures) c.index-own-place.is)

pub loop-place-preserved : goal.loop-place-preserved
loop-place-preserved g c = record {
  meant =
      let columns = c.args.table.now.columns in
      let here = place_at columns c.loop-place.place c.index-own-place.result (rw (← c.as_slice-own.ensures) c.loop-place-test.true) (rw (← c.as_slice-own.ensures) c.index-own-place.is) in
      let f = value_completed c.args.setting.now.user c.args.columns.now c.args.given.now in
      made_more f (enumerate_from 0 columns) c.loop-place.row c.push.new.self c.loop-place.place (c.loop-place.place, c.index-own-place.result) c.in_ok-value_or_default.field-0
      here.0 here.1 c.loop-place.invariant.meant (rw (← c.given_at-given.ensures.given) c.in_ok-value_or_default.ensures.meant) c.in_ok-push.ensures.ok;
  wide = grind (arith, common_steps);
  in_domains = rw c.in_ok-push.ensures.ok
      (pushed_in c.args.table.now.columns c.loop-place.place c.loop-place.row c.index-own-place.result c.in_ok-value_or_default.field-0
      (rw (← c.as_slice-own.ensures) c.loop-place-test.true) (rw (← c.as_slice-own.ensures) c.index-own-place.is) c.loop-place.invariant.in_domains c.in_ok-value_or_default.ensures.in_domain);
}

pub loop-place-init : goal.loop-place-init
loop-place-init g c = record {
  wide = search rules;
  meant = made_none (value_completed c.args.setting.now.user c.args.columns.now c.args.given.now) (enumerate_from 0 c.args.table.now.columns) c.from_vec-row.result (c.from_vec-row.ensures ∙ c.in_ok-with_capacity.ensures.items);
  in_domains = search rules;
}

pub returns-in_err-value_or_default-clause-meant : goal.returns-in_err-value_or_default-clause-meant
returns-in_err-value_or_default-clause-meant g c =
    let columns = c.args.table.now.columns in
    let here = place_at columns c.loop-place.place c.index-own-place.result (rw (← c.as_slice-own.ensures) c.loop-place-test.true) (rw (← c.as_slice-own.ensures) c.index-own-place.is) in
    let f = value_completed c.args.setting.now.user c.args.columns.now c.args.given.now in
    let e = c.in_err-value_or_default.field-0.0 in
    handed_on c.from_residual-in_err-value_or_default.result e (row_completed c.args.setting.now.user c.args.table.now c.args.columns.now c.args.given.now) c.from_residual-in_err-value_or_default.ensures.1
    (made_failed f (enumerate_from 0 columns) c.loop-place.row c.loop-place.place (c.loop-place.place, c.index-own-place.result) e
    here.0 here.1 c.loop-place.invariant.meant (rw (← c.given_at-given.ensures.given) c.in_err-value_or_default.ensures.meant))

pub returns-clause-meant : goal.returns-clause-meant
returns-clause-meant g c =
    made_all (value_completed c.args.setting.now.user c.args.columns.now c.args.given.now) (enumerate_from 0 c.args.table.now.columns) c.loop-place.row c.loop-place.place
    (all_placed c.args.table.now.columns c.loop-place.place (rw (← c.as_slice-own.ensures) c.loop-place-test.false)) c.loop-place.invariant.meant
