-- Left open: the call of stored_value, the clauses meant and stored, and the loop's invariant; answered by InTurn, Domains and Storable.
use Rattle.std.proofs.Common.{rules, [], length, ◌∙◌}
use Rattle.std.proofs.lemmas.List.{length_push}
use Rattle.std.proofs.lemmas.Slice.Zip.{zip_end, zip_turn}
use Rattle.std.specs.List.{zip}
use Rattle.sq_expression.proofs.Expressions.{handed_on}
use Rattle.sq_change.specs.Given.{IsStorable}
use Rattle.sq_change.specs.Made.{seen_by, value_given, values_given}
use Rattle.sq_change.proofs.OneByOne.InTurn.{made_none, pair_failed, pair_more, pairs_all}
use Rattle.sq_change.proofs.NewRows.Domains.{stored_all, stored_push}
use Rattle.sq_change.proofs.NewRows.Storable.{zipped_at}
use Rattle.sq_change.proofs.given.given_values.Goals as goal

pub stored_value-requires : goal.stored_value-requires
stored_value-requires g c =
    let turn =
    zip_turn c.args.columns.now c.args.values.now c.loop-column.yielded c.into_iter-column-iterator.result c.loop-column.column-iterator c.next.new.self c.next.result (search rules) (search rules)
    c.loop-column.yielded_by (c.in-Some.column, c.in-Some.value) c.in-Some.is c.next.ensures.steps in
    let setting = c.args.setting.now in
    zipped_at (λ d e. IsStorable d.domain e [] setting.parameters.now setting.user) c.args.columns.now c.args.values.now (length c.loop-column.yielded) c.in-Some.column.now c.in-Some.value.now c.requires turn.0
    (turn.2 c.in-Some.column.now) (turn.3 c.in-Some.value.now)

pub loop-column-init : goal.loop-column-init
loop-column-init g c =
    let setting = c.args.setting.now in
    let seen = seen_by (g.N.Names.view_queries setting.names.now) (g.S.Store.content_now setting.store.now) setting.user setting.parameters.now in
    record {
      fit = rw (c.from_vec-row.ensures ∙ c.in_ok-with_capacity.ensures.items) tt;
      meant = λ shown. made_none (value_given shown seen) (zip c.args.columns.now c.args.values.now) c.from_vec-row.result (c.from_vec-row.ensures ∙ c.in_ok-with_capacity.ensures.items);
    }

pub loop-column-preserved : goal.loop-column-preserved
loop-column-preserved g c =
    let turn =
    zip_turn c.args.columns.now c.args.values.now c.loop-column.yielded c.into_iter-column-iterator.result c.loop-column.column-iterator c.next.new.self c.next.result (search rules) (search rules)
    c.loop-column.yielded_by (c.in-Some.column, c.in-Some.value) c.in-Some.is c.next.ensures.steps in
    let setting = c.args.setting.now in
    let seen = seen_by (g.N.Names.view_queries setting.names.now) (g.S.Store.content_now setting.store.now) setting.user setting.parameters.now in
    record {
      fit = rw (c.in_ok-push.ensures.ok, length_push c.loop-column.yielded (c.in-Some.column, c.in-Some.value))
          (stored_push c.args.columns.now (length c.loop-column.yielded) c.loop-column.row c.in-Some.column.now c.in_ok-stored_value.field-0 turn.0 (turn.2 c.in-Some.column.now)
          c.loop-column.invariant.fit c.in_ok-stored_value.ensures.in_domain);
      meant = λ shown.
          pair_more (value_given shown seen) c.args.columns.now c.args.values.now c.loop-column.row c.loop-column.yielded (c.in-Some.column, c.in-Some.value) turn
          (c.loop-column.invariant.meant shown) c.push.new.self c.in_ok-stored_value.field-0 (c.in_ok-stored_value.ensures.meant shown) c.in_ok-push.ensures.ok;
    }

pub returns-in_err-stored_value-clause-meant : goal.returns-in_err-stored_value-clause-meant
returns-in_err-stored_value-clause-meant g c = λ shown.
    let turn =
    zip_turn c.args.columns.now c.args.values.now c.loop-column.yielded c.into_iter-column-iterator.result c.loop-column.column-iterator c.next.new.self c.next.result (search rules) (search rules)
    c.loop-column.yielded_by (c.in-Some.column, c.in-Some.value) c.in-Some.is c.next.ensures.steps in
    let setting = c.args.setting.now in
    let seen = seen_by (g.N.Names.view_queries setting.names.now) (g.S.Store.content_now setting.store.now) setting.user setting.parameters.now in
    let e = c.in_err-stored_value.field-0.0 in
    handed_on c.from_residual-in_err-stored_value.result e (values_given shown seen c.args.columns.now c.args.values.now) c.from_residual-in_err-stored_value.ensures.1
    (pair_failed (value_given shown seen) c.args.columns.now c.args.values.now c.loop-column.row c.loop-column.yielded (c.in-Some.column, c.in-Some.value) turn
    (c.loop-column.invariant.meant shown) e (c.in_err-stored_value.ensures.meant shown))

pub returns-clause-meant : goal.returns-clause-meant
returns-clause-meant g c = λ shown.
    let ended =
    zip_end c.args.columns.now c.args.values.now c.loop-column.yielded c.into_iter-column-iterator.result c.loop-column.column-iterator c.next.new.self c.next.result (search rules) (search rules)
    c.loop-column.yielded_by c.in-None.is c.next.ensures.steps in
    let setting = c.args.setting.now in
    let seen = seen_by (g.N.Names.view_queries setting.names.now) (g.S.Store.content_now setting.store.now) setting.user setting.parameters.now in
    pairs_all (value_given shown seen) c.args.columns.now c.args.values.now c.loop-column.row c.loop-column.yielded ended (c.loop-column.invariant.meant shown)

pub returns-clause-stored : goal.returns-clause-stored
returns-clause-stored g c =
    let ended =
    zip_end c.args.columns.now c.args.values.now c.loop-column.yielded c.into_iter-column-iterator.result c.loop-column.column-iterator c.next.new.self c.next.result (search rules) (search rules)
    c.loop-column.yielded_by c.in-None.is c.next.ensures.steps in
    let setting = c.args.setting.now in
    stored_all (λ d e. IsStorable d.domain e [] setting.parameters.now setting.user) c.args.columns.now c.args.values.now (length c.loop-column.yielded) c.loop-column.row c.requires ended c.loop-column.invariant.fit
