-- Left open: the clauses values and found, and the loop's invariant; answered by KeyTests and KnownKeys.
use Rattle.std.proofs.Common.{[], get_or, refl, subst, sym}
use Rattle.std.specs.List.{AllZip}
use Rattle.sq_query.specs.Key.{IsComparedWith}
use Rattle.sq_query.proofs.Keys.KeyTests.{if_some, zip_more, zip_all}
use Rattle.sq_query.proofs.Keys.KnownKeys.{not_none}
use Rattle.sq_query.proofs.key.values_of_columns.Goals as goal

pub loop-column-init : goal.loop-column-init
loop-column-init c = subst (AllZip (IsComparedWith c.args.tests.now c.args.call.now.parameters.now c.args.call.now.user) []) (sym c.new-values.ensures.items) tt

pub loop-column-preserved : goal.loop-column-preserved
loop-column-preserved c =
    let R = IsComparedWith c.args.tests.now c.args.call.now.parameters.now c.args.call.now.user in
    let i = c.loop-column.column-index in
    zip_more R c.args.columns.now i 0 c.loop-column.values.items c.push.new.self.items c.in-Some.value c.loop-column-test.true c.loop-column.invariant
    (if_some (R (get_or c.args.columns.now i 0)) c.in_ok-value.field-0 c.in-Some.value c.in_ok-value.ensures.value c.in-Some.is) c.in_ok-push-in-Some.ensures.items

pub returns-clause-values : goal.returns-clause-values
returns-clause-values c =
    zip_all (IsComparedWith c.args.tests.now c.args.call.now.parameters.now c.args.call.now.user) c.args.columns.now c.loop-column.column-index c.loop-column.values.items c.loop-column-test.false c.loop-column.invariant

pub returns-in-None-clause-found : goal.returns-in-None-clause-found
returns-in-None-clause-found c = λ known. absurd (not_none c.in_ok-value.field-0 c.in-None.is (c.in_ok-value.ensures.found known))

pub returns-clause-found : goal.returns-clause-found
returns-clause-found c = λ known. refl
