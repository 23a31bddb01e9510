-- Left open for with_rows_of_tests: that the loop keeps its invariant, and the clause found; answered by KnownRows and KnownSearch.
use Rattle.std.proofs.Common.{List, subst, sym}
use Rattle.std.specs.Prelude.{IfSome}
use Rattle.sq_expression.specs.declared.table.BaseRows.{BaseRows}
use Rattle.sq_query.specs.Known.{IsReadByRows}
use Rattle.sq_query.proofs.FoundByKey.ItemSearch.{at_index}
use Rattle.sq_query.proofs.FoundByKey.KnownRows.{none_serve}
use Rattle.sq_query.proofs.FoundByKey.KnownSearch.{never_more, one_serves}
use Rattle.sq_query.proofs.known.with_rows_of_tests.Goals as goal

pub loop-test-init : goal.loop-test-init
loop-test-init g c = (none_serve c.args.query.now (g.S.Store.content_now c.args.store.now) (g.S.Store.key_columns c.args.store.now) c.args.call.now.parameters.now c.args.call.now.user c.args.before.items, tt)

pub loop-test-preserved : goal.loop-test-preserved
loop-test-preserved g c =
    let q = c.args.query.now in
    let content = g.S.Store.content_now c.args.store.now in
    let keys = g.S.Store.key_columns c.args.store.now in
    let values = c.args.call.now.parameters.now in
    let user = c.args.call.now.user in
    let inner = c.args.inner.now in
    let tests = c.args.tests.now in
    let i = c.loop-test.test-index in
    let test = c.test-item.result in
    let at = at_index tests i test test c.loop-test-test.true (sym c.test-item.is) in (
      one_serves q content keys values user inner c.requires.inside tests c.requires.only i test at c.loop-test.invariant.1 c.args.before.items c.loop-test.found.items c.in_ok-found.found.items c.in_ok-own.own c.loop-test.invariant.0
          (subst (λ (l : List BaseRows). IfSome c.in_ok-own.own (IsReadByRows q test inner content keys values user l)) c.as_slice.ensures.value c.in_ok-own.ensures.found) c.in_ok-found.ensures.all,
      never_more tests i test at c.if-test.false c.loop-test.invariant.1,
    )

pub returns-then-test-clause-found : goal.returns-then-test-clause-found
returns-then-test-clause-found g c =
    let q = c.args.query.now in
    let content = g.S.Store.content_now c.args.store.now in
    let keys = g.S.Store.key_columns c.args.store.now in
    let values = c.args.call.now.parameters.now in
    let user = c.args.call.now.user in
    let inner = c.args.inner.now in
    let tests = c.args.tests.now in
    let i = c.loop-test.test-index in
    let test = c.test-item.result in
    let at = at_index tests i test test c.loop-test-test.true (sym c.test-item.is) in
    one_serves q content keys values user inner c.requires.inside tests c.requires.only i test at c.loop-test.invariant.1 c.args.before.items c.loop-test.found.items c.in_ok-found.found.items c.in_ok-own.own c.loop-test.invariant.0
    (subst (λ (l : List BaseRows). IfSome c.in_ok-own.own (IsReadByRows q test inner content keys values user l)) c.as_slice.ensures.value c.in_ok-own.ensures.found) c.in_ok-found.ensures.all

pub returns-clause-found : goal.returns-clause-found
returns-clause-found g c = c.loop-test.invariant.0
