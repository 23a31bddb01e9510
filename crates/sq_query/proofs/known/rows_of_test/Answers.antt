-- Left open for rows_of_test: the clause found; answered by KnownSearch and KeyTests.
use Rattle.sq_query.specs.Known.{AreValuesOf}
use Rattle.sq_query.proofs.FoundByKey.KnownSearch.{read_so}
use Rattle.sq_query.proofs.Keys.KeyTests.{if_some}
use Rattle.sq_query.proofs.known.rows_of_test.Goals as goal

pub returns-in_ok-base_with-in-Some-2-clause-found : goal.returns-in_ok-base_with-in-Some-2-clause-found
returns-in_ok-base_with-in-Some-2-clause-found g c =
    let found = c.args.found.now in
    let values = c.args.call.now.parameters.now in
    let user = c.args.call.now.user in
    let k = c.in-Some.compared in
    let s = c.in-Some.subquery.now in
    read_so c.args.query.now (g.S.Store.content_now c.args.store.now) (g.S.Store.key_columns c.args.store.now) values user c.args.inner.now c.args.test.now found c.in-Some.place k s c.in-Some-base_alone.base c.in-Some-key_of_column.key c.in-Some-2.values
    c.in_ok-base_with-in-Some-2.field-0 c.in-Some.ensures c.in-Some-base_alone.ensures c.in-Some-key_of_column.ensures
    (if_some (λ vs. AreValuesOf found values user k s vs.items) c.in_ok-values.field-0 c.in-Some-2.values c.in_ok-values.ensures.known c.in-Some-2.is) c.in_ok-base_with-in-Some-2.ensures.place c.in_ok-base_with-in-Some-2.ensures.rows
