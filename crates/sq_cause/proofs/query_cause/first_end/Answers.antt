-- Left open for first_end: what the call of end_of asks for, and its result; answered by OfQueries.
use Rattle.std.proofs.Common.{[], IfSome, Ok, Option, Some, subst}
use Rattle.sq_bound.specs.WellFormed.{IsSelect}
use Rattle.sq_catalog.specs.Catalog.{column_kinds}
use Rattle.sq_session.specs.Called.{parameter_kinds}
use Rattle.sq_session.specs.Schemas.{schemas_of}
use Rattle.sq_cause.specs.QueryCause.{HasEnd, lent_queries}
use Rattle.sq_cause.specs.declared.cause.QueryCause.{QueryCause}
use Rattle.sq_cause.proofs.OfQueries.{among_lent, end_among, lent_holds}
use Rattle.sq_cause.proofs.query_cause.first_end.Goals as goal

pub end_of-requires-clause-well : goal.end_of-requires-clause-well
end_of-requires-clause-well g c =
    let called = c.args.called.now in
    lent_holds (IsSelect (column_kinds called.catalog.now) (parameter_kinds called) []) c.args.queries.now c.loop-number.number c.index-queries-number.result c.loop-number-test.true c.index-queries-number.is c.requires.well

pub returns-in-Ok-Some : goal.returns-in-Ok-Some
returns-in-Ok-Some g c =
    let called = c.args.called.now in
    let schemas = schemas_of called.catalog.now in
    let user = called.procedure.now.user in
    let values = called.values.now in
    let tables = g.S.Store.content_now c.args.inside.now.store.now in
    let queries = c.args.queries.now in
    let query = c.index-queries-number.result in
    let term = c.number_among-term.result in
    end_among schemas user values tables term query.now (lent_queries queries) (Ok (Some c.in-Ok-Some.cause))
    (among_lent queries c.loop-number.number query term c.number_among-term.ensures.only c.number_among-term.ensures.several c.loop-number-test.true c.index-queries-number.is)
    (subst (λ (found : Option QueryCause). IfSome found (HasEnd schemas user values tables term query.now)) c.in-Ok-Some.field-0-is c.in-Ok-Some.ensures)
