-- Left open: the call of ordered_rows, and the clauses opened, rows and right; answered by Opened and others.
use Rattle.std.proofs.Common.{List, subst, sym}
use Rattle.sq_value.specs.declared.value.Value.{Value}
use Rattle.sq_meaning.specs.WellFormed.{AreRowsOf}
use Rattle.sq_bound.specs.WellFormed.{kinds_of_parameters, kinds_of_query}
use Rattle.sq_catalog.specs.Catalog.{bases_there, column_kinds}
use Rattle.sq_query.proofs.Needs.Finds.{query_finds}
use Rattle.sq_session.specs.Parameter.{AreGiven}
use Rattle.sq_session.specs.Schemas.{schemas_of}
use Rattle.sq_session.proofs.OpenCursors.Opened.{over_fault_of_rows, over_rows, rows_answered}
use Rattle.sq_session.proofs.Calls.Reading.{may_read, some_tables}
use Rattle.sq_session.proofs.open.opened_over_rows.Goals as goal

pub ordered_rows-found-requires-clause-finds : goal.ordered_rows-found-requires-clause-finds
ordered_rows-found-requires-clause-finds g c =
    let called = c.args.called.now in
    query_finds called.catalog.now.bases (column_kinds called.catalog.now) (bases_there called.catalog.now) (kinds_of_parameters called.procedure.now.parameters) c.args.query.now c.requires.asked

pub returns-in-Ok-clause-opened : goal.returns-in-Ok-clause-opened
returns-in-Ok-clause-opened g c =
    let called = c.args.called.now in
    let schemas = schemas_of called.catalog.now in
    let parameters = called.procedure.now.parameters in
    let kinds = kinds_of_parameters parameters in
    let inputs = c.inputs.result in
    let given = subst (λ (vs : List Value). AreGiven kinds vs) (sym c.inputs.ensures.parameters) c.requires.given in
    let tables = g.S.Store.content_now c.args.store.now in
    over_rows schemas c.args.query.now c.args.order.now called.procedure.now.user parameters called.values.now tables c.from_vec.result
    (rows_answered schemas c.args.query.now c.args.order.now inputs.user called.procedure.now.user parameters inputs.parameters.now called.values.now tables c.in-Ok.rows c.from_vec.result
    c.inputs.ensures.user c.inputs.ensures.parameters c.from_vec.ensures
    (λ shown are. c.in-Ok.ensures.rows kinds shown (may_read called.catalog.now tables inputs.user kinds inputs.parameters.now given c.requires.tables.in_domains shown are) c.requires.asked))

pub returns-in-Err-clause-opened : goal.returns-in-Err-clause-opened
returns-in-Err-clause-opened g c =
    let called = c.args.called.now in
    let schemas = schemas_of called.catalog.now in
    let parameters = called.procedure.now.parameters in
    let kinds = kinds_of_parameters parameters in
    let inputs = c.inputs.result in
    let given = subst (λ (vs : List Value). AreGiven kinds vs) (sym c.inputs.ensures.parameters) c.requires.given in
    let tables = g.S.Store.content_now c.args.store.now in
    over_fault_of_rows schemas c.args.query.now c.args.order.now inputs.user called.procedure.now.user parameters inputs.parameters.now called.values.now tables c.in-Err.fault
    c.inputs.ensures.user c.inputs.ensures.parameters
    (λ shown are. c.in-Err.ensures.rows kinds shown (may_read called.catalog.now tables inputs.user kinds inputs.parameters.now given c.requires.tables.in_domains shown are) c.requires.asked)

pub returns-in-Ok-clause-rows : goal.returns-in-Ok-clause-rows
returns-in-Ok-clause-rows g c =
    let called = c.args.called.now in
    let kinds = kinds_of_parameters called.procedure.now.parameters in
    let inputs = c.inputs.result in
    let given = subst (λ (vs : List Value). AreGiven kinds vs) (sym c.inputs.ensures.parameters) c.requires.given in
    let some = some_tables called.catalog.now (g.S.Store.content_now c.args.store.now) inputs.user kinds inputs.parameters.now given c.requires.tables.in_domains in
    let listed = c.in-Ok.ensures.kinds kinds some.0 some.1 c.requires.asked in
    subst (λ (rows : List (List Value)). AreRowsOf (kinds_of_query c.args.query.now) rows) (sym c.from_vec.ensures) listed

pub returns-in-Err-clause-right : goal.returns-in-Err-clause-right
returns-in-Err-clause-right g c =
    let called = c.args.called.now in
    let kinds = kinds_of_parameters called.procedure.now.parameters in
    let inputs = c.inputs.result in
    let given = subst (λ (vs : List Value). AreGiven kinds vs) (sym c.inputs.ensures.parameters) c.requires.given in
    let some = some_tables called.catalog.now (g.S.Store.content_now c.args.store.now) inputs.user kinds inputs.parameters.now given c.requires.tables.in_domains in
    c.in-Err.ensures.right kinds some.0 some.1 c.requires.asked
