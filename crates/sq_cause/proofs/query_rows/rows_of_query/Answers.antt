-- Left open: the call of specification_rows, and the result; answered by laws of sq_change and other crates.
use Rattle.std.proofs.Common.{List, [], Ok, subst, sym}
use Rattle.sq_value.specs.declared.value.Value.{Value}
use Rattle.sq_bound.specs.WellFormed.{kinds_of_parameters}
use Rattle.sq_catalog.specs.Catalog.{bases_there, column_kinds}
use Rattle.sq_change.proofs.Constraints.Obeyed.{not_nulls_of}
use Rattle.sq_query.proofs.Needs.Finds.{select_finds}
use Rattle.sq_session.specs.Kind.{Selecting}
use Rattle.sq_session.specs.Parameter.{AreGiven}
use Rattle.sq_session.specs.Schemas.{schemas_of}
use Rattle.sq_session.proofs.Calls.Reading.{may_read}
use Rattle.sq_session.proofs.Calls.Selected.{IsAnswered, found_meant}
use Rattle.sq_cause.proofs.query_rows.rows_of_query.Goals as goal

pub specification_rows-found-requires-clause-finds : goal.specification_rows-found-requires-clause-finds
specification_rows-found-requires-clause-finds g c =
    let called = c.args.called.now in
    select_finds called.catalog.now.bases (column_kinds called.catalog.now) (bases_there called.catalog.now) (kinds_of_parameters called.procedure.now.parameters) c.args.query.now c.requires.well

pub specification_rows-found-requires-clause-keys : goal.specification_rows-found-requires-clause-keys
specification_rows-found-requires-clause-keys g c = c.requires.whole.2

pub specification_rows-found-requires-clause-not_null : goal.specification_rows-found-requires-clause-not_null
specification_rows-found-requires-clause-not_null g c =
    not_nulls_of c.args.called.now.catalog.now.bases (g.S.Store.content_now c.args.inside.now.store.now) c.requires.whole.7

pub returns-in-Ok : goal.returns-in-Ok
returns-in-Ok g c =
    let called = c.args.called.now in
    let schemas = schemas_of called.catalog.now in
    let s : Selecting = record { query = c.args.query.now; user = called.procedure.now.user; parameters = called.procedure.now.parameters; targets = [] } in
    let kinds = kinds_of_parameters called.procedure.now.parameters in
    let inputs = c.inputs.result in
    let tables = g.S.Store.content_now c.args.inside.now.store.now in
    let given = subst (λ (vs : List Value). AreGiven kinds vs) (sym c.inputs.ensures.parameters) c.requires.given in
    let found = rw c.in-Ok.is at c.specification_rows-found.ensures.rows in
    let answered : IsAnswered schemas s inputs.user inputs.parameters.now tables (Ok c.in-Ok.rows) =
    λ shown are. found kinds shown (may_read called.catalog.now tables inputs.user kinds inputs.parameters.now given c.requires.whole.4 shown are) c.requires.well in
    found_meant schemas s inputs.user inputs.parameters.now called.values.now tables c.in-Ok.rows c.inputs.ensures.user c.inputs.ensures.parameters answered
