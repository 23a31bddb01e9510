-- Left open: the calls of opened_over_rows and opened_over, and the clauses kept, opened and read; answered by Asking.
use Rattle.sq_bound.specs.WellFormed.{kinds_of_parameters}
use Rattle.sq_catalog.specs.Catalog.{column_kinds}
use Rattle.sq_session.specs.Schemas.{schemas_of}
use Rattle.sq_session.proofs.Calls.Asking.{rows_kept, updatable_kept}
use Rattle.sq_session.proofs.open.make_open.Goals as goal

pub opened_over_rows-requires-clause-asked : goal.opened_over_rows-requires-clause-asked
opened_over_rows-requires-clause-asked g c =
    let asked = rw c.in-Rows.is at c.requires.cursor.well_formed in
    asked.0

pub opened_over-requires-clause-base : goal.opened_over-requires-clause-base
opened_over-requires-clause-base g c =
    let fits = rw c.in-Updatable.is at c.requires.cursor.fits in
    fits.0

pub opened_over-requires-clause-asked : goal.opened_over-requires-clause-asked
opened_over-requires-clause-asked g c =
    let asked = rw c.in-Updatable.is at c.requires.cursor.well_formed in
    asked.0

pub returns-in-Rows-clause-kept : goal.returns-in-Rows-clause-kept
returns-in-Rows-clause-kept g c =
    let asked = rw c.in-Rows.is at c.requires.cursor.well_formed in
    rows_kept (column_kinds c.args.called.now.catalog.now) c.args.cursor.now c.in-Rows.query c.opened_over_rows.result asked.1 c.opened_over_rows.ensures.rows

pub returns-in-Updatable-clause-kept : goal.returns-in-Updatable-clause-kept
returns-in-Updatable-clause-kept g c =
    let called = c.args.called.now in
    updatable_kept (schemas_of called.catalog.now) (column_kinds called.catalog.now) c.args.cursor.now (kinds_of_parameters called.procedure.now.parameters) c.in-Updatable.updatable.target called.procedure.now.user called.values.now (g.S.Store.content_now c.args.store.now)
    c.opened_over.result c.requires.cursor.well_formed c.requires.cursor.given c.opened_over.ensures.opened

pub returns-in-Rows-clause-opened : goal.returns-in-Rows-clause-opened
returns-in-Rows-clause-opened g c = rw c.in-Rows.is (rw c.as_slice.ensures at c.opened_over_rows.ensures.opened)

pub returns-in-Rows-clause-read : goal.returns-in-Rows-clause-read
returns-in-Rows-clause-read g c = rw c.in-Rows.is tt

pub returns-in-Updatable-clause-read : goal.returns-in-Updatable-clause-read
returns-in-Updatable-clause-read g c = rw c.in-Updatable.is c.opened_over.ensures.read
