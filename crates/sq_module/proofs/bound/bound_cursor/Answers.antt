-- Left open for bound_cursor: the clauses fits, well_formed and written; answered by Standing.
use Rattle.sq_module.proofs.Standing.{cursor_fits, cursor_stands, cursor_written}
use Rattle.sq_module.proofs.bound.bound_cursor.Goals as goal

pub returns-clause-fits : goal.returns-clause-fits
returns-clause-fits c =
    let bound = c.bind_cursor.ensures in
    cursor_fits c.args.catalog.now c.args.user c.names_stand.ensures c.args.parameters.now c.args.cursor.now c.bind_cursor.result bound.binds bound.under bound.columns

pub returns-clause-well_formed : goal.returns-clause-well_formed
returns-clause-well_formed c =
    let bound = c.bind_cursor.ensures in
    cursor_stands c.args.catalog.now c.args.user c.names_stand.ensures c.args.parameters.now c.args.cursor.now c.bind_cursor.result bound.binds bound.under bound.columns

pub returns-clause-written : goal.returns-clause-written
returns-clause-written c =
    let bound = c.bind_cursor.ensures in
    cursor_written c.args.catalog.now c.args.user c.names_stand.ensures c.args.parameters.now c.args.cursor.now c.bind_cursor.result bound.binds bound.under bound.columns
