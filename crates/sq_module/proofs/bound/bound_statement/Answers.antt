-- Left open for bound_statement: the clauses fits, well_formed and written; answered by Standing.
use Rattle.sq_module.proofs.Standing.{over_bases, statement_fits, statement_stands, statement_written}
use Rattle.sq_module.proofs.bound.bound_statement.Goals as goal

pub returns-clause-fits : goal.returns-clause-fits
returns-clause-fits c =
    let cursors = c.args.cursors.now in
    statement_fits c.args.catalog.now c.args.user c.names_stand.ensures c.args.parameters.now cursors.cursors.now cursors.numbers.now.entries cursors.there c.args.statement.now c.bind_statement.result c.bind_statement.ensures.binds (c.bind_statement.ensures.there c.args.catalog.now.bases (over_bases c.args.catalog.now c.args.user c.names_stand.ensures))

pub returns-clause-well_formed : goal.returns-clause-well_formed
returns-clause-well_formed c =
    let cursors = c.args.cursors.now in
    statement_stands c.args.catalog.now c.args.user c.names_stand.ensures c.args.parameters.now cursors.cursors.now cursors.numbers.now.entries cursors.there c.args.statement.now c.bind_statement.result c.bind_statement.ensures.binds (c.bind_statement.ensures.there c.args.catalog.now.bases (over_bases c.args.catalog.now c.args.user c.names_stand.ensures))

pub returns-clause-written : goal.returns-clause-written
returns-clause-written c =
    let cursors = c.args.cursors.now in
    statement_written c.args.catalog.now c.args.user c.names_stand.ensures c.args.parameters.now cursors.cursors.now cursors.numbers.now.entries cursors.there c.args.statement.now c.bind_statement.result c.bind_statement.ensures.binds (c.bind_statement.ensures.there c.args.catalog.now.bases (over_bases c.args.catalog.now c.args.user c.names_stand.ensures))
