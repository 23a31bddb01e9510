-- Left open for write_ways: what the call of write_of_statement asks for; answered by WaysFound and Found.
use Rattle.std.proofs.Common.{sym}
use Rattle.sq_bound.specs.WellFormed.{kinds_of_parameters}
use Rattle.sq_catalog.specs.Catalog.{bases_there, column_kinds}
use Rattle.sq_module.specs.Program.{kinds_of_cursors}
use Rattle.sq_module.specs.declared.program.BoundProcedure.{BoundProcedure}
use Rattle.sq_module.specs.declared.program.ProcedureName.{ProcedureName}
use Rattle.sq_session.proofs.Calls.Found.{asked_at}
use Rattle.sq_show.proofs.WaysFound.{cursors_find, statement_finds}
use Rattle.sq_show.proofs.ways.write_ways.Goals as goal

pub write_of_statement-requires-clause-finds : goal.write_of_statement-requires-clause-finds
write_of_statement-requires-clause-finds g c =
    let inside = c.inside-inside.result in
    let catalog = inside.catalog.now in
    let program = inside.program.now in
    let entry : ProcedureName × BoundProcedure = (c.in-Some-get_index.field-0-0.now, c.in-Some-get_index.procedure.now) in
    let whole = c.inside-inside.ensures.whole in
    let asked = asked_at (column_kinds catalog) catalog.bases program c.in-Some.number entry c.in-Ok.statement (sym c.in-Some-get_index.ensures.entry) c.in-Ok.is whole.fits whole.well_formed in
    statement_finds catalog.bases (column_kinds catalog) (bases_there catalog) (kinds_of_cursors program.cursors.items) (kinds_of_parameters entry.1.parameters) c.in-Ok.statement
    asked.well_formed

pub write_of_statement-requires-clause-cursors : goal.write_of_statement-requires-clause-cursors
write_of_statement-requires-clause-cursors g c =
    let inside = c.inside-inside.result in
    let catalog = inside.catalog.now in
    cursors_find catalog.bases (column_kinds catalog) (bases_there catalog) inside.program.now.cursors.items c.inside-inside.ensures.whole.well_formed.0
