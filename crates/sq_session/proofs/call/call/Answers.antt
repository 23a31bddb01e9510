-- Left open: the calls of index and perform_statement, the result, and the clauses step and read; answered by After, Ending and others.
use Rattle.std.proofs.Common.{refl, sym, ◌∙◌}
use Rattle.sq_catalog.specs.Catalog.{column_kinds}
use Rattle.sq_module.specs.declared.program.BoundProcedure.{BoundProcedure}
use Rattle.sq_module.specs.declared.program.ProcedureName.{ProcedureName}
use Rattle.sq_session.specs.Schemas.{schemas_of}
use Rattle.sq_session.specs.Step.{EndsRight, ending}
use Rattle.sq_session.proofs.Lasting.After.{after}
use Rattle.sq_session.proofs.Calls.Ending.{all_if}
use Rattle.sq_session.proofs.Calls.Found.{asked_at, no_kind_is}
use Rattle.sq_session.proofs.Calls.Named.{entry_of, fits_are, fits_there, kind_is}
use Rattle.sq_session.proofs.Calls.Metering.{call_read}
use Rattle.sq_session.proofs.Calls.Read.{as_read}
use Rattle.sq_session.proofs.Calls.Reading.{has_tables}
use Rattle.sq_session.proofs.call.call.Goals as goal

pub index-procedure-requires : goal.index-procedure-requires
index-procedure-requires g c =
    let program = c.args.program.now in
    fits_there program.cursors.items program.procedures.entries c.args.procedure c.args.values.now c.requires.values_fit

pub perform_statement-requires-clause-asked : goal.perform_statement-requires-clause-asked
perform_statement-requires-clause-asked g c =
    let program = c.args.program.now in
    let found = entry_of program.procedures.entries c.args.procedure c.index-procedure.result.now c.index-procedure.ensures in
    let entry : ProcedureName × BoundProcedure = (found.0, c.index-procedure.result.now) in
    asked_at (column_kinds c.args.catalog.now) c.args.catalog.now.bases program c.args.procedure entry c.in-Ok.statement found.1 c.in-Ok.is c.requires.session.fits c.requires.session.well_formed

pub perform_statement-requires-clause-values_fit : goal.perform_statement-requires-clause-values_fit
perform_statement-requires-clause-values_fit g c =
    let program = c.args.program.now in
    let found = entry_of program.procedures.entries c.args.procedure c.index-procedure.result.now c.index-procedure.ensures in
    let entry : ProcedureName × BoundProcedure = (found.0, c.index-procedure.result.now) in
    sym (fits_are program.cursors.items program.procedures.entries c.args.procedure entry c.args.values.now found.1) ∙ c.requires.values_fit

pub returns-in-Ok : goal.returns-in-Ok
returns-in-Ok g c =
    let entries = c.args.program.now.procedures.entries in
    let found = entry_of entries c.args.procedure c.index-procedure.result.now c.index-procedure.ensures in
    let entry : ProcedureName × BoundProcedure = (found.0, c.index-procedure.result.now) in
    let cursors = c.args.program.now.cursors.items in
    let kind = kind_is cursors entries c.args.procedure entry c.in-Ok.statement found.1 c.in-Ok.is in
    let schemas = schemas_of c.args.catalog.now in
    let read = as_read schemas cursors entry.1.user entry.1.parameters c.in-Ok.statement c.args.values.now c.args.machine.now (ending c.perform_statement.result) _ c.perform_statement.ensures.performed.step in
    let step = all_if _ EndsRight _ (ending c.perform_statement.result) read c.perform_statement.ensures.performed.right (has_tables c.args.catalog.now c.args.machine.now.tables) in
    let kept = after schemas (column_kinds c.args.catalog.now) c.args.catalog.now.bases cursors entry.1.user entry.1.parameters c.in-Ok.statement _ c.args.machine.now c.perform_statement.result c.perform_statement.new.machine c.requires.session.whole c.perform_statement.ensures.left c.perform_statement.ensures.performed.step c.perform_statement.ensures.err in
    let read = call_read cursors entry.1.user entry.1.parameters c.in-Ok.statement c.args.values.now c.args.machine.now (ending c.perform_statement.result) _ c.perform_statement.ensures.performed.read in
    record { step = rw kind step; whole = kept; err = c.perform_statement.ensures.err; memory = rw kind c.perform_statement.ensures.memory; read = rw kind read }

pub returns-in-Err-clause-step : goal.returns-in-Err-clause-step
returns-in-Err-clause-step g c =
    let program = c.args.program.now in
    let found = entry_of program.procedures.entries c.args.procedure c.index-procedure.result.now c.index-procedure.ensures in
    let entry : ProcedureName × BoundProcedure = (found.0, c.index-procedure.result.now) in
    rw (no_kind_is program.cursors.items program.procedures.entries c.args.procedure entry c.in-Err.field-0 found.1 c.in-Err.is) (refl, refl)

pub returns-in-Err-clause-read : goal.returns-in-Err-clause-read
returns-in-Err-clause-read g c =
    let program = c.args.program.now in
    let found = entry_of program.procedures.entries c.args.procedure c.index-procedure.result.now c.index-procedure.ensures in
    let entry : ProcedureName × BoundProcedure = (found.0, c.index-procedure.result.now) in
    rw (no_kind_is program.cursors.items program.procedures.entries c.args.procedure entry c.in-Err.field-0 found.1 c.in-Err.is) tt
