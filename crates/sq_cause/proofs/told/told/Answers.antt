-- Left open: the call of of_statement, and the clauses is and finds; answered by AlwaysFound and Causes.
use Rattle.std.proofs.Common.{◌≡◌, true, ap, sym, ◌∙◌, arith}
use Rattle.std.proofs.lemmas.Grind.{common_steps}
use Rattle.sq_catalog.specs.Catalog.{column_kinds}
use Rattle.sq_module.specs.declared.program.BoundProcedure.{BoundProcedure}
use Rattle.sq_module.specs.declared.program.ProcedureName.{ProcedureName}
use Rattle.sq_session.specs.Kind.{fits_at, kind_of}
use Rattle.sq_session.specs.Parameter.{started_values}
use Rattle.sq_session.specs.Schemas.{schemas_of}
use Rattle.sq_session.proofs.Calls.Found.{asked_at}
use Rattle.sq_session.proofs.Calls.Named.{fault_is, fits_are, kind_is}
use Rattle.sq_cause.proofs.AlwaysFound.{any_found, found_of_fault}
use Rattle.sq_cause.proofs.Causes.{as_read, of_call}
use Rattle.sq_cause.proofs.told.told.Goals as goal

pub of_statement-requires-clause-asked : goal.of_statement-requires-clause-asked
of_statement-requires-clause-asked g c =
    let inside = c.inside-inside.result in
    let entry : ProcedureName × BoundProcedure = (c.in-Some.field-0-0.now, c.in-Some.called.now) in
    let whole = c.inside-inside.ensures.whole in
    asked_at (column_kinds inside.catalog.now) inside.catalog.now.bases inside.program.now c.args.procedure entry c.in-Ok.statement (sym c.in-Some.ensures.entry) c.in-Ok.is whole.fits whole.well_formed

pub of_statement-requires-clause-values_fit : goal.of_statement-requires-clause-values_fit
of_statement-requires-clause-values_fit g c =
    let program = c.inside-inside.result.program.now in
    let entry : ProcedureName × BoundProcedure = (c.in-Some.field-0-0.now, c.in-Some.called.now) in
    let held : c.fits.result ≡ true = grind (arith, common_steps, c.if-not-fits.false) in
    sym (fits_are program.cursors.items program.procedures.entries c.args.procedure entry c.args.values.now (sym c.in-Some.ensures.entry))
    ∙ (ap (λ ps. fits_at ps c.args.procedure c.args.values.now) (sym c.inside-inside.ensures.procedures) ∙ (sym c.fits.ensures ∙ held))

pub returns-in-Err-clause-is : goal.returns-in-Err-clause-is
returns-in-Err-clause-is g c =
    let program = c.inside-inside.result.program.now in
    let entry : ProcedureName × BoundProcedure = (c.in-Some.field-0-0.now, c.in-Some.called.now) in
    rw c.inside-inside.ensures.procedures (fault_is program.cursors.items program.procedures.entries c.args.procedure entry c.in-Err.fault (sym c.in-Some.ensures.entry) c.in-Err.is)

pub returns-in-Err-clause-finds : goal.returns-in-Err-clause-finds
returns-in-Err-clause-finds g c =
    let program = c.inside-inside.result.program.now in
    let entry : ProcedureName × BoundProcedure = (c.in-Some.field-0-0.now, c.in-Some.called.now) in
    λ fits. found_of_fault c.args.session.now c.args.procedure c.args.values.now c.in-Err.fault c.args.status
    (rw c.inside-inside.ensures.procedures (fault_is program.cursors.items program.procedures.entries c.args.procedure entry c.in-Err.fault (sym c.in-Some.ensures.entry) c.in-Err.is))

pub returns-in-Ok-clause-is : goal.returns-in-Ok-clause-is
returns-in-Ok-clause-is g c =
    let inside = c.inside-inside.result in
    let program = inside.program.now in
    let called = c.in-Some.called.now in
    let entry : ProcedureName × BoundProcedure = (c.in-Some.field-0-0.now, called) in
    let kind = kind_is program.cursors.items program.procedures.entries c.args.procedure entry c.in-Ok.statement (sym c.in-Some.ensures.entry) c.in-Ok.is in
    let read = as_read (schemas_of inside.catalog.now) program.cursors.items called.user called.parameters c.in-Ok.statement c.args.values.now _ c.of_statement.result c.of_statement.ensures.is in
    of_call c.args.session.now c.args.procedure c.args.values.now (kind_of program.cursors.items called.user called.parameters c.in-Ok.statement) c.of_statement.result
    (rw c.inside-inside.ensures.procedures kind) (rw (c.inside-inside.ensures.schemas, c.inside-inside.ensures.state) read)

pub returns-in-Ok-clause-finds : goal.returns-in-Ok-clause-finds
returns-in-Ok-clause-finds g c =
    let inside = c.inside-inside.result in
    let program = inside.program.now in
    let called = c.in-Some.called.now in
    let entry : ProcedureName × BoundProcedure = (c.in-Some.field-0-0.now, called) in
    let kind = kind_is program.cursors.items program.procedures.entries c.args.procedure entry c.in-Ok.statement (sym c.in-Some.ensures.entry) c.in-Ok.is in
    λ fits. any_found c.args.session.now c.args.procedure c.args.values.now (started_values called.parameters c.args.values.now) (kind_of program.cursors.items called.user called.parameters c.in-Ok.statement) c.args.status c.of_statement.result
    (rw c.inside-inside.ensures.procedures kind) (rw (c.inside-inside.ensures.schemas, c.inside-inside.ensures.state) c.of_statement.ensures.finds)
