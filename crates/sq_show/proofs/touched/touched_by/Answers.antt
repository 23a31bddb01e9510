-- Left open for touched_by: what the call of by_statement asks for; answered by laws of sq_session and std.
use Rattle.std.proofs.Common.{◌≡◌, true, ap, sym, ◌∙◌, arith}
use Rattle.std.proofs.lemmas.Grind.{common_steps}
use Rattle.sq_catalog.specs.Catalog.{column_kinds}
use Rattle.sq_module.specs.declared.program.BoundProcedure.{BoundProcedure}
use Rattle.sq_module.specs.declared.program.ProcedureName.{ProcedureName}
use Rattle.sq_session.specs.Kind.{fits_at}
use Rattle.sq_session.proofs.Calls.Found.{asked_at}
use Rattle.sq_session.proofs.Calls.Named.{fits_are}
use Rattle.sq_show.proofs.touched.touched_by.Goals as goal

pub by_statement-requires-clause-asked : goal.by_statement-requires-clause-asked
by_statement-requires-clause-asked g c =
    let inside = c.inside-inside.result in
    let entry : ProcedureName × BoundProcedure = (c.in-Some.field-0-0.now, c.in-Some.called.now) in
    let whole = c.inside-inside.ensures.whole in
    asked_at (column_kinds inside.catalog.now) inside.catalog.now.bases inside.program.now c.args.procedure entry c.in-Ok.statement (sym c.in-Some.ensures.entry) c.in-Ok.is whole.fits whole.well_formed

pub by_statement-requires-clause-values_fit : goal.by_statement-requires-clause-values_fit
by_statement-requires-clause-values_fit g c =
    let program = c.inside-inside.result.program.now in
    let entry : ProcedureName × BoundProcedure = (c.in-Some.field-0-0.now, c.in-Some.called.now) in
    let held : c.fits.result ≡ true = grind (arith, common_steps, c.if-not-fits.false) in
    sym (fits_are program.cursors.items program.procedures.entries c.args.procedure entry c.args.values.now (sym c.in-Some.ensures.entry))
    ∙ (ap (λ ps. fits_at ps c.args.procedure c.args.values.now) (sym c.inside-inside.ensures.procedures) ∙ (sym c.fits.ensures ∙ held))
