-- Left open for Session::fits: its result; answered by Named.
use Rattle.std.proofs.Common.{ap, map, sym, ◌∙◌}
use Rattle.sq_meaning.specs.Script.{fit}
use Rattle.sq_module.specs.declared.program.BoundProcedure.{BoundProcedure}
use Rattle.sq_module.specs.declared.program.ProcedureName.{ProcedureName}
use Rattle.sq_session.specs.Kind.{fits_at}
use Rattle.sq_session.specs.Parameter.{declared}
use Rattle.sq_session.proofs.Calls.Named.{fits_are}
use Rattle.sq_session.proofs.session.Session.fits.Goals as goal

pub returns-in-Some : goal.returns-in-Some
returns-in-Some g c =
    let entries = c.self.inside.program.procedures.entries in
    let entry : ProcedureName × BoundProcedure = (c.in-Some.field-0-0.now, c.in-Some.procedure.now) in
    c.all_fit.ensures ∙ ap (λ ps. fit (map declared ps) c.args.values.now) c.as_slice.ensures
    ∙ sym (fits_are c.self.inside.program.cursors.items entries c.args.procedure entry c.args.values.now (sym c.in-Some.ensures.entry))
    ∙ ap (λ s. fits_at s.procedures c.args.procedure c.args.values.now) c.self.view_is
