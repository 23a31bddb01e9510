-- Left open for Session::fault: its result; answered by Named.
use Rattle.std.proofs.Common.{ap, sym, ◌∙◌}
use Rattle.sq_module.specs.declared.program.BoundProcedure.{BoundProcedure}
use Rattle.sq_module.specs.declared.program.ProcedureName.{ProcedureName}
use Rattle.sq_session.specs.Kind.{fault_at}
use Rattle.sq_session.proofs.Calls.Named.{fault_is}
use Rattle.sq_session.proofs.session.Session.fault.Goals as goal

pub returns-in-Err : goal.returns-in-Err
returns-in-Err g c =
    let entries = c.self.inside.program.procedures.entries in
    let entry : ProcedureName × BoundProcedure = (c.in_ok-procedure.field-0-0.now, c.in_ok-procedure.procedure.now) in
    sym (fault_is c.self.inside.program.cursors.items entries c.args.procedure entry c.in-Err.fault (sym c.in_ok-procedure.ensures.entry) c.in-Err.is) ∙ ap (λ s. fault_at s.procedures c.args.procedure) c.self.view_is
