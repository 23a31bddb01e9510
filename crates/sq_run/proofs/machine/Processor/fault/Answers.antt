-- Left open for Processor::fault: its result; answered by BesideLaws.
use Rattle.std.proofs.Common.{ap, ◌∙◌}
use Rattle.std.specs.Prelude.{is_some}
use Rattle.sq_run.specs.Processor.{Machine, has_fault}
use Rattle.sq_run.proofs.Steps.BesideLaws.{fault_is}
use Rattle.sq_run.proofs.machine.Processor.fault.Goals as goal

pub returns : goal.returns
returns g c =
    let here = c.self.inside in
    ap is_some c.fault.ensures ∙ fault_is here.session here.counterpart.machine c.self.invariant c.args.procedure
    ∙ ap (λ (m : Machine). has_fault m.program c.args.procedure) c.self.view_is
