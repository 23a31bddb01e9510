-- Left open for Processor::procedure: its result; answered by BesideLaws.
use Rattle.std.proofs.Common.{ap, ◌∙◌}
use Rattle.sq_run.specs.Processor.{Machine, number_of}
use Rattle.sq_run.proofs.Steps.BesideLaws.{number_is}
use Rattle.sq_run.proofs.machine.Processor.procedure.Goals as goal

pub returns : goal.returns
returns g c =
    let here = c.self.inside in
    c.procedure.ensures ∙ number_is here.session here.counterpart.machine c.self.invariant c.args.«module» c.args.name
    ∙ ap (λ (m : Machine). number_of m.program c.args.«module» c.args.name) c.self.view_is
