-- Left open for Processor::fits: its result; answered by BesideLaws.
use Rattle.std.proofs.Common.{ap, ◌∙◌}
use Rattle.sq_run.specs.Processor.{Machine, takes}
use Rattle.sq_run.proofs.Steps.BesideLaws.{fits_is}
use Rattle.sq_run.proofs.machine.Processor.fits.Goals as goal

pub returns : goal.returns
returns g c =
    let here = c.self.inside in
    c.fits.ensures ∙ fits_is here.session here.counterpart.machine c.self.invariant c.args.procedure c.args.values.now
    ∙ ap (λ (m : Machine). takes m.program c.args.procedure c.args.values.now) c.self.view_is
