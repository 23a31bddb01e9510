-- Left open for Processor::session: its result; answered without a law.
use Rattle.std.proofs.Common.{subst}
use Rattle.sq_run.specs.Beside.{IsBeside}
use Rattle.sq_run.specs.Processor.{Machine}
use Rattle.sq_run.proofs.machine.Processor.session.Goals as goal

pub returns : goal.returns
returns g c =
    let here = c.self.inside in
    subst (λ (m : Machine). IsBeside here.session m) c.self.view_is c.self.invariant
