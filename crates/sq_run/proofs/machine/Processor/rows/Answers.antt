-- Left open for Processor::rows: its result; answered by BesideLaws.
use Rattle.std.proofs.Common.{ap, ◌∙◌}
use Rattle.sq_run.specs.Processor.{Machine, rows_of}
use Rattle.sq_run.proofs.Steps.BesideLaws.{rows_is}
use Rattle.sq_run.proofs.machine.Processor.rows.Goals as goal

pub returns : goal.returns
returns g c =
    let here = c.self.inside in
    c.rows.ensures ∙ rows_is here.session here.counterpart.machine c.self.invariant c.args.user c.args.name
    ∙ ap (λ (m : Machine). rows_of m c.args.user c.args.name) c.self.view_is
