-- Left open for run_script: the clauses report and stopped; answered by Wrote.
use Rattle.sq_perform.proofs.Wrote.{performed_all, performed_some}
use Rattle.sq_perform.proofs.perform.run_script.Goals as goal

pub returns-in-Ok-clause-report : goal.returns-in-Ok-clause-report
returns-in-Ok-clause-report g c =
    performed_all c.args.script.now c.args.session.now c.in-Ok.actions.items (g.W.Out.taken c.args.out.now) (g.W.Out.taken c.perform_all.new.out) c.perform_all.result
    c.in-Ok.ensures.asked (rw c.as_slice.ensures.value at c.perform_all.ensures.report)

pub returns-in-Ok-clause-stopped : goal.returns-in-Ok-clause-stopped
returns-in-Ok-clause-stopped g c =
    performed_some c.args.script.now c.args.session.now c.in-Ok.actions.items (g.W.Out.taken c.args.out.now) (g.W.Out.taken c.perform_all.new.out) c.perform_all.result
    c.in-Ok.ensures.asked (rw c.as_slice.ensures.value at c.perform_all.ensures.stopped)
