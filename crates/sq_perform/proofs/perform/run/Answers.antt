-- Left open for run: the clauses report, stopped, refused and failed; answered by Wrote.
use Rattle.std.proofs.Common.{sym, ◌∙◌}
use Rattle.sq_perform.specs.Texts.{texts}
use Rattle.sq_perform.proofs.Wrote.{opening_refused, opening_writes_none, opening_wrote, refused_some, wrote_all, wrote_some}
use Rattle.sq_perform.proofs.perform.run.Goals as goal

-- ---- a session is made

pub returns-in-Ok-clause-report : goal.returns-in-Ok-clause-report
returns-in-Ok-clause-report g c =
    wrote_all c.args.limits.row_numbers (texts c.args.schemas.now) (texts c.args.modules.now) c.args.script.now c.in-Ok.session (g.W.Out.taken c.args.out.now) (g.W.Out.taken c.run_script.new.out) c.run_script.result
    c.in-Ok.ensures.opened c.run_script.ensures.report

pub returns-in-Ok-clause-stopped : goal.returns-in-Ok-clause-stopped
returns-in-Ok-clause-stopped g c =
    wrote_some c.args.limits.row_numbers (texts c.args.schemas.now) (texts c.args.modules.now) c.args.script.now c.in-Ok.session (g.W.Out.taken c.args.out.now) (g.W.Out.taken c.run_script.new.out) c.run_script.result
    c.in-Ok.ensures.opened c.run_script.ensures.stopped

pub returns-in-Ok-clause-refused : goal.returns-in-Ok-clause-refused
returns-in-Ok-clause-refused g c =
    refused_some c.args.limits.row_numbers (texts c.args.schemas.now) (texts c.args.modules.now) c.args.script.now c.in-Ok.session (g.W.Out.taken c.args.out.now) (g.W.Out.taken c.run_script.new.out) c.run_script.result
    c.in-Ok.ensures.opened c.run_script.ensures.stopped

-- ---- none is made

pub returns-in-Err-clause-stopped : goal.returns-in-Err-clause-stopped
returns-in-Err-clause-stopped g c =
    opening_wrote c.args.limits.row_numbers (texts c.args.schemas.now) (texts c.args.modules.now) c.args.script.now (g.W.Out.taken c.args.out.now) c.in-Err.fault c.in-Err.ensures.refused

pub returns-in-Err-clause-failed : goal.returns-in-Err-clause-failed
returns-in-Err-clause-failed g c =
    c.requires.open_out ∙ sym (opening_writes_none (texts c.args.schemas.now) (texts c.args.modules.now) c.in-Err.fault c.in-Err.ensures.refused)

pub returns-in-Err-clause-refused : goal.returns-in-Err-clause-refused
returns-in-Err-clause-refused g c =
    opening_refused c.args.limits.row_numbers (texts c.args.schemas.now) (texts c.args.modules.now) c.args.script.now c.in-Err.fault c.in-Err.ensures.refused
