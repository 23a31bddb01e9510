-- Left open: the call of perform, the clause added, and the loop's invariant; answered by Adding and Noting.
use Rattle.std.proofs.Common.{◌≡◌, ◌++◌, ap, ◌∙◌, refl, length, arith}
use Rattle.sq_perform.proofs.Prepared.{prepared_at}
use Rattle.sq_show.proofs.Adding.{adds_all, adds_more, adds_none}
use Rattle.sq_show.proofs.Noting.{notes_more, notes_none}
use Rattle.sq_show.proofs.shell.Shell.perform_all.Goals as goal

pub perform-requires : goal.perform-requires
perform-requires g c =
    prepared_at c.args.actions.now c.loop-action.action-index c.action-item.result c.args.self.now.session c.loop-action.self.session
    c.loop-action-test.true c.action-item.is c.loop-action.invariant.procedures c.loop-action.invariant.tables c.requires

pub loop-action-init : goal.loop-action-init
loop-action-init g c = record {
  done = adds_none c.args.self.now.session c.args.report.now.items;
  procedures = refl;
  tables = refl;
  script = refl;
  notes = notes_none c.args.notes.now.items;
}

pub loop-action-preserved : goal.loop-action-preserved
loop-action-preserved g c = record {
  done = adds_more c.args.actions.now c.loop-action.action-index c.action-item.result c.args.self.now.session c.loop-action.self.session c.perform.new.self.session
      c.args.report.now.items c.loop-action.report.items c.extend_from_slice.new.self.items c.perform.new.lines.items
      c.loop-action-test.true c.action-item.is c.loop-action.invariant.done c.in_ok-perform.ensures.step
      (c.in_ok-extend_from_slice.ensures.items ∙ ap (λ b. c.loop-action.report.items ++ b) c.as_slice.ensures.value);
  procedures = c.perform.ensures.procedures ∙ c.loop-action.invariant.procedures;
  tables = c.perform.ensures.tables ∙ c.loop-action.invariant.tables;
  script = c.perform.ensures.script ∙ c.loop-action.invariant.script;
  notes = notes_more c.args.notes.now.items c.loop-action.notes.items c.perform.new.notes.items c.loop-action.invariant.notes c.in_ok-perform.ensures.notes;
}

pub returns-clause-added : goal.returns-clause-added
returns-clause-added g c =
    let all : c.loop-action.action-index ≡ length c.args.actions.now = omega arith in
    adds_all c.args.actions.now c.loop-action.action-index c.args.self.now.session c.loop-action.self.session c.args.report.now.items c.loop-action.report.items
    all c.loop-action.invariant.done
