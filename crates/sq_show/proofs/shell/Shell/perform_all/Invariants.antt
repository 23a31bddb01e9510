use Rattle.std.proofs.Common.{◌≡◌, take}
use Rattle.sq_show.specs.Mark.{AddsNotes}
use Rattle.sq_show.specs.Taken.{Adds}
use Rattle.sq_show.proofs.shell.Shell.perform_all.Given as goal

abbrev pub invariant-loop-action : goal.invariant-loop-action
invariant-loop-action g l =
    let first = l.initial.self.session in
    record {
      done : Adds (take l.action-index l.actions) first l.initial.report.items l.report.items l.self.session;
      procedures : l.self.session.procedures ≡ first.procedures;
      tables : l.self.session.tables ≡ first.tables;
      script : l.self.script ≡ l.initial.self.script;
      notes : AddsNotes l.initial.notes.items l.notes.items;
    }
