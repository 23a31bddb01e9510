use Rattle.std.proofs.Common.{◌≡◌}
use Rattle.sq_show.proofs.Paging.{PageSoFar}
use Rattle.sq_show.proofs.page.push_items.Given as goal

abbrev pub invariant-loop-place : goal.invariant-loop-place
invariant-loop-place g l =
    let first = l.initial.session in
    record {
      so_far : PageSoFar l.actions l.place first l.initial.page.items l.page.items l.session;
      procedures : l.session.procedures ≡ first.procedures;
      tables : l.session.tables ≡ first.tables;
    }
