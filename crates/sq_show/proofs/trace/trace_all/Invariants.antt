use Rattle.std.proofs.Common.{◌≡◌, false}
use Rattle.sq_show.proofs.SoFar.{SoFar}
use Rattle.sq_show.proofs.trace.trace_all.Given as goal

abbrev pub invariant-loop-done : goal.invariant-loop-done
invariant-loop-done g l =
    let first = l.initial.session in
    let taken = g.W.Out.taken in
    record {
      so_far : SoFar l.actions l.done first l.session (taken l.initial.out) (taken l.out);
      open_yet : g.W.Out.failed l.out ≡ false;
      procedures : l.session.procedures ≡ first.procedures;
      tables : l.session.tables ≡ first.tables;
    }
