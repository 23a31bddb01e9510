-- Left open: the call of trace_action, the clause traced, and the loop's invariant; answered by SoFar.
use Rattle.std.proofs.Common.{◌∙◌, ◌+◌}
use Rattle.sq_perform.proofs.Prepared.{prepared_at}
use Rattle.sq_show.specs.Traced.{Told}
use Rattle.sq_show.proofs.SoFar.{traced_first, traced_more}
use Rattle.sq_show.proofs.trace.trace_all.Goals as goal

pub trace_action-requires : goal.trace_action-requires
trace_action-requires g c =
    prepared_at c.args.actions.now c.loop-done.done c.index-actions-done.result c.args.session.now c.loop-done.session
    c.loop-done-test.true c.index-actions-done.is c.loop-done.invariant.procedures c.loop-done.invariant.tables c.requires.prepared

pub returns-then-options-clause-traced : goal.returns-then-options-clause-traced
returns-then-options-clause-traced g c =
    let taken = g.W.Out.taken in
    let told : Told c.index-actions-done.result c.loop-done.session c.as_slice.result.now c.trace_action.new.session c.in-Ok.fails =
    rw c.as_slice.ensures.value c.in-Ok.ensures.told in
    traced_first c.args.actions.now (c.loop-done.done + 1) c.args.session.now c.trace_action.new.session (taken c.args.out.now) (taken c.write_whole.new.out)
    (traced_more c.args.actions.now c.loop-done.done c.index-actions-done.result c.args.session.now c.loop-done.session c.trace_action.new.session
    (taken c.args.out.now) (taken c.loop-done.out) (taken c.write_whole.new.out) c.as_slice.result.now c.in-Ok.fails
    c.loop-done-test.true c.index-actions-done.is c.loop-done.invariant.so_far told c.in_default-write_whole.ensures.ok)

pub loop-done-preserved : goal.loop-done-preserved
loop-done-preserved g c =
    let taken = g.W.Out.taken in
    let told : Told c.index-actions-done.result c.loop-done.session c.as_slice.result.now c.trace_action.new.session c.in-Ok.fails =
    rw c.as_slice.ensures.value c.in-Ok.ensures.told in
    record {
      so_far = traced_more c.args.actions.now c.loop-done.done c.index-actions-done.result c.args.session.now c.loop-done.session c.trace_action.new.session
          (taken c.args.out.now) (taken c.loop-done.out) (taken c.write_whole.new.out) c.as_slice.result.now c.in-Ok.fails
          c.loop-done-test.true c.index-actions-done.is c.loop-done.invariant.so_far told c.in_default-write_whole.ensures.ok;
      open_yet = c.in_default-write_whole.ensures.still;
      procedures = c.trace_action.ensures.procedures ∙ c.loop-done.invariant.procedures;
      tables = c.trace_action.ensures.tables ∙ c.loop-done.invariant.tables;
    }
