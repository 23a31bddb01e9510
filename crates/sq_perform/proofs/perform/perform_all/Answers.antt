-- Left open: the call of perform, the clause stopped, and the loop's invariant; answered by Prepared and Steps.
use Rattle.std.proofs.Common.{◌≡◌, ap, sym, ◌∙◌, arith, length}
use Rattle.sq_perform.specs.Steps.{Step}
use Rattle.sq_perform.proofs.Prepared.{prepared_at}
use Rattle.sq_perform.proofs.Steps.{stopped_memory, stopped_write, wrote_more}
use Rattle.sq_perform.proofs.perform.perform_all.Goals as goal

pub perform-requires : goal.perform-requires
perform-requires g c =
    prepared_at c.args.actions.now c.loop-done.done c.index-actions-done.result c.args.session.now c.loop-done.session
    c.loop-done-test.true c.index-actions-done.is c.loop-done.invariant.procedures c.loop-done.invariant.tables c.requires.prepared

pub returns-in_default-clause-stopped : goal.returns-in_default-clause-stopped
returns-in_default-clause-stopped g c =
    let taken = g.W.Out.taken in
    stopped_memory c.args.actions.now c.loop-done.done c.args.session.now c.loop-done.session c.loop-done.written (taken c.args.out.now) (taken c.loop-done.out)
    c.loop-done-test.true c.loop-done.invariant.so_far c.loop-done.invariant.untouched

pub returns-in-Err-clause-stopped : goal.returns-in-Err-clause-stopped
returns-in-Err-clause-stopped g c =
    let taken = g.W.Out.taken in
    let step : Step c.index-actions-done.result c.loop-done.session c.as_slice.result.now c.perform.new.session = rw c.as_slice.ensures.value c.in-Ok.ensures.step in
    stopped_write c.args.actions.now c.loop-done.done c.index-actions-done.result c.args.session.now c.loop-done.session c.perform.new.session c.in-Err.taken c.loop-done.written
    (taken c.args.out.now) (taken c.loop-done.out) (taken c.write_whole.new.out) c.as_slice.result.now
    c.loop-done-test.true c.index-actions-done.is c.loop-done.invariant.so_far step c.in-Err.ensures.within c.in-Err.ensures.fault

pub loop-done-preserved : goal.loop-done-preserved
loop-done-preserved g c =
    let taken = g.W.Out.taken in
    let step : Step c.index-actions-done.result c.loop-done.session c.as_slice.result.now c.perform.new.session = rw c.as_slice.ensures.value c.in-Ok.ensures.step in
    let size : c.len.result ≡ length c.as_slice.result.now = c.len.ensures ∙ c.perform.new.lines.ok.0 ∙ ap length (sym c.as_slice.ensures.value) in
    record {
      so_far = wrote_more c.args.actions.now c.loop-done.done c.index-actions-done.result c.args.session.now c.loop-done.session c.perform.new.session c.loop-done.written c.len.result
          (taken c.args.out.now) (taken c.loop-done.out) (taken c.write_whole.new.out) c.as_slice.result.now
          c.loop-done-test.true c.index-actions-done.is c.loop-done.invariant.so_far step size c.in_default-write_whole.ensures.ok;
      untouched = λ none. absurd (omega arith);
      small = omega (arith, c.loop-done.invariant.small);
      open_yet = c.in_default-write_whole.ensures.still;
      procedures = c.perform.ensures.procedures ∙ c.loop-done.invariant.procedures;
      tables = c.perform.ensures.tables ∙ c.loop-done.invariant.tables;
    }
