-- Left open: the call of trace_action, the result, and the loop's invariant; answered by Paging.
use Rattle.std.proofs.Common.{◌∙◌, ◌+◌}
use Rattle.sq_perform.proofs.Prepared.{prepared_at}
use Rattle.sq_show.specs.Traced.{Told}
use Rattle.sq_show.proofs.Paging.{page_first, page_more}
use Rattle.sq_show.proofs.page.push_items.Goals as goal

pub trace_action-requires : goal.trace_action-requires
trace_action-requires g c =
    prepared_at c.args.actions.now c.loop-place.place c.index-actions-place.result c.args.session.now c.loop-place.session
    c.loop-place-test.true c.index-actions-place.is c.loop-place.invariant.procedures c.loop-place.invariant.tables c.requires

pub returns-then-options : goal.returns-then-options
returns-then-options g c =
    let told : Told c.index-actions-place.result c.loop-place.session c.as_slice.result.now c.trace_action.new.session c.in_ok-fails.fails =
    rw c.as_slice.ensures.value c.in_ok-fails.ensures.told in
    page_first c.args.options.stop c.args.actions.now (c.loop-place.place + 1) c.args.session.now c.trace_action.new.session c.args.page.now.items c.push_item.new.page.items
    c.if-options.true
    (page_more c.args.actions.now c.loop-place.place c.index-actions-place.result c.args.session.now c.loop-place.session c.trace_action.new.session
    c.args.page.now.items c.loop-place.page.items c.push_comma.new.page.items c.push_item.new.page.items c.as_slice.result.now c.in_ok-fails.fails
    c.loop-place-test.true c.index-actions-place.is c.loop-place.invariant.so_far told c.in_ok-push_comma.ensures c.in_ok-push_item.ensures)

pub loop-place-preserved : goal.loop-place-preserved
loop-place-preserved g c =
    let told : Told c.index-actions-place.result c.loop-place.session c.as_slice.result.now c.trace_action.new.session c.in_ok-fails.fails =
    rw c.as_slice.ensures.value c.in_ok-fails.ensures.told in
    record {
      so_far = page_more c.args.actions.now c.loop-place.place c.index-actions-place.result c.args.session.now c.loop-place.session c.trace_action.new.session
          c.args.page.now.items c.loop-place.page.items c.push_comma.new.page.items c.push_item.new.page.items c.as_slice.result.now c.in_ok-fails.fails
          c.loop-place-test.true c.index-actions-place.is c.loop-place.invariant.so_far told c.in_ok-push_comma.ensures c.in_ok-push_item.ensures;
      procedures = c.trace_action.ensures.procedures ∙ c.loop-place.invariant.procedures;
      tables = c.trace_action.ensures.tables ∙ c.loop-place.invariant.tables;
    }
