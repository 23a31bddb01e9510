-- Left open for actions_in: the clause refused, and that the loop keeps its invariant; answered by Taken.
use Rattle.sq_perform.proofs.Taken.{actions_more, first_untaken, prepared_more, taken_more}
use Rattle.sq_perform.proofs.prepare.actions_in.Goals as goal

pub returns-in-Err-clause-refused : goal.returns-in-Err-clause-refused
returns-in-Err-clause-refused g c =
    let same = c.as_slice-items.ensures in
    first_untaken c.args.session.now c.args.script.now c.args.tree.now c.loop-place.place c.index-items-place.result c.in-Err.fault c.refused_item.result c.requires
    (rw same at c.loop-place-test.true) (rw same at c.index-items-place.is) (rw same at c.loop-place.invariant.taken)
    c.in-Err.ensures.refused c.refused_item.ensures

pub loop-place-preserved : goal.loop-place-preserved
loop-place-preserved g c =
    let items = c.as_slice-items.result.now in
    let before = c.loop-place.invariant in
    let lt = c.loop-place-test.true in
    let is = c.index-items-place.is in
    rw c.in_ok-push-in-Ok.ensures.items
    (record {
      are = actions_more c.args.session.now items c.loop-place.place c.index-items-place.result c.loop-place.actions.items c.in-Ok.action lt is before.are c.in-Ok.ensures.action;
      prepared = prepared_more c.args.session.now c.loop-place.actions.items c.in-Ok.action before.prepared c.in-Ok.ensures.prepared;
      taken = taken_more c.args.session.now items c.loop-place.place c.index-items-place.result lt is before.taken c.in-Ok.ensures.taken;
    })
