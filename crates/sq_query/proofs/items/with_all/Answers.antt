-- Left open for with_all: that the loops keep their invariants; answered by Grown.
use Rattle.sq_query.specs.Items.{IsReadOf}
use Rattle.sq_query.proofs.FoundByKey.Grown.{grown_more, grown_none}
use Rattle.sq_query.proofs.items.with_all.Goals as goal

pub loop-init : goal.loop-init
loop-init g c =
    let Step = IsReadOf c.args.query.now c.args.inner.now (g.S.Store.content_now c.args.store.now) (g.S.Store.key_columns c.args.store.now) c.args.around.now c.args.call.now.parameters.now c.args.call.now.user in
    grown_none Step c.args.before.items

pub loop-preserved : goal.loop-preserved
loop-preserved g c =
    let Step = IsReadOf c.args.query.now c.args.inner.now (g.S.Store.content_now c.args.store.now) (g.S.Store.key_columns c.args.store.now) c.args.around.now c.args.call.now.parameters.now c.args.call.now.user in
    grown_more Step c.args.before.items c.loop.found.items c.in_ok-found.found.items c.loop.invariant c.in_ok-found.ensures.found
