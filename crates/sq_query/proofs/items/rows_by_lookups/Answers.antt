-- Left open for rows_by_lookups: that the loop-counts keep their invariants; answered by Grown.
use Rattle.sq_query.specs.Items.{IsReadOf}
use Rattle.sq_query.proofs.FoundByKey.Grown.{grown_more, grown_none}
use Rattle.sq_query.proofs.items.rows_by_lookups.Goals as goal

pub loop-count-init : goal.loop-count-init
loop-count-init g c =
    let Step = IsReadOf c.args.query.now c.args.inner.now (g.S.Store.content_now c.args.store.now) (g.S.Store.key_columns c.args.store.now) c.args.around.now c.args.call.now.parameters.now c.args.call.now.user in
    grown_none Step c.args.before.items

pub loop-count-preserved : goal.loop-count-preserved
loop-count-preserved g c =
    let Step = IsReadOf c.args.query.now c.args.inner.now (g.S.Store.content_now c.args.store.now) (g.S.Store.key_columns c.args.store.now) c.args.around.now c.args.call.now.parameters.now c.args.call.now.user in
    grown_more Step c.args.before.items c.loop-count.found.items c.in_ok-found.found.items c.loop-count.invariant c.in_ok-found.ensures.found
