-- Left open for opened_over: what the call of opened_walk asks for; answered by Holding.
use Rattle.sq_session.proofs.Lasting.Holding.{target_there}
use Rattle.sq_session.proofs.open.opened_over.Goals as goal

pub opened_walk-requires : goal.opened_walk-requires
opened_walk-requires g c =
    target_there c.args.called.now.catalog.now.bases (g.S.Store.content_now c.args.store.now) c.args.target.now c.requires.tables.tables c.requires.base
