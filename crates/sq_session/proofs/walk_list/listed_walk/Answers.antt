-- Left open for listed_walk: what the call of rest_of_walk asks for; answered by QuietWalks.
use Rattle.std.proofs.Common.{subst}
use Rattle.sq_bound.specs.Fits.{FitsBody}
use Rattle.sq_bound.specs.declared.query.CursorBody.{CursorBody}
use Rattle.sq_session.proofs.Walks.QuietWalks.{are_under, over_that}
use Rattle.sq_session.proofs.walk_list.listed_walk.Goals as goal

pub rest_of_walk-requires-clause-rows : goal.rest_of_walk-requires-clause-rows
rest_of_walk-requires-clause-rows g c =
    let bases = c.args.called.now.catalog.now.bases in
    let declared = c.args.declared.now in
    are_under bases (g.S.Store.content_now c.args.store.now) c.in-Updatable.query c.args.walk.now.table c.requires.domains
    (subst (λ (b : CursorBody). FitsBody bases b) c.in-Updatable.is c.requires.fit)
    (over_that declared.cursor c.in-Updatable.query c.args.walk.now.table c.in-Updatable.is c.requires.over)
