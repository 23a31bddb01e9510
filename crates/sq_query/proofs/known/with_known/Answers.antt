-- Left open for with_known: the clause found; answered by KnownRows.
use Rattle.sq_query.proofs.FoundByKey.KnownRows.{none_serve}
use Rattle.sq_query.proofs.known.with_known.Goals as goal

pub returns-in_default-clause-found : goal.returns-in_default-clause-found
returns-in_default-clause-found g c = none_serve c.args.query.now (g.S.Store.content_now c.args.store.now) (g.S.Store.key_columns c.args.store.now) c.args.call.now.parameters.now c.args.call.now.user c.args.before.items
