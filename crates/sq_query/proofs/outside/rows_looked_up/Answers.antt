-- Left open for rows_looked_up: the clause found; answered by KnownRows.
use Rattle.std.proofs.Common.{[]}
use Rattle.sq_query.proofs.FoundByKey.KnownRows.{then_outside}
use Rattle.sq_query.proofs.outside.rows_looked_up.Goals as goal

pub returns-clause-found : goal.returns-clause-found
returns-clause-found g c =
    then_outside c.args.query.now (g.S.Store.content_now c.args.store.now) (g.S.Store.key_columns c.args.store.now) c.args.call.now.parameters.now c.args.call.now.user
    c.new-nowhere.result [] c.in_ok-first.first.items c.with_select-found.result c.in_ok-first.ensures.found c.with_select-found.ensures.found
