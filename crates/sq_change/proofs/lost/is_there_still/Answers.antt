-- Left open for is_there_still: what the call of find_key asks for; answered by Held.
use Rattle.sq_change.proofs.Changes.Held.{table_of_key}
use Rattle.sq_change.proofs.lost.is_there_still.Goals as goal

pub find_key-requires-clause-table : goal.find_key-requires-clause-table
find_key-requires-clause-table g c =
    let store = c.args.store.now in
    let reference = c.args.reference.now in
    table_of_key (g.S.Store.key_columns store) (g.S.Store.content_now store) reference.table reference.key (g.met.S.Store.keyed store) c.requires
