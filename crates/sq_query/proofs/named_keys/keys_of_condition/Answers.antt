-- Left open for keys_of_condition: the clause known; answered by KeysOn.
use Rattle.sq_query.proofs.Keys.KeysOn.{keys_of_row}
use Rattle.sq_query.proofs.named_keys.keys_of_condition.Goals as goal

pub returns-clause-known : goal.returns-clause-known
returns-clause-known g c =
    let store = c.args.store.now in
    keys_of_row c.args.base c.args.condition.now (g.S.Store.content_now store) (g.S.Store.key_columns store) c.args.call.now.parameters.now c.args.call.now.user c.row_of.result c.row_of.ensures c.requires.there c.itself.result c.itself.ensures.base c.itself.ensures.through c.keys_by_tests.result
    c.keys_by_tests.ensures.known
