-- Left open for key_of_condition: the clauses memory and known; answered by KeyValues and KeysOn.
use Rattle.sq_query.proofs.Keys.KeyValues.{handed_memory}
use Rattle.sq_query.proofs.Keys.KeysOn.{key_of_row}
use Rattle.sq_query.proofs.named_keys.key_of_condition.Goals as goal

pub returns-in_err-known-clause-memory : goal.returns-in_err-known-clause-memory
returns-in_err-known-clause-memory g c = λ columns parameters stands given.
    handed_memory c.from_residual.result c.in_err-known.field-0.0 c.from_residual.ensures.1 (c.in_err-known.ensures.memory columns parameters stands given)

pub returns-in-None-clause-known : goal.returns-in-None-clause-known
returns-in-None-clause-known g c =
    let store = c.args.store.now in
    key_of_row c.args.base c.args.condition.now (g.S.Store.content_now store) (g.S.Store.key_columns store) c.args.call.now.parameters.now c.args.call.now.user c.row_of.result c.row_of.ensures c.requires.there c.itself.result c.itself.ensures.base c.itself.ensures.through c.key_by_tests.result
    c.key_by_tests.ensures.known
