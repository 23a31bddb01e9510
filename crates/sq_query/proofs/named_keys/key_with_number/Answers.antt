-- Left open for key_with_number: the clause known; answered by KeysOn.
use Rattle.std.proofs.Common.{◌≡◌, [], get_or}
use Rattle.std.proofs.lemmas.List.{get_or_read}
use Rattle.sq_store.specs.Keys.{keys_at}
use Rattle.sq_query.specs.Asked.{IsFalseThrough}
use Rattle.sq_query.specs.Named.{IsFalseOf}
use Rattle.sq_query.proofs.Keys.KeysOn.{key_named}
use Rattle.sq_query.proofs.named_keys.key_with_number.Goals as goal

pub returns-clause-known : goal.returns-clause-known
returns-clause-known g c =
    let all = g.S.Store.key_columns c.args.store.now in
    let keys = keys_at all c.args.asked.now.base in
    let columns = c.as_slice.result.now in
    let read : columns ≡ get_or keys c.args.key columns = cc (c.as_slice.ensures, c.index-keys-key.is, c.keys.ensures) in
    key_named (IsFalseThrough c.args.asked.now.through (IsFalseOf c.args.sought.now c.args.sure c.args.call.now.parameters.now c.args.call.now.user c.args.condition.now)) all c.args.asked.now.base c.args.key columns c.key_if_named.result c.requires.key
    (get_or_read keys c.args.key columns c.requires.key read []) c.key_if_named.ensures.named
