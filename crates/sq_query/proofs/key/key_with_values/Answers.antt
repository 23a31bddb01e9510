-- Left open: the call of key_by_columns, and the clauses known, found and memory; answered by KeysOn and KnownKeys.
use Rattle.std.proofs.Common.{◌≡◌, ◌∙◌, List, [], ℕ, ap, get_or, subst}
use Rattle.std.proofs.lemmas.List.{get_or_read}
use Rattle.sq_store.specs.Keys.{key_at, keys_at}
use Rattle.sq_bound.specs.Keyed.{names_key}
use Rattle.sq_bound.specs.declared.condition.BoundCond.{out-BoundCond}
use Rattle.sq_bound.specs.declared.condition.BoundTest.{BoundTest}
use Rattle.sq_query.specs.Key.{AreFirstTests}
use Rattle.sq_query.specs.Keyed.{AreKnownEqual}
use Rattle.sq_query.proofs.Keys.KeysOn.{key_on}
use Rattle.sq_query.proofs.Keys.KnownKeys.{known_if}
use Rattle.sq_query.proofs.key.key_with_values.Goals as goal

pub key_by_columns-requires : goal.key_by_columns-requires
key_by_columns-requires g c =
    let keys = keys_at (g.S.Store.key_columns c.args.store.now) c.args.base in
    let columns = c.as_slice.result.now in
    let read : columns ≡ get_or keys c.args.key columns = cc (c.as_slice.ensures, c.index-keys-key.is, c.keys.ensures) in record {
      named = ap (λ (cs : List ℕ). names_key cs (out-BoundCond c.args.condition.now).terms) (get_or_read keys c.args.key columns c.requires.key read []) ∙ c.requires.named;
    }

pub returns-clause-known : goal.returns-clause-known
returns-clause-known g c =
    let store = c.args.store.now in
    let all = g.S.Store.key_columns store in
    let keys = keys_at all c.args.base in
    let columns = c.as_slice.result.now in
    let read : columns ≡ get_or keys c.args.key columns = cc (c.as_slice.ensures, c.index-keys-key.is, c.keys.ensures) in
    key_on c.args.base c.args.condition.now (g.S.Store.content_now store) all c.args.call.now.parameters.now c.args.call.now.user c.args.key columns c.key_by_columns.result c.requires.there c.requires.key
    (get_or_read keys c.args.key columns c.requires.key read []) c.key_by_columns.ensures.known

pub returns-clause-found : goal.returns-clause-found
returns-clause-found g c =
    let all = g.S.Store.key_columns c.args.store.now in
    let keys = keys_at all c.args.base in
    let own = c.args.condition.now in
    let values = c.args.call.now.parameters.now in
    let user = c.args.call.now.user in
    let columns = c.as_slice.result.now in
    let read : columns ≡ get_or keys c.args.key columns = cc (c.as_slice.ensures, c.index-keys-key.is, c.keys.ensures) in
    let are = get_or_read keys c.args.key columns c.requires.key read [] in
    known_if c.key_by_columns.result ((tests : List BoundTest) → AreFirstTests columns own tests → AreKnownEqual tests values user)
    ((tests : List BoundTest) → AreFirstTests (key_at all c.args.base c.args.key) own tests → AreKnownEqual tests values user)
    (λ known tests firsts. known tests (subst (λ (cs : List ℕ). AreFirstTests cs own tests) are firsts)) c.key_by_columns.ensures.found

pub returns-clause-memory : goal.returns-clause-memory
returns-clause-memory g c = λ valued.
    let all = g.S.Store.key_columns c.args.store.now in
    let keys = keys_at all c.args.base in
    let own = c.args.condition.now in
    let columns = c.as_slice.result.now in
    let read : columns ≡ get_or keys c.args.key columns = cc (c.as_slice.ensures, c.index-keys-key.is, c.keys.ensures) in
    let are = get_or_read keys c.args.key columns c.requires.key read [] in
    c.key_by_columns.ensures.memory (λ tests firsts. valued tests (subst (λ (cs : List ℕ). AreFirstTests cs own tests) are firsts))
