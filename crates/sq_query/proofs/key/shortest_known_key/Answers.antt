-- Left open: the call of key_with_values, and the clauses known, memory and found; answered by KeyNames, KeyValues, KnownKeys and others.
use Rattle.std.proofs.Common.{List, subst}
use Rattle.sq_store.specs.Keys.{Keys, key_at, keys_at}
use Rattle.sq_bound.specs.Keyed.{IsShortestKey}
use Rattle.sq_bound.specs.declared.condition.BoundTest.{BoundTest}
use Rattle.sq_bound.specs.declared.condition.TablePlace.TheVariants.{Base}
use Rattle.sq_query.specs.Key.{AreFirstTests}
use Rattle.sq_query.specs.Keyed.{AreKnownEqual, IsKeyedBy}
use Rattle.sq_query.proofs.Keys.KeyNames.{shortest_known, shortest_names}
use Rattle.sq_query.proofs.Keys.KeyValues.{first_tests_valued}
use Rattle.sq_query.proofs.Keys.KnownKeys.{known_if}
use Rattle.sq_query.proofs.Keys.ShortestKnown.{known_by_shortest, named_by_none}
use Rattle.sq_query.proofs.key.shortest_known_key.Goals as goal

pub key_with_values-requires-clause-key : goal.key_with_values-requires-clause-key
key_with_values-requires-clause-key g c =
    let own = c.args.condition.now in
    (shortest_names (keys_at (g.S.Store.key_columns c.args.store.now) c.args.base) own c.in-Some.key c.shortest_key.result
    (subst (λ (ks : Keys). IsShortestKey ks own c.shortest_key.result) c.keys.ensures c.shortest_key.ensures) c.in-Some.is).0

pub key_with_values-requires-clause-named : goal.key_with_values-requires-clause-named
key_with_values-requires-clause-named g c =
    let own = c.args.condition.now in
    (shortest_names (keys_at (g.S.Store.key_columns c.args.store.now) c.args.base) own c.in-Some.key c.shortest_key.result
    (subst (λ (ks : Keys). IsShortestKey ks own c.shortest_key.result) c.keys.ensures c.shortest_key.ensures) c.in-Some.is).1

pub returns-in-Some-clause-known : goal.returns-in-Some-clause-known
returns-in-Some-clause-known g c =
    shortest_known c.args.base c.args.condition.now (g.S.Store.content_now c.args.store.now) (g.S.Store.key_columns c.args.store.now) c.args.call.now.parameters.now c.args.call.now.user c.in-Some.key c.key_with_values.result
    c.key_with_values.ensures.known

pub returns-in-Some-clause-memory : goal.returns-in-Some-clause-memory
returns-in-Some-clause-memory g c = λ kinds parameters stands given.
    let own = c.args.condition.now in
    let call = c.args.call.now in
    let key = c.in-Some.key in
    let keys = g.S.Store.key_columns c.args.store.now in
    let named = (shortest_names (keys_at keys c.args.base) own key c.shortest_key.result (subst (λ (ks : Keys). IsShortestKey ks own c.shortest_key.result) c.keys.ensures c.shortest_key.ensures) c.in-Some.is).1 in
    c.key_with_values.ensures.memory (λ tests firsts. first_tests_valued kinds parameters call.parameters.now call.user given (Base c.args.base) own (key_at keys c.args.base key) tests stands named firsts)

pub returns-in-Some-clause-found : goal.returns-in-Some-clause-found
returns-in-Some-clause-found g c =
    let own = c.args.condition.now in
    let values = c.args.call.now.parameters.now in
    let user = c.args.call.now.user in
    let key = c.in-Some.key in
    let all = g.S.Store.key_columns c.args.store.now in
    let keys = keys_at all c.args.base in
    let shortest = subst (IsShortestKey keys own) c.in-Some.is (subst (λ (ks : Keys). IsShortestKey ks own c.shortest_key.result) c.keys.ensures c.shortest_key.ensures) in
    known_if c.key_with_values.result ((tests : List BoundTest) → AreFirstTests (key_at all c.args.base key) own tests → AreKnownEqual tests values user) (IsKeyedBy keys own values user)
    (λ keyed. known_by_shortest keys own values user key shortest keyed) c.key_with_values.ensures.found

pub returns-in-None-clause-found : goal.returns-in-None-clause-found
returns-in-None-clause-found g c = λ keyed.
    let own = c.args.condition.now in
    let keys = keys_at (g.S.Store.key_columns c.args.store.now) c.args.base in
    let shortest = subst (IsShortestKey keys own) c.in-None.is (subst (λ (ks : Keys). IsShortestKey ks own c.shortest_key.result) c.keys.ensures c.shortest_key.ensures) in
    absurd (named_by_none keys own c.args.call.now.parameters.now c.args.call.now.user shortest keyed)
