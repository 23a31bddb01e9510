-- Left open: the call of key_with_values, the clauses known and 2 more, and that a place is unreachable; answered by KeyNames and others.
use Rattle.std.proofs.Common.{◌<◌, ◌∙◌, List, [], ap, length, slice_index_or, subst, sym}
use Rattle.sq_store.specs.Keys.{Keys, key_at}
use Rattle.sq_bound.specs.Keyed.{names_key}
use Rattle.sq_bound.specs.declared.condition.BoundCond.{out-BoundCond}
use Rattle.sq_bound.specs.declared.condition.BoundTest.{BoundTest}
use Rattle.sq_bound.specs.declared.condition.TablePlace.TheVariants.{Base}
use Rattle.sq_query.specs.Key.{AreFirstTests}
use Rattle.sq_query.specs.Keyed.{AreKnownEqual, IsKeyed}
use Rattle.sq_query.proofs.Keys.KeyNames.{has_condition, key_there, noted_key, own_named}
use Rattle.sq_query.proofs.Keys.KeyValues.{first_tests_valued, own_stands}
use Rattle.sq_query.proofs.Keys.KnownKeys.{key_noted, known_if, not_none, tests_known}
use Rattle.sq_query.proofs.key.known_key.Goals as goal

pub unreachable-requires : goal.unreachable-requires
unreachable-requires g c = not_none c.args.target.now.condition c.in_default-condition.is (has_condition c.args.target.now c.in-Some.key c.in-Some.is)

pub key_with_values-requires-clause-key : goal.key_with_values-requires-clause-key
key_with_values-requires-clause-key g c = subst (λ (ks : Keys). c.in-Some.key < length ks) (sym c.requires.keys) (key_there c.args.target.now c.in-Some.key c.in-Some.is)

pub key_with_values-requires-clause-named : goal.key_with_values-requires-clause-named
key_with_values-requires-clause-named g c =
    let t = c.args.target.now in
    let own = c.in-Some-condition.condition in
    let is_own = c.in-Some-condition.is in
    ap (λ (ks : Keys). names_key (slice_index_or ks c.in-Some.key []) (out-BoundCond own).terms) c.requires.keys ∙ own_named t c.in-Some.key c.in-Some.is own is_own

pub returns-clause-known : goal.returns-clause-known
returns-clause-known g c =
    let t = c.args.target.now in
    let own = c.in-Some-condition.condition in
    let is_own = c.in-Some-condition.is in
    noted_key t own (g.S.Store.content_now c.args.store.now) (g.S.Store.key_columns c.args.store.now) c.args.call.now.parameters.now c.args.call.now.user c.in-Some.key c.key_with_values.result is_own c.in-Some.is
    c.key_with_values.ensures.known

pub returns-clause-found : goal.returns-clause-found
returns-clause-found g c =
    let t = c.args.target.now in
    let own = c.in-Some-condition.condition in
    let is_own = c.in-Some-condition.is in
    let key = c.in-Some.key in
    let columns = key_at (g.S.Store.key_columns c.args.store.now) t.base key in
    let values = c.args.call.now.parameters.now in
    let user = c.args.call.now.user in
    known_if c.key_with_values.result ((tests : List BoundTest) → AreFirstTests columns own tests → AreKnownEqual tests values user) (IsKeyed t values user)
    (λ keyed tests firsts. tests_known t own key columns tests values user c.in-Some.is is_own (ap (λ (ks : Keys). slice_index_or ks key []) c.requires.keys) firsts keyed)
    c.key_with_values.ensures.found

pub returns-clause-memory : goal.returns-clause-memory
returns-clause-memory g c = λ kinds parameters well given.
    let t = c.args.target.now in
    let call = c.args.call.now in
    let own = c.in-Some-condition.condition in
    let is_own = c.in-Some-condition.is in
    let key = c.in-Some.key in
    let columns = key_at (g.S.Store.key_columns c.args.store.now) t.base key in
    let named = ap (λ (ks : Keys). names_key (slice_index_or ks key []) (out-BoundCond own).terms) c.requires.keys ∙ own_named t key c.in-Some.is own is_own in
    c.key_with_values.ensures.memory
    (λ tests firsts. first_tests_valued kinds parameters call.parameters.now call.user given (Base t.leaf.table.place) own columns tests (own_stands kinds parameters t own well is_own) named firsts)

pub returns-in_default-clause-found : goal.returns-in_default-clause-found
returns-in_default-clause-found g c = λ keyed. absurd (key_noted c.args.target.now c.args.call.now.parameters.now c.args.call.now.user c.in_default.is keyed)
