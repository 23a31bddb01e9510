-- Left open: the calls of key, chosen_by_key and next_chosen, and the clauses first and once; answered by Holding and QuietWalks.
use Rattle.std.proofs.Common.{◌<◌, ℕ, List, arith, length, refl, subst, sym}
use Rattle.sq_value.specs.declared.value.Value.{Value}
use Rattle.sq_query.specs.Keyed.{IsKeyedUnder}
use Rattle.sq_query.specs.Meant.{IsKeyUnder}
use Rattle.sq_query.proofs.Keys.KeyNames.{own_keys}
use Rattle.sq_query.proofs.Keys.KeyTests.{if_some}
use Rattle.sq_query.proofs.Keys.KnownKeys.{not_none}
use Rattle.sq_session.proofs.Lasting.Holding.{target_there}
use Rattle.sq_session.proofs.Walks.QuietWalks.{rows_of_base}
use Rattle.sq_session.proofs.walk.next_of_walk.Goals as goal

pub key-requires-clause-there : goal.key-requires-clause-there
key-requires-clause-there g c =
    target_there c.args.called.now.catalog.now.bases (g.S.Store.content_now c.args.store.now) c.args.target.now c.requires.tables.tables c.requires.base

pub key-requires-clause-keys : goal.key-requires-clause-keys
key-requires-clause-keys g c =
    own_keys c.args.called.now.catalog.now.bases (g.S.Store.key_columns c.args.store.now) c.args.target.now c.requires.base c.requires.tables.keys

pub chosen_by_key-found-requires-clause-key : goal.chosen_by_key-found-requires-clause-key
chosen_by_key-found-requires-clause-key g c =
    let store = c.args.store.now in
    if_some (IsKeyUnder c.args.target.now (g.S.Store.content_now store) (g.S.Store.key_columns store) c.as_slice.result.now c.args.called.now.procedure.now.user) c.in_ok-known.field-0 c.in-Some.known c.in_ok-known.ensures.known c.in-Some.is

pub chosen_by_key-found-requires-clause-rows : goal.chosen_by_key-found-requires-clause-rows
chosen_by_key-found-requires-clause-rows g c =
    let t = c.args.target.now in
    rows_of_base c.args.called.now.catalog.now.bases (g.S.Store.content_now c.args.store.now) t t.base c.requires.tables.in_domains c.requires.base refl

pub next_chosen-requires-clause-there : goal.next_chosen-requires-clause-there
next_chosen-requires-clause-there g c =
    let bases = c.args.called.now.catalog.now.bases in
    let content = g.S.Store.content_now c.args.store.now in
    subst (λ (n : ℕ). n < length content) c.requires.over (target_there bases content c.args.target.now c.requires.tables.tables c.requires.base)

pub next_chosen-requires-clause-rows : goal.next_chosen-requires-clause-rows
next_chosen-requires-clause-rows g c =
    rows_of_base c.args.called.now.catalog.now.bases (g.S.Store.content_now c.args.store.now) c.args.target.now c.args.cursor.now.table c.requires.tables.in_domains c.requires.base c.requires.over

pub returns-in-Some-clause-first : goal.returns-in-Some-clause-first
returns-in-Some-clause-first g c = rw (c.requires.over, c.as_slice.ensures) at c.chosen_by_key-found.ensures.first

pub returns-in-None-clause-first : goal.returns-in-None-clause-first
returns-in-None-clause-first g c = rw c.as_slice.ensures at c.next_chosen.ensures.first

pub returns-in-None-clause-once : goal.returns-in-None-clause-once
returns-in-None-clause-once g c = λ keyed.
    let user = c.args.called.now.procedure.now.user in
    let with_values = subst (λ (vs : List Value). IsKeyedUnder c.args.target.now vs user) (sym c.as_slice.ensures) keyed in
    absurd (not_none c.in_ok-known.field-0 c.in-None.is (c.in_ok-known.ensures.found with_values))

pub returns-in_err-known-clause-once : goal.returns-in_err-known-clause-once
returns-in_err-known-clause-once g c = λ keyed. omega arith
