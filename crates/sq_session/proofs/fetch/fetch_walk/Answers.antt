-- Left open: the calls of next_of_walk and shown_row_retrieved, and the clauses comes and read; answered by Coming, Holding and others.
use Rattle.std.proofs.Common.{Err, None, Some, subst}
use Rattle.sq_catalog.specs.Catalog.{column_kinds}
use Rattle.sq_store.specs.Content.{table_at}
use Rattle.sq_store.specs.declared.table.Numbered.{Numbered}
use Rattle.sq_query.specs.Target.{conditions_of}
use Rattle.sq_session.specs.Kind.{fetching}
use Rattle.sq_session.specs.Step.{ending}
use Rattle.sq_session.proofs.Fetching.Coming.{shown_taken_on}
use Rattle.sq_session.proofs.Lasting.Holding.{HasColumns}
use Rattle.sq_session.proofs.Calls.Metering.{end_come_to, however, row_come_to}
use Rattle.sq_session.proofs.OpenCursors.Over.{walk_over}
use Rattle.sq_session.proofs.Walks.QuietWalks.{base_at, columns_are, conditions_are, quiet_at, stands_at, target_is}
use Rattle.sq_session.proofs.Fetching.Reached.{next_is, walks_not, walks_on, walks_to_end}
use Rattle.sq_session.proofs.Fetching.Shown.{columns_there}
use Rattle.sq_session.proofs.fetch.fetch_walk.Goals as goal

pub next_of_walk-requires-clause-quiet : goal.next_of_walk-requires-clause-quiet
next_of_walk-requires-clause-quiet g c =
    let called = c.args.called.now in
    quiet_at (column_kinds called.catalog.now) called.cursors.now c.args.fetch.now.cursor c.updatable_query-query.result.now c.args.walk.now c.updatable_query-query.ensures c.requires.finds.kept c.requires.finds.over

pub next_of_walk-requires-clause-over : goal.next_of_walk-requires-clause-over
next_of_walk-requires-clause-over g c = base_at c.args.called.now.cursors.now c.args.fetch.now.cursor c.updatable_query-query.result.now c.args.walk.now c.updatable_query-query.ensures c.requires.finds.over

pub next_of_walk-requires-clause-base : goal.next_of_walk-requires-clause-base
next_of_walk-requires-clause-base g c =
    let called = c.args.called.now in
    stands_at called.catalog.now.bases called.cursors.now c.args.fetch.now.cursor c.updatable_query-query.result.now c.requires.may.asked.cursors_fit c.updatable_query-query.ensures

pub shown_row_retrieved-requires-clause-columns : goal.shown_row_retrieved-requires-clause-columns
shown_row_retrieved-requires-clause-columns g c =
    let called = c.args.called.now in
    let bases = called.catalog.now.bases in
    let walk = c.args.walk.now in
    let query = c.updatable_query-query.result.now in
    let over = walk_over bases called.cursors.now c.args.fetch.now.cursor walk c.requires.may.asked.cursors_fit c.requires.finds.over in
    let shows = subst (HasColumns bases walk.table) (columns_are called.cursors.now c.args.fetch.now.cursor query c.updatable_query-query.ensures) over in
    let first = rw c.in-Some.is at c.in_ok-number.ensures.first in
    columns_there bases (g.S.Store.content_now c.args.store.now) walk.table c.in-Some.number query.columns c.in-Some.row.now c.requires.tables.tables shows first.there

pub shown_row_retrieved-requires-clause-taken : goal.shown_row_retrieved-requires-clause-taken
shown_row_retrieved-requires-clause-taken g c =
    let called = c.args.called.now in
    let query = c.updatable_query-query.result.now in
    let first = rw c.in-Some.is at c.in_ok-number.ensures.first in
    shown_taken_on (fetching called.cursors.now called.procedure.now.user called.procedure.now.parameters c.args.fetch.now) (table_at (g.S.Store.content_now c.args.store.now) c.args.walk.now.table) c.in-Some.number
    query.columns c.in-Some.row.now c.requires.finds.taken (columns_are called.cursors.now c.args.fetch.now.cursor query c.updatable_query-query.ensures) first.there

pub returns-in_default-clause-comes : goal.returns-in_default-clause-comes
returns-in_default-clause-comes g c =
    let called = c.args.called.now in
    let tables = g.S.Store.content_now c.args.store.now in
    let query = c.updatable_query-query.result.now in
    let fetch = fetching called.cursors.now called.procedure.now.user called.procedure.now.parameters c.args.fetch.now in
    let first = rw c.in_default.is at c.in_ok-number.ensures.first in
    let none = next_is fetch (table_at tables c.args.walk.now.table) c.args.walk.now (conditions_of query.target) None
    (conditions_are called.cursors.now c.args.fetch.now.cursor query c.updatable_query-query.ensures) first.meant in
    walks_to_end fetch tables c.args.walk.now c.without_outputs.result none c.without_outputs.ensures

pub returns-in-Ok-clause-comes : goal.returns-in-Ok-clause-comes
returns-in-Ok-clause-comes g c =
    let called = c.args.called.now in
    let tables = g.S.Store.content_now c.args.store.now in
    let query = c.updatable_query-query.result.now in
    let fetch = fetching called.cursors.now called.procedure.now.user called.procedure.now.parameters c.args.fetch.now in
    let row : Numbered = record { number = c.in-Some.number; row = c.in-Some.row.now } in
    let first = rw c.in-Some.is at c.in_ok-number.ensures.first in
    let next = next_is fetch (table_at tables c.args.walk.now.table) c.args.walk.now (conditions_of query.target) (Some row)
    (conditions_are called.cursors.now c.args.fetch.now.cursor query c.updatable_query-query.ensures) first.meant in
    walks_on fetch tables c.args.walk.now query.columns row _ (columns_are called.cursors.now c.args.fetch.now.cursor query c.updatable_query-query.ensures) next c.in-Ok.ensures.reply

pub returns-in-Err-clause-comes : goal.returns-in-Err-clause-comes
returns-in-Err-clause-comes g c =
    let called = c.args.called.now in
    let tables = g.S.Store.content_now c.args.store.now in
    let query = c.updatable_query-query.result.now in
    let fetch = fetching called.cursors.now called.procedure.now.user called.procedure.now.parameters c.args.fetch.now in
    let row : Numbered = record { number = c.in-Some.number; row = c.in-Some.row.now } in
    let first = rw c.in-Some.is at c.in_ok-number.ensures.first in
    let next = next_is fetch (table_at tables c.args.walk.now.table) c.args.walk.now (conditions_of query.target) (Some row)
    (conditions_are called.cursors.now c.args.fetch.now.cursor query c.updatable_query-query.ensures) first.meant in
    walks_not fetch tables c.args.walk.now query.columns row c.in-Err.fault (columns_are called.cursors.now c.args.fetch.now.cursor query c.updatable_query-query.ensures) next c.in-Err.ensures.reply

pub returns-in_default-clause-read : goal.returns-in_default-clause-read
returns-in_default-clause-read g c =
    let called = c.args.called.now in
    let tables = g.S.Store.content_now c.args.store.now in
    let query = c.updatable_query-query.result.now in
    let fetch = fetching called.cursors.now called.procedure.now.user called.procedure.now.parameters c.args.fetch.now in
    let first = rw c.in_default.is at c.in_ok-number.ensures.first in
    let none = next_is fetch (table_at tables c.args.walk.now.table) c.args.walk.now (conditions_of query.target) None
    (conditions_are called.cursors.now c.args.fetch.now.cursor query c.updatable_query-query.ensures) first.meant in
    end_come_to fetch tables c.args.walk.now query.target _ _ (target_is called.cursors.now c.args.fetch.now.cursor query c.updatable_query-query.ensures) none c.requires.meter c.in_ok-number.ensures.once

pub returns-in-Ok-clause-read : goal.returns-in-Ok-clause-read
returns-in-Ok-clause-read g c =
    let called = c.args.called.now in
    let tables = g.S.Store.content_now c.args.store.now in
    let query = c.updatable_query-query.result.now in
    let fetch = fetching called.cursors.now called.procedure.now.user called.procedure.now.parameters c.args.fetch.now in
    let row : Numbered = record { number = c.in-Some.number; row = c.in-Some.row.now } in
    let first = rw c.in-Some.is at c.in_ok-number.ensures.first in
    let read = rw c.in-Some.is at c.in_ok-number.ensures.read in
    let next = next_is fetch (table_at tables c.args.walk.now.table) c.args.walk.now (conditions_of query.target) (Some row)
    (conditions_are called.cursors.now c.args.fetch.now.cursor query c.updatable_query-query.ensures) first.meant in
    row_come_to fetch tables c.args.walk.now query.target row _ _ (target_is called.cursors.now c.args.fetch.now.cursor query c.updatable_query-query.ensures) next c.requires.meter read c.in_ok-number.ensures.once

pub returns-in-Err-clause-read : goal.returns-in-Err-clause-read
returns-in-Err-clause-read g c =
    let called = c.args.called.now in
    let tables = g.S.Store.content_now c.args.store.now in
    let query = c.updatable_query-query.result.now in
    let fetch = fetching called.cursors.now called.procedure.now.user called.procedure.now.parameters c.args.fetch.now in
    let row : Numbered = record { number = c.in-Some.number; row = c.in-Some.row.now } in
    let first = rw c.in-Some.is at c.in_ok-number.ensures.first in
    let read = rw c.in-Some.is at c.in_ok-number.ensures.read in
    let next = next_is fetch (table_at tables c.args.walk.now.table) c.args.walk.now (conditions_of query.target) (Some row)
    (conditions_are called.cursors.now c.args.fetch.now.cursor query c.updatable_query-query.ensures) first.meant in
    however (ending (Err c.in-Err.fault)) (row_come_to fetch tables c.args.walk.now query.target row _ _ (target_is called.cursors.now c.args.fetch.now.cursor query c.updatable_query-query.ensures) next c.requires.meter read c.in_ok-number.ensures.once)
