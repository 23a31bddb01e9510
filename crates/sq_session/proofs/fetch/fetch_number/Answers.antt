-- Left open: the calls of next_there and shown_row_retrieved, and the clauses comes and read; answered by Coming, Holding and others.
use Rattle.std.proofs.Common.{Err, subst, sym, ◌∙◌}
use Rattle.sq_catalog.specs.Catalog.{column_kinds}
use Rattle.sq_store.specs.Content.{table_at}
use Rattle.sq_session.specs.Kind.{fetching}
use Rattle.sq_session.proofs.Fetching.Coming.{shown_taken_on}
use Rattle.sq_session.specs.Step.{ending}
use Rattle.sq_session.proofs.Lasting.Holding.{HasColumns}
use Rattle.sq_session.proofs.Calls.Metering.{however, no_number_read, number_read}
use Rattle.sq_session.proofs.OpenCursors.Over.{numbers_over}
use Rattle.sq_session.proofs.Walks.QuietWalks.{columns_are, passed_there}
use Rattle.sq_session.proofs.Fetching.Reached.{comes_to_fault, comes_to_none, comes_to_row}
use Rattle.sq_session.proofs.Fetching.Shown.{columns_there}
use Rattle.sq_session.proofs.fetch.fetch_number.Goals as goal

pub next_there-requires-clause-passed : goal.next_there-requires-clause-passed
next_there-requires-clause-passed g c =
    let called = c.args.called.now in
    passed_there (column_kinds called.catalog.now) called.cursors.now c.args.fetch.now.cursor c.args.cursor.now c.requires.finds.over c.requires.finds.kept

pub shown_row_retrieved-requires-clause-columns : goal.shown_row_retrieved-requires-clause-columns
shown_row_retrieved-requires-clause-columns g c =
    let called = c.args.called.now in
    let bases = called.catalog.now.bases in
    let cursor = c.args.cursor.now in
    let reached = c.in-Some.reached in
    let over = numbers_over bases called.cursors.now c.args.fetch.now.cursor cursor c.requires.may.asked.cursors_fit c.requires.finds.over in
    let query = subst (HasColumns bases cursor.table) (columns_are called.cursors.now c.args.fetch.now.cursor c.updatable_query-query.result.now c.updatable_query-query.ensures) over in
    columns_there bases (g.S.Store.content_now c.args.store.now) cursor.table reached.number c.updatable_query-query.result.now.columns reached.row.now c.requires.tables.tables query c.in-Some.ensures.row

pub shown_row_retrieved-requires-clause-taken : goal.shown_row_retrieved-requires-clause-taken
shown_row_retrieved-requires-clause-taken g c =
    let called = c.args.called.now in
    let reached = c.in-Some.reached in
    shown_taken_on (fetching called.cursors.now called.procedure.now.user called.procedure.now.parameters c.args.fetch.now) (table_at (g.S.Store.content_now c.args.store.now) c.args.cursor.now.table) reached.number
    c.updatable_query-query.result.now.columns reached.row.now c.requires.finds.taken (columns_are called.cursors.now c.args.fetch.now.cursor c.updatable_query-query.result.now c.updatable_query-query.ensures) c.in-Some.ensures.row

pub returns-in_default-clause-comes : goal.returns-in_default-clause-comes
returns-in_default-clause-comes g c =
    let called = c.args.called.now in
    comes_to_none (fetching called.cursors.now called.procedure.now.user called.procedure.now.parameters c.args.fetch.now) (g.S.Store.content_now c.args.store.now) c.args.cursor.now c.len-cursor.result c.without_outputs.result
    c.in_default.ensures.next.0 (c.in_default.ensures.next.1 ∙ sym c.len-cursor.ensures) c.without_outputs.ensures

pub returns-in-Ok-clause-comes : goal.returns-in-Ok-clause-comes
returns-in-Ok-clause-comes g c =
    let called = c.args.called.now in
    let reached = c.in-Some.reached in
    comes_to_row (fetching called.cursors.now called.procedure.now.user called.procedure.now.parameters c.args.fetch.now) (g.S.Store.content_now c.args.store.now) c.args.cursor.now c.updatable_query-query.result.now.columns
    reached.passed reached.number reached.row.now c.in-Ok.done (columns_are called.cursors.now c.args.fetch.now.cursor c.updatable_query-query.result.now c.updatable_query-query.ensures) c.in-Some.ensures.next.0 c.in-Some.ensures.next.1 c.in-Some.ensures.row c.in-Ok.ensures.reply

pub returns-in-Err-clause-comes : goal.returns-in-Err-clause-comes
returns-in-Err-clause-comes g c =
    let called = c.args.called.now in
    let reached = c.in-Some.reached in
    comes_to_fault (fetching called.cursors.now called.procedure.now.user called.procedure.now.parameters c.args.fetch.now) (g.S.Store.content_now c.args.store.now) c.args.cursor.now c.updatable_query-query.result.now.columns
    reached.passed reached.number reached.row.now c.in-Err.fault (columns_are called.cursors.now c.args.fetch.now.cursor c.updatable_query-query.result.now c.updatable_query-query.ensures) c.in-Some.ensures.next.0 c.in-Some.ensures.next.1 c.in-Some.ensures.row c.in-Err.ensures.reply

pub returns-in_default-clause-read : goal.returns-in_default-clause-read
returns-in_default-clause-read g c =
    let called = c.args.called.now in
    no_number_read (fetching called.cursors.now called.procedure.now.user called.procedure.now.parameters c.args.fetch.now) (g.S.Store.content_now c.args.store.now) c.args.cursor.now _
    c.in_default.ensures.next.0 (c.in_default.ensures.metered ∙ c.requires.meter)

pub returns-in-Ok-clause-read : goal.returns-in-Ok-clause-read
returns-in-Ok-clause-read g c =
    let called = c.args.called.now in
    number_read (fetching called.cursors.now called.procedure.now.user called.procedure.now.parameters c.args.fetch.now) (g.S.Store.content_now c.args.store.now) c.args.cursor.now c.in-Some.reached.number _ _
    c.in-Some.ensures.next.0 c.requires.meter c.in-Some.ensures.metered

pub returns-in-Err-clause-read : goal.returns-in-Err-clause-read
returns-in-Err-clause-read g c =
    let called = c.args.called.now in
    however (ending (Err c.in-Err.fault))
    (number_read (fetching called.cursors.now called.procedure.now.user called.procedure.now.parameters c.args.fetch.now) (g.S.Store.content_now c.args.store.now) c.args.cursor.now c.in-Some.reached.number _ _
    c.in-Some.ensures.next.0 c.requires.meter c.in-Some.ensures.metered)
