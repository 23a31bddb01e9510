-- Left open: the calls of given_values, rows_found and stored_rows, and the clauses right and made; answered by Endings and others.
use Rattle.std.proofs.Common.{List, Err, sym, subst}
use Rattle.sq_value.specs.declared.value.Value.{Value}
use Rattle.sq_bound.specs.declared.expression.BoundExpr.{BoundExpr}
use Rattle.sq_bound.specs.declared.names.ObjectColumn.{ObjectColumn}
use Rattle.std.specs.List.{AllByRecursion}
use Rattle.sq_expression.specs.Fault.{MeetsAs, rows_in}
use Rattle.sq_expression.proofs.Views.{failed_as, handed_on_as}
use Rattle.sq_change.specs.Given.{AreStorable, FitColumns, all_given}
use Rattle.sq_change.specs.Made.{Shown, rows_found, seen_by}
use Rattle.sq_query.specs.MayRead.{MayEnd}
use Rattle.sq_query.specs.Needed.{FindsSelect}
use Rattle.sq_query.proofs.Needs.Finds.{select_finds}
use Rattle.sq_change.proofs.NewRows.Endings.{ends_so}
use Rattle.sq_change.proofs.NewRows.GivenRows.{query_ends, query_on}
use Rattle.sq_change.proofs.NewRows.Storable.{gives_rows, gives_values, query_so}
use Rattle.sq_change.proofs.given.given_rows.Goals as goal

pub given_values-requires : goal.given_values-requires
given_values-requires g c =
    let setting = c.args.setting.now in
    let insert = c.args.insert.now in
    subst (λ (columns : List ObjectColumn). AreStorable columns c.as_slice.result.now setting.parameters.now setting.user) (sym c.as_slice-columns.ensures)
    (subst (λ (values : List BoundExpr). AreStorable insert.columns values setting.parameters.now setting.user) (sym c.as_slice.ensures)
    (gives_values (g.N.Names.base_tables setting.names.now) (g.N.Names.view_queries setting.names.now) (g.N.Names.column_kinds setting.names.now)
    (g.S.Store.content_now setting.store.now) setting.user setting.parameters.now
    insert.columns insert.source c.in-Values.values c.requires.given c.in-Values.is))

pub rows_found-requires-clause-finds : goal.rows_found-requires-clause-finds
rows_found-requires-clause-finds g c =
    let setting = c.args.setting.now in
    let insert = c.args.insert.now in
    let names = setting.names.now in
    query_so (g.N.Names.base_tables names) (g.N.Names.view_queries names) (g.N.Names.column_kinds names) (g.S.Store.content_now setting.store.now) setting.user setting.parameters.now
    insert.columns insert.source c.in-Query.query c.requires.given c.in-Query.is (FindsSelect (g.N.Names.base_tables names) (g.N.Names.column_kinds names) c.in-Query.query)
    (λ parameters tables may well. select_finds (g.N.Names.base_tables names) (g.N.Names.column_kinds names) may.there parameters c.in-Query.query well)

pub stored_rows-requires : goal.stored_rows-requires
stored_rows-requires g c =
    let setting = c.args.setting.now in
    let insert = c.args.insert.now in
    let rows = c.in_ok-rows-in-Query in
    subst (λ (columns : List ObjectColumn). AllByRecursion (FitColumns columns) c.as_slice-in-Query.result.now) (sym c.as_slice-columns.ensures)
    (subst (λ (found : List (List Value)). AllByRecursion (FitColumns insert.columns) found) (sym c.as_slice-in-Query.ensures.value)
    (gives_rows (g.N.Names.base_tables setting.names.now) (g.N.Names.view_queries setting.names.now) (g.N.Names.column_kinds setting.names.now)
    (g.S.Store.content_now setting.store.now) setting.user setting.parameters.now
    insert.columns insert.source c.in-Query.query c.requires.given c.in-Query.is rows.rows.items rows.ensures.kinds))

pub returns-in_err-rows-in-Query-clause-right : goal.returns-in_err-rows-in-Query-clause-right
returns-in_err-rows-in-Query-clause-right g c =
    let setting = c.args.setting.now in
    let insert = c.args.insert.now in
    let e = c.in_err-rows-in-Query.field-0.0 in
    ends_so c.from_residual-in_err-rows-in-Query.result e c.from_residual-in_err-rows-in-Query.ensures.1
    (query_so (g.N.Names.base_tables setting.names.now) (g.N.Names.view_queries setting.names.now) (g.N.Names.column_kinds setting.names.now)
    (g.S.Store.content_now setting.store.now) setting.user setting.parameters.now
    insert.columns insert.source c.in-Query.query c.requires.given c.in-Query.is (MayEnd e) c.in_err-rows-in-Query.ensures.right)

pub returns-in_err-rows-in-Query-clause-made : goal.returns-in_err-rows-in-Query-clause-made
returns-in_err-rows-in-Query-clause-made g c = λ shown is.
    let setting = c.args.setting.now in
    let insert = c.args.insert.now in
    let names = setting.names.now in
    let content = g.S.Store.content_now setting.store.now in
    let seen = seen_by (g.N.Names.view_queries names) content setting.user setting.parameters.now in
    let q = c.in-Query.query in
    let e = c.in_err-rows-in-Query.field-0.0 in
    let failed =
    query_on (g.N.Names.base_tables names) (g.N.Names.view_queries names) (g.N.Names.column_kinds names) content setting.user setting.parameters.now
    insert.columns insert.source q c.requires.given c.in-Query.is (λ (tables : Shown). MeetsAs rows_in (Err e) (rows_found tables seen q)) c.in_err-rows-in-Query.ensures.found shown is in
    handed_on_as all_given c.from_residual-in_err-rows-in-Query.result e _ c.from_residual-in_err-rows-in-Query.ensures.1
    (query_ends shown seen insert.columns insert.source q c.in-Query.is e (failed_as rows_in e _ failed))
