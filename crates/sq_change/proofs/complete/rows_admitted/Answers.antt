-- Left open: the calls of asked_by and 2 more, and the clauses right and 2 more; answered by Endings, Held, OnRows and Outcomes.
use Rattle.std.proofs.Common.{refl}
use Rattle.sq_query.proofs.Needs.Finds.{leaf_finds}
use Rattle.sq_change.specs.Constraints.{check_option_met, row_met, rows_met}
use Rattle.sq_change.specs.Made.{seen_by}
use Rattle.sq_meaning.specs.Constraints.{all_satisfied}
use Rattle.sq_store.specs.Change.{rows_put}
use Rattle.sq_change.proofs.NewRows.Endings.{ends_so}
use Rattle.sq_change.proofs.Changes.Held.{refers_at}
use Rattle.sq_change.proofs.Constraints.OnRows.{conditions_on_rows, checks_on_rows}
use Rattle.sq_change.proofs.OneByOne.Outcomes.{next_stops, stops_as, taken_if}
use Rattle.sq_change.proofs.complete.rows_admitted.Goals as goal

pub asked_by-requires-clause-keys : goal.asked_by-requires-clause-keys
asked_by-requires-clause-keys g c =
    let names = c.args.setting.now.names.now in
    let store = c.args.setting.now.store.now in
    let table = c.args.leaf.now.table in
    rw c.get-table.ensures (refers_at (g.N.Names.base_tables names) (g.S.Store.key_columns store) table.place table (g.met.N.Names.references names) c.requires.keys c.requires.leaf.base)

pub check_options_met-requires : goal.check_options_met-requires
check_options_met-requires g c =
    let names = c.args.setting.now.names.now in
    (leaf_finds (g.N.Names.base_tables names) (g.N.Names.column_kinds names) c.requires.leaf.there c.args.leaf.now c.requires.leaf.well_formed).0

pub rows_satisfied-requires-clause-finds : goal.rows_satisfied-requires-clause-finds
rows_satisfied-requires-clause-finds g c =
    let names = c.args.setting.now.names.now in
    rw c.get-table.ensures (leaf_finds (g.N.Names.base_tables names) (g.N.Names.column_kinds names) c.requires.leaf.there c.args.leaf.now c.requires.leaf.well_formed).1

pub returns-in_err-check_options_met-clause-right : goal.returns-in_err-check_options_met-clause-right
returns-in_err-check_options_met-clause-right g c = λ parameters tables may put.
    let columns = g.N.Names.column_kinds c.args.setting.now.names.now in
    let on = conditions_on_rows columns parameters c.args.leaf.now c.args.changed.now.changes.items c.requires.leaf.well_formed put in
    ends_so c.from_residual.result c.in_err-check_options_met.field-0.0 c.from_residual.ensures.1
    (c.in_err-check_options_met.ensures.right parameters tables may (rw c.as_slice-changes.ensures.value on))

pub returns-in_err-rows_satisfied-clause-right : goal.returns-in_err-rows_satisfied-clause-right
returns-in_err-rows_satisfied-clause-right g c = λ parameters tables may put.
    let columns = g.N.Names.column_kinds c.args.setting.now.names.now in
    let on = checks_on_rows columns parameters c.args.leaf.now c.args.changed.now.changes.items c.requires.leaf.well_formed put in
    ends_so c.from_residual-in_err-rows_satisfied.result c.in_err-rows_satisfied.field-0.0 c.from_residual-in_err-rows_satisfied.ensures.1
    (c.in_err-rows_satisfied.ensures.right parameters tables may (rw (c.get-table.ensures, c.as_slice-changes.ensures.value) on))

pub returns-in_err-check_options_met-clause-met : goal.returns-in_err-check_options_met-clause-met
returns-in_err-check_options_met-clause-met g c = λ parameters shown may put.
    let setting = c.args.setting.now in
    let columns = g.N.Names.column_kinds setting.names.now in
    let seen = seen_by (g.N.Names.view_queries setting.names.now) (g.S.Store.content_now setting.store.now) setting.user setting.parameters.now in
    let rows = rows_put c.args.changed.now.changes.items in
    let leaf = c.args.leaf.now in
    let on = conditions_on_rows columns parameters leaf c.args.changed.now.changes.items c.requires.leaf.well_formed put in
    stops_as (λ asked. tt) c.from_residual.result c.in_err-check_options_met.field-0.0 (all_satisfied (check_option_met shown seen leaf) rows)
    (λ _. all_satisfied (row_met shown seen leaf.table) rows) c.from_residual.ensures.1
    (rw c.as_slice-changes.ensures.value at (c.in_err-check_options_met.ensures.met parameters shown may (rw c.as_slice-changes.ensures.value on)))

pub returns-in_err-rows_satisfied-clause-met : goal.returns-in_err-rows_satisfied-clause-met
returns-in_err-rows_satisfied-clause-met g c = λ parameters shown may put.
    let setting = c.args.setting.now in
    let columns = g.N.Names.column_kinds setting.names.now in
    let seen = seen_by (g.N.Names.view_queries setting.names.now) (g.S.Store.content_now setting.store.now) setting.user setting.parameters.now in
    let rows = rows_put c.args.changed.now.changes.items in
    let leaf = c.args.leaf.now in
    let on = conditions_on_rows columns parameters leaf c.args.changed.now.changes.items c.requires.leaf.well_formed put in
    let checks = checks_on_rows columns parameters leaf c.args.changed.now.changes.items c.requires.leaf.well_formed put in
    let met = rw c.as_slice-changes.ensures.value at (c.in_ok-check_options_met.ensures.met parameters shown may (rw c.as_slice-changes.ensures.value on)) in
    let failed = rw (c.get-table.ensures, c.as_slice-changes.ensures.value) at (c.in_err-rows_satisfied.ensures.met parameters shown may (rw (c.get-table.ensures, c.as_slice-changes.ensures.value) checks)) in
    next_stops c.from_residual-in_err-rows_satisfied.result c.in_err-rows_satisfied.field-0.0 (all_satisfied (check_option_met shown seen leaf) rows)
    (all_satisfied (row_met shown seen leaf.table) rows) c.from_residual-in_err-rows_satisfied.ensures.1 met failed

pub returns-clause-met : goal.returns-clause-met
returns-clause-met g c = λ parameters shown may put.
    let setting = c.args.setting.now in
    let columns = g.N.Names.column_kinds setting.names.now in
    let seen = seen_by (g.N.Names.view_queries setting.names.now) (g.S.Store.content_now setting.store.now) setting.user setting.parameters.now in
    let rows = rows_put c.args.changed.now.changes.items in
    let leaf = c.args.leaf.now in
    let on = conditions_on_rows columns parameters leaf c.args.changed.now.changes.items c.requires.leaf.well_formed put in
    let checks = checks_on_rows columns parameters leaf c.args.changed.now.changes.items c.requires.leaf.well_formed put in
    let options = rw c.as_slice-changes.ensures.value at (c.in_ok-check_options_met.ensures.met parameters shown may (rw c.as_slice-changes.ensures.value on)) in
    let satisfied = rw (c.get-table.ensures, c.as_slice-changes.ensures.value) at (c.in_ok-rows_satisfied.ensures.met parameters shown may (rw (c.get-table.ensures, c.as_slice-changes.ensures.value) checks)) in
    taken_if c.asked_by.result (rows_met shown seen leaf rows) (rw (options, satisfied) refl) c.asked_by.ensures.memory

pub returns-clause-decides : goal.returns-clause-decides
returns-clause-decides g c = rw (c.get-table.ensures, c.as_slice-changes.ensures.value, c.as_slice.ensures.value) at c.asked_by.ensures.decides
