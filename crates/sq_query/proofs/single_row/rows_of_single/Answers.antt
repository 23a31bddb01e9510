-- Left open for rows_of_single: the clause rows; answered by SingleRows.
use Rattle.std.proofs.Common.{subst, sym}
use Rattle.sq_store.specs.Content.{table_at}
use Rattle.sq_expression.specs.Fault.{HasRows}
use Rattle.sq_meaning.specs.Tables.{rows_in}
use Rattle.sq_bound.specs.declared.condition.BoundSpecification.{out-BoundSpecification}
use Rattle.sq_query.specs.SingleRow.{lines_left, lines_of_row, listed_by}
use Rattle.sq_query.proofs.Keys.SingleRows.{failed_lines, listed_for, rows_of_left}
use Rattle.sq_query.proofs.single_row.rows_of_single.Goals as goal

pub returns-in_err-kept-clause-rows : goal.returns-in_err-kept-clause-rows
returns-in_err-kept-clause-rows g c = λ parameters tables may well.
    let names = c.args.names.now in
    let store = c.args.store.now in
    let call = c.args.call.now in
    let query = c.args.query.now in
    let single = c.args.single.now in
    let o = out-BoundSpecification query in
    subst (HasRows c.from_residual.result)
    (sym (rows_of_left (g.N.Names.base_tables names) (g.N.Names.view_queries names) (g.N.Names.column_kinds names) (g.S.Store.content_now store) (g.S.Store.key_columns store) call (g.met.N.Names.kinds_of_bases names) (g.met.N.Names.kinds_of_views names)
    (g.met.S.Store.keyed store) query c.requires.readable single c.requires.single parameters tables may well))
    (failed_lines c.in_err-kept.field-0.0 (lines_left tables single.condition.now call.parameters.now call.user (rows_in (table_at (g.S.Store.content_now store) single.base))) (listed_by o.distinct o.list o.grouping call) c.from_residual.result c.from_residual.ensures.1
    (c.in_err-kept.ensures.lines parameters tables may well))

pub returns-clause-rows : goal.returns-clause-rows
returns-clause-rows g c = λ parameters tables may well.
    let names = c.args.names.now in
    let store = c.args.store.now in
    let call = c.args.call.now in
    let query = c.args.query.now in
    let single = c.args.single.now in
    let o = out-BoundSpecification query in
    subst (HasRows c.rows_of_kept.result)
    (sym (rows_of_left (g.N.Names.base_tables names) (g.N.Names.view_queries names) (g.N.Names.column_kinds names) (g.S.Store.content_now store) (g.S.Store.key_columns store) call (g.met.N.Names.kinds_of_bases names) (g.met.N.Names.kinds_of_views names)
    (g.met.S.Store.keyed store) query c.requires.readable single c.requires.single parameters tables may well))
    (listed_for (lines_of_row c.in_ok-kept.kept) (lines_left tables single.condition.now call.parameters.now call.user (rows_in (table_at (g.S.Store.content_now store) single.base))) (listed_by o.distinct o.list o.grouping call) c.rows_of_kept.result
    (c.in_ok-kept.ensures.lines parameters tables may well) c.rows_of_kept.ensures)
