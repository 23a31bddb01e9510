-- Left open: the call of query_rows, and the clauses rows, kinds and right; answered by Fitting and others.
use Rattle.sq_meaning.specs.WellFormed.{AreRowsOf}
use Rattle.sq_bound.specs.WellFormed.{kinds_of_query}
use Rattle.sq_expression.specs.Fault.{rows_in}
use Rattle.sq_query.specs.Order.{sort_columns}
use Rattle.sq_query.proofs.Needs.Fitting.{found_so, never_ends}
use Rattle.sq_query.proofs.Needs.ReadRows.{sorted_answers}
use Rattle.sq_query.proofs.ByUnion.UnionRows.{all_readable}
use Rattle.sq_query.proofs.order.ordered_rows.Goals as goal

pub query_rows-requires : goal.query_rows-requires
query_rows-requires g c = record {
  readable = all_readable (g.N.Names.base_tables c.args.names.now) (g.N.Names.column_kinds c.args.names.now) (g.S.Store.content_now c.args.store.now) (g.S.Store.key_columns c.args.store.now) c.args.query.now c.requires.finds c.requires.keys c.requires.not_null;
}

pub returns-clause-rows : goal.returns-clause-rows
returns-clause-rows g c = λ parameters tables may well. c.in_order.ensures.rows _ (c.query_rows.ensures parameters tables may well)

pub returns-clause-kinds : goal.returns-clause-kinds
returns-clause-kinds g c = λ parameters tables may well.
    let names = c.args.names.now in
    found_so rows_in c.in_order.result (AreRowsOf (kinds_of_query c.args.query.now)) _
    (sorted_answers (g.N.Names.base_tables names) (g.N.Names.view_queries names) (g.N.Names.column_kinds names) (g.S.Store.content_now c.args.store.now) c.args.inputs.user c.args.inputs.parameters.now
    (g.met.N.Names.kinds_of_bases names) (g.met.N.Names.kinds_of_views names) parameters tables may c.args.query.now (sort_columns c.args.order.now) well)
    (c.in_order.ensures.rows _ (c.query_rows.ensures parameters tables may well))

pub returns-clause-right : goal.returns-clause-right
returns-clause-right g c = λ parameters tables may well.
    let names = c.args.names.now in
    never_ends rows_in c.in_order.result (AreRowsOf (kinds_of_query c.args.query.now)) _
    (sorted_answers (g.N.Names.base_tables names) (g.N.Names.view_queries names) (g.N.Names.column_kinds names) (g.S.Store.content_now c.args.store.now) c.args.inputs.user c.args.inputs.parameters.now
    (g.met.N.Names.kinds_of_bases names) (g.met.N.Names.kinds_of_views names) parameters tables may c.args.query.now (sort_columns c.args.order.now) well)
    (c.in_order.ensures.rows _ (c.query_rows.ensures parameters tables may well))
