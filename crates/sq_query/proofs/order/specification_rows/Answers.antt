-- Left open: the call of rows_of_specification, and the clauses kinds and right; answered by Fitting and ReadRows.
use Rattle.sq_meaning.specs.WellFormed.{AreRowsOf}
use Rattle.sq_bound.specs.WellFormed.{kinds_of_select}
use Rattle.sq_expression.specs.Fault.{rows_in}
use Rattle.sq_query.proofs.Needs.Fitting.{found_so, never_ends}
use Rattle.sq_query.proofs.Needs.ReadRows.{select_answers}
use Rattle.sq_query.proofs.order.specification_rows.Goals as goal

pub rows_of_specification-requires : goal.rows_of_specification-requires
rows_of_specification-requires g c = record { finds = c.requires.finds; keys = c.requires.keys; not_null = c.requires.not_null }

pub returns-clause-kinds : goal.returns-clause-kinds
returns-clause-kinds g c = λ parameters tables may well.
    let names = c.args.names.now in
    found_so rows_in c.rows_of_specification.result (AreRowsOf (kinds_of_select c.args.query.now)) _
    (select_answers (g.N.Names.base_tables names) (g.N.Names.view_queries names) (g.N.Names.column_kinds names) (g.S.Store.content_now c.args.store.now) c.args.inputs.user c.args.inputs.parameters.now
    (g.met.N.Names.kinds_of_bases names) (g.met.N.Names.kinds_of_views names) parameters tables may c.args.query.now well)
    (c.rows_of_specification.ensures.rows parameters tables may well)

pub returns-clause-right : goal.returns-clause-right
returns-clause-right g c = λ parameters tables may well.
    let names = c.args.names.now in
    never_ends rows_in c.rows_of_specification.result (AreRowsOf (kinds_of_select c.args.query.now)) _
    (select_answers (g.N.Names.base_tables names) (g.N.Names.view_queries names) (g.N.Names.column_kinds names) (g.S.Store.content_now c.args.store.now) c.args.inputs.user c.args.inputs.parameters.now
    (g.met.N.Names.kinds_of_bases names) (g.met.N.Names.kinds_of_views names) parameters tables may c.args.query.now well)
    (c.rows_of_specification.ensures.rows parameters tables may well)
