-- Left open for truth_of: the clauses truth and right; answered by Fitting and ReadRows.
use Rattle.std.specs.Prelude.{⊤}
use Rattle.sq_query.proofs.Needs.Fitting.{ends_right}
use Rattle.sq_query.proofs.Needs.ReadRows.{stands_so, truth_answers}
use Rattle.sq_query.proofs.row.truth_of.Goals as goal

pub returns-clause-right : goal.returns-clause-right
returns-clause-right g c = λ parameters tables may on.
    let names = c.args.names.now in
    ends_right c.truth_with_tables.result (λ t. ⊤) _
    (truth_answers (g.N.Names.base_tables names) (g.N.Names.view_queries names) (g.N.Names.column_kinds names) (g.S.Store.content_now c.args.store.now) c.args.inputs.user c.args.inputs.parameters.now
    (g.met.N.Names.kinds_of_bases names) (g.met.N.Names.kinds_of_views names) parameters tables may c.args.row.now c.args.condition.now on)
    (c.truth_with_tables.ensures.truth parameters tables may (stands_so (g.N.Names.column_kinds names) parameters c.args.row.now c.args.condition.now on))

pub returns-clause-truth : goal.returns-clause-truth
returns-clause-truth g c = λ parameters tables may on.
    c.truth_with_tables.ensures.truth parameters tables may (stands_so (g.N.Names.column_kinds c.args.names.now) parameters c.args.row.now c.args.condition.now on)
