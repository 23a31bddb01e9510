-- Left open for truth_with_tables: the clauses plain and truth; answered by Fitting, ReadAs and others.
use Rattle.std.proofs.Common.{[], ◌∷◌, sym, subst}
use Rattle.std.specs.Prelude.{⊤}
use Rattle.sq_meaning.specs.WellFormed.{Answers}
use Rattle.sq_expression.specs.Fault.{Meets}
use Rattle.sq_expression.specs.declared.context.Context.{Context}
use Rattle.sq_query.specs.declared.view.Tables.{Tables}
use Rattle.sq_query.proofs.Needs.Fitting.{fails_so}
use Rattle.sq_query.proofs.Needs.ReadAs.{cond_read_in, truth_of_cond}
use Rattle.sq_query.proofs.Needs.ReadRows.{truth_stands}
use Rattle.sq_query.proofs.FoundByKey.RowTables.{no_memory_truth}
use Rattle.sq_query.proofs.row.truth_with_tables.Goals as goal

pub returns-in-Err-clause-plain : goal.returns-in-Err-clause-plain
returns-in-Err-clause-plain g c = λ plain tables.
    no_memory_truth c.in-Err.fault c.args.condition.now (c.args.row.now ∷ []) c.args.call.now.parameters.now c.args.call.now.user (c.in-Err.ensures.plain plain) plain tables

pub returns-in-Ok-clause-truth : goal.returns-in-Ok-clause-truth
returns-in-Ok-clause-truth g c = λ parameters tables may on.
    let names = c.args.names.now in
    let content = g.S.Store.content_now c.args.store.now in
    let columns = g.N.Names.column_kinds names in
    let condition = c.args.condition.now in
    let context : Context = record c.args.call.now { bases = c.as_slice.result; views = c.as_slice-in-Ok.result } in
    let read = (c.in-Ok.ensures.tables parameters tables may on).1 in
    let ends = truth_stands (g.N.Names.base_tables names) (g.N.Names.view_queries names) columns content c.args.call.now.user c.args.call.now.parameters.now (g.met.N.Names.kinds_of_bases names) (g.met.N.Names.kinds_of_views names) parameters tables may c.args.row.now condition on in
    subst (Meets c.outermost_truth-truth.result) read.same
    (truth_of_cond context read.rows_of columns parameters c.args.row.now condition c.outermost_truth-truth.result on c.outermost_truth-truth.ensures.known
    (cond_read_in context c.in-Ok.tables c.as_slice.ensures.value c.as_slice-in-Ok.ensures.value read.rows_of condition read.reads) (subst (Answers (λ t. ⊤)) (sym read.same) ends))

pub returns-in-Err-clause-truth : goal.returns-in-Err-clause-truth
returns-in-Err-clause-truth g c = λ parameters tables may on.
    fails_so Tables c.in-Err.fault _ (c.in-Err.ensures.tables parameters tables may on).0
