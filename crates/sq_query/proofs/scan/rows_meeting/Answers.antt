-- Left open: the call of tables_of, and the clauses plain and meant; answered by Fitting and KnownConditions.
use Rattle.std.proofs.Common.{[], map, sym, Bor}
use Rattle.std.specs.Prelude.{⊤}
use Rattle.sq_meaning.specs.Status.{and_then}
use Rattle.sq_bound.specs.declared.condition.BoundCond.{BoundCond}
use Rattle.sq_expression.specs.Frame.{table_rows}
use Rattle.sq_query.specs.Table.{bases_of, numbered_in}
use Rattle.sq_query.specs.Target.{chosen, is_true_of}
use Rattle.sq_expression.specs.declared.context.Context.{Context}
use Rattle.sq_query.specs.declared.view.Tables.{Tables}
use Rattle.sq_query.proofs.Needs.Fitting.{exact, fails_so}
use Rattle.sq_query.proofs.Targets.KnownConditions.{all_conds_read_as, all_known_in, same_rows}
use Rattle.sq_condition.proofs.Right.{means_as_same}
use Rattle.sq_expression.proofs.Views.{handed_on_as, answered_fails}
use Rattle.sq_query.proofs.scan.rows_meeting.Goals as goal

pub tables_of-requires-clause-known : goal.tables_of-requires-clause-known
tables_of-requires-clause-known g c = c.needed_tables-needed.ensures.known (g.N.Names.column_kinds c.args.names.now) c.requires.1

pub returns-in_err-tables-clause-plain : goal.returns-in_err-tables-clause-plain
returns-in_err-tables-clause-plain g c = λ o found none tables.
    handed_on_as numbered_in c.from_residual.result c.in_err-tables.field-0.0 _ c.from_residual.ensures.1
    (answered_fails bases_of c.in_err-tables.field-0.0 [] _ (c.in_err-tables.ensures.bases [] (c.needed_tables-needed.ensures.plain none)))

pub returns-in_err-tables-clause-meant : goal.returns-in_err-tables-clause-meant
returns-in_err-tables-clause-meant g c = λ o found parameters tables may base on answers.
    let e = c.in_err-tables.field-0.0 in
    handed_on_as numbered_in c.from_residual.result e _ c.from_residual.ensures.1
    (fails_so Tables e _ (c.in_err-tables.ensures.meant may.in_domains tables may.meant).0)

pub returns-clause-plain : goal.returns-clause-plain
returns-clause-plain g c = λ o found none tables. c.choose_rows.ensures.plain o found none tables

pub returns-clause-meant : goal.returns-clause-meant
returns-clause-meant g c = λ o found parameters tables may base on answers.
    let names = c.args.names.now in
    let content = g.S.Store.content_now c.args.store.now in
    let columns = g.N.Names.column_kinds names in
    let user = c.args.call.now.user in
    let values = c.args.call.now.parameters.now in
    let conditions = map (λ (b : Bor BoundCond). b.now) c.args.levels.now in
    let context : Context = record c.args.call.now { bases = c.as_slice.result; views = c.as_slice-2.result } in
    let meant = (c.in_ok-tables.ensures.meant may.in_domains tables may.meant).1 in
    let whole = and_then o (chosen (is_true_of tables values user) conditions) in
    let same =
    same_rows (table_rows context) tables values user o conditions
    (all_conds_read_as c.needed_tables-needed.result content c.in_ok-tables.tables c.in_ok-tables.ensures.bases context c.as_slice.ensures.value c.as_slice-2.ensures.value tables meant conditions c.needed_tables-needed.ensures.reads)
    in
    exact numbered_in c.choose_rows.result (λ rows. ⊤) whole
    (means_as_same numbered_in c.choose_rows.result whole _ (sym same) (c.choose_rows.ensures.known o found (all_known_in columns parameters base context conditions on.well)))
    answers
