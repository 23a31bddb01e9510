-- Left open for view_rows: the clause meant; answered by ReadTables.
use Rattle.sq_query.specs.Table.{rows_of_view}
use Rattle.sq_query.proofs.Needs.ReadTables.{rows_of_known}
use Rattle.sq_query.proofs.view.view_rows.Goals as goal

pub returns-clause-meant : goal.returns-clause-meant
returns-clause-meant c = λ tables notes numbers reads right.
    c.outcome_of_view.ensures.meant (rows_of_view tables c.args.user c.args.view.now.query)
    (rows_of_known _ c.args.view.now.query tables c.outermost_rows.result c.outermost_rows.ensures notes numbers reads right)
