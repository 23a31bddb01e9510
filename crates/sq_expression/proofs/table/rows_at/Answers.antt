-- Left open for rows_at: its result; answered by Groups and Tables.
use Rattle.sq_expression.specs.Group.{rows_of_line}
use Rattle.sq_expression.proofs.Groups.{meets_as_same}
use Rattle.sq_expression.proofs.Tables.{view_rows_there}
use Rattle.sq_expression.proofs.table.rows_at.Goals as goal

pub returns-in-View : goal.returns-in-View
returns-in-View c =
    meets_as_same rows_of_line c.view_rows_at.result _ _ (view_rows_there c.args.context.now c.args.place c.in-View.place c.in-View.is) c.view_rows_at.ensures
