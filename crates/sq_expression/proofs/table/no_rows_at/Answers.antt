-- Left open for no_rows_at: its result; answered by LeftOut and Tables.
use Rattle.std.specs.Prelude.{⊤}
use Rattle.sq_expression.proofs.LeftOut.{but_same}
use Rattle.sq_expression.proofs.Tables.{view_rows_there}
use Rattle.sq_expression.proofs.table.no_rows_at.Goals as goal

pub returns-in-View : goal.returns-in-View
returns-in-View c =
    but_same (λ row. ⊤) c.no_view_rows.result _ _ (view_rows_there c.args.context.now c.args.place c.in-View.place c.in-View.is) c.no_view_rows.ensures
