-- Left open for rows_of_kept: its result; answered without a law.
use Rattle.std.proofs.Common.{List, None, Option, subst, sym}
use Rattle.sq_bound.specs.declared.condition.BoundSpecification.{out-BoundSpecification}
use Rattle.sq_bound.specs.declared.condition.Grouping.{Grouping}
use Rattle.sq_bound.specs.declared.expression.BoundExpr.{BoundExpr}
use Rattle.sq_expression.specs.Fault.{HasRows}
use Rattle.sq_query.specs.SingleRow.{lines_of_row, listed_by}
use Rattle.sq_query.proofs.single_row.rows_of_kept.Goals as goal

pub returns-in-None : goal.returns-in-None
returns-in-None c =
    let o = out-BoundSpecification c.args.query.now in
    let listed = λ (list : List BoundExpr) (h : Option Grouping). HasRows c.row_listed.result (listed_by o.distinct list h c.args.call.now (lines_of_row c.args.kept)) in
    subst (listed o.list) (sym c.in-None.is) (subst (λ (list : List BoundExpr). listed list None) c.as_slice-list.ensures (c.row_listed.ensures o.distinct))
