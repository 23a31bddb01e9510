-- Left open for compared_exprs: its result; answered by ExprRows.
use Rattle.std.proofs.Common.{◌∙◌, List, ap, subst, sym}
use Rattle.sq_bound.specs.declared.condition.Predicate.TheVariants as bound
use Rattle.sq_bound.specs.declared.expression.BoundExpr.{BoundExpr}
use Rattle.sq_query.specs.Ways.{IsFoundByTest}
use Rattle.sq_query.specs.declared.named.Sure.TheVariants.{Unnoted}
use Rattle.sq_query.proofs.Keys.ExprRows.{by_equality, by_list}
use Rattle.sq_query.proofs.named_exprs.compared_exprs.Goals as goal

pub returns-then-is_column_in : goal.returns-then-is_column_in
returns-then-is_column_in c =
    let at = c.is_column_in.ensures c.if-is_column_in.true in
    by_list c.args.item c.args.column c.args.test.now c.in-InList.is_negated c.in-InList.operand c.as_slice.result.now at.0 at.1
    (c.in-InList.is ∙ ap (bound.InList c.in-InList.is_negated c.in-InList.operand) (sym c.as_slice.ensures)) at.2

pub returns-in-Some : goal.returns-in-Some
returns-in-Some c =
    subst (λ (es : List BoundExpr). IsFoundByTest c.args.item Unnoted c.args.test.now c.args.column es) (sym c.from_ref.ensures.value)
    (by_equality c.args.item c.args.column c.in-Some.expr.now c.args.test.now c.in-Some.ensures)
