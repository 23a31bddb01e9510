-- Left open for is_quiet_expr: its result; answered by QuietLaws.
use Rattle.std.proofs.Common.{◌∙◌, Bool, [], sym, ap}
use Rattle.sq_meaning.specs.Quiet.{is_quiet_expr}
use Rattle.sq_bound.specs.Expression.{expr_of}
use Rattle.sq_bound.specs.declared.expression.BoundExpr.{BoundExpr}
use Rattle.sq_bound.proofs.QuietLaws.{alone, quiet-Signed, no_operation, operations, false_not}
use Rattle.sq_query.proofs.plain_view.+is_quiet_expr.Goals as goal

abbrev is_quiet_bound : BoundExpr → Bool
is_quiet_bound e = is_quiet_expr (expr_of [] e)

pub returns-in-Literal : goal.returns-in-Literal
returns-in-Literal t c = sym (alone _ c.in-Literal.is)

pub returns-in-Literal-2 : goal.returns-in-Literal-2
returns-in-Literal-2 t c = sym (alone _ c.in-Literal.is)

pub returns-in-Literal-3 : goal.returns-in-Literal-3
returns-in-Literal-3 t c = sym (alone _ c.in-Literal.is)

pub returns-in-Literal-4 : goal.returns-in-Literal-4
returns-in-Literal-4 t c = sym (alone _ c.in-Literal.is)

pub returns-in-Literal-5 : goal.returns-in-Literal-5
returns-in-Literal-5 t c = sym (alone _ c.in-Literal.is)

pub returns-in-Signed : goal.returns-in-Signed
returns-in-Signed t c = c.is_quiet_expr.ensures ∙ ap is_quiet_bound c.get.ensures ∙ sym (ap is_quiet_bound c.in-Signed.is ∙ quiet-Signed _ _)

pub returns-then-is_empty : goal.returns-then-is_empty
returns-then-is_empty t c =
    c.is_quiet_expr-then-is_empty.ensures ∙ ap is_quiet_bound c.get-then-is_empty.ensures
    ∙ sym (ap is_quiet_bound c.in-Operations.is ∙ no_operation c.in-Operations.first c.in-Operations.rest (c.is_empty.ensures.0 c.if-is_empty.true))

pub returns-else-is_empty : goal.returns-else-is_empty
returns-else-is_empty t c =
    c.if-is_empty.false ∙ sym (ap is_quiet_bound c.in-Operations.is ∙ operations c.in-Operations.first c.in-Operations.rest (λ none. false_not _ c.if-is_empty.false (c.is_empty.ensures.1 none)))
