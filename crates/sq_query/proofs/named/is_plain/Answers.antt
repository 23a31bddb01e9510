-- Left open for is_plain: its result; answered by laws of sq_bound.
use Rattle.sq_bound.proofs.QuietLaws.{alone}
use Rattle.sq_query.proofs.named.is_plain.Goals as goal

pub returns-in-Literal : goal.returns-in-Literal
returns-in-Literal c = λ yes. alone c.args.expr.now c.in-Literal.is

pub returns-in-Literal-2 : goal.returns-in-Literal-2
returns-in-Literal-2 c = λ yes. alone c.args.expr.now c.in-Literal.is

pub returns-in-Literal-3 : goal.returns-in-Literal-3
returns-in-Literal-3 c = λ yes. alone c.args.expr.now c.in-Literal.is

pub returns-in-Literal-4 : goal.returns-in-Literal-4
returns-in-Literal-4 c = λ yes. alone c.args.expr.now c.in-Literal.is

pub returns-in-Literal-5 : goal.returns-in-Literal-5
returns-in-Literal-5 c = λ yes. alone c.args.expr.now c.in-Literal.is
