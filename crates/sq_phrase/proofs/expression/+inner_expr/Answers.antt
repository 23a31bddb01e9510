-- Left open for inner_expr: the clause value; answered by laws of sq_grammar.
use Rattle.std.proofs.Common.{arith}
use Rattle.sq_grammar.specs.Expr.{inside}
use Rattle.sq_grammar.proofs.Reading.Many.{deeper}
use Rattle.sq_phrase.proofs.expression.+inner_expr.Goals as goal

pub returns-clause-value : goal.returns-clause-value
unfolding inside
returns-clause-value t c = rw (deeper (λ n. inside n c.args.tokens.now) c.args.left (omega arith)) c.expr.ensures.value
