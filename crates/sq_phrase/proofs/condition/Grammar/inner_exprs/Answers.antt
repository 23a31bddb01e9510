-- Left open for Grammar::inner_exprs: the clause value; answered without a law.
use Rattle.std.proofs.Common.{rules}
use Rattle.sq_grammar.specs.Expr.{inside}
use Rattle.sq_phrase.proofs.condition.Grammar.inner_exprs.Goals as goal

pub returns-clause-value : goal.returns-clause-value
returns-clause-value g c = c.comma_list.ensures.value (inside c.args.self.now.left) (search rules)
