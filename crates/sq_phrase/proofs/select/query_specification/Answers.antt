-- Left open for query_specification: the clause value; answered by laws of sq_grammar.
use Rattle.sq_grammar.proofs.Ends.Behind.{expr-behind, cond-behind}
use Rattle.sq_phrase.proofs.select.query_specification.Goals as goal

pub returns-clause-value : goal.returns-clause-value
returns-clause-value c = rw (expr-behind c.args.left, cond-behind c.args.left) at c.inner_query.ensures.value
