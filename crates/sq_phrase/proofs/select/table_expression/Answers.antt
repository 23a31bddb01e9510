-- Left open for table_expression: the clause value; answered by laws of sq_grammar.
use Rattle.sq_grammar.proofs.Ends.Behind.{cond-behind}
use Rattle.sq_phrase.proofs.select.table_expression.Goals as goal

pub returns-clause-value : goal.returns-clause-value
returns-clause-value c = rw (cond-behind c.args.left) at c.table_expression.ensures.value
