-- Left open for select_list: the clause value; answered by laws of sq_grammar.
use Rattle.sq_grammar.proofs.Ends.Behind.{expr-behind}
use Rattle.sq_phrase.proofs.select.select_list.Goals as goal

pub returns-clause-value : goal.returns-clause-value
returns-clause-value c = rw (expr-behind c.args.left) at c.select_list.ensures.value
