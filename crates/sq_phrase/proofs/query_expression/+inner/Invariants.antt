use Rattle.sq_phrase.proofs.query_expression.+inner.Given as goal

abbrev pub decreases-inner : goal.decreases-inner
decreases-inner l = l.left
