use Rattle.sq_phrase.proofs.expression.+inner_expr.Given as goal

abbrev pub decreases-inner_expr : goal.decreases-inner_expr
decreases-inner_expr l = l.left
