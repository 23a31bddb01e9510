use Rattle.sq_phrase.proofs.condition.+inner.Given as goal

abbrev pub decreases-inner : goal.decreases-inner
decreases-inner l = l.left
