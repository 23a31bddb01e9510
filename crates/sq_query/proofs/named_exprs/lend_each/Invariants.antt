use Rattle.std.proofs.Common.{◌≡◌, take}
use Rattle.sq_query.proofs.Keys.ExprRows.{lent_exprs}
use Rattle.sq_query.proofs.named_exprs.lend_each.Given as goal

abbrev pub invariant-loop-expr : goal.invariant-loop-expr
invariant-loop-expr l = lent_exprs l.lent.items ≡ take l.expr-index l.exprs
