-- Left open for lend_each: that the loop keeps its invariant; answered by ExprRows.
use Rattle.sq_query.proofs.Keys.ExprRows.{one_lent}
use Rattle.sq_query.proofs.named_exprs.lend_each.Goals as goal

pub loop-expr-preserved : goal.loop-expr-preserved
loop-expr-preserved c =
    one_lent c.loop-expr.lent.items c.push.new.self.items c.lend.result c.args.exprs.now c.loop-expr.expr-index c.expr-item.result
    c.loop-expr-test.true c.expr-item.is c.lend.ensures c.in_ok-push.ensures.items c.loop-expr.invariant
