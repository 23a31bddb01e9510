-- Left open for lend_conditions: that the loop keeps its invariant; answered by Levels.
use Rattle.sq_query.proofs.Targets.Levels.{lent_more}
use Rattle.sq_query.proofs.target.lend_conditions.Goals as goal

pub loop-condition-preserved : goal.loop-condition-preserved
loop-condition-preserved c =
    lent_more c.loop-condition.levels.items c.push.new.self.items c.get.result c.args.conditions.now c.loop-condition.condition-index c.condition-item.result
    c.loop-condition-test.true c.condition-item.is c.get.ensures c.in_ok-push.ensures.items c.loop-condition.invariant
