-- Left open for lines: that the loop keeps its invariant; answered by Joined.
use Rattle.sq_suite.proofs.Joined.{lines_next}
use Rattle.sq_suite.proofs.lines.lines.Goals as goal

pub loop-rest-preserved : goal.loop-rest-preserved
loop-rest-preserved c =
    lines_next c.loop-rest.lines.items _ c.split_at.result.0 c.loop-rest.rest.now _ _ c.in_ok-push.ensures.items c.split_at.ensures.by_index.0
    c.loop-rest.invariant
