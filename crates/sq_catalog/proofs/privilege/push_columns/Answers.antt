-- Left open for push_columns: that the loop keeps its invariant; answered by Pushed.
use Rattle.std.proofs.Common.{map}
use Rattle.sq_catalog.specs.Held.{privilege_of, privilege_on}
use Rattle.sq_catalog.proofs.OneByOne.Pushed.{pushed_behind}
use Rattle.sq_catalog.proofs.privilege.push_columns.Goals as goal

pub loop-column-preserved : goal.loop-column-preserved
loop-column-preserved c =
    pushed_behind privilege_of (privilege_on c.args.action) (map privilege_of c.args.privileges.now) c.args.columns.now c.loop-column.column-index c.column-item.result c.loop-column.privileges _ _
    c.loop-column-test.true c.column-item.is c.in_ok-push.ensures.ok c.on.ensures c.loop-column.invariant
