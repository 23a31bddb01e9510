-- Left open for push_actions: that the loop keeps its invariant; answered by Pushed.
use Rattle.std.proofs.Common.{map}
use Rattle.sq_meaning.specs.SchemaRefusal.{action_privileges}
use Rattle.sq_catalog.specs.Held.{privilege_of}
use Rattle.sq_catalog.proofs.OneByOne.Pushed.{joined_behind}
use Rattle.sq_catalog.proofs.privilege.push_actions.Goals as goal

pub loop-action-preserved : goal.loop-action-preserved
loop-action-preserved c =
    joined_behind (action_privileges c.args.columns.now) (map privilege_of c.args.privileges.now) c.args.actions.now c.loop-action.action-index c.action-item.result (map privilege_of c.loop-action.privileges) _
    c.loop-action-test.true c.action-item.is c.in_ok-push_action.ensures c.loop-action.invariant
