-- Left open for push_for_each: that the loop keeps its invariant; answered by Pushed.
use Rattle.std.proofs.Common.{map}
use Rattle.sq_binding.specs.Grant.{grants_to}
use Rattle.sq_catalog.specs.Exact.{name_in}
use Rattle.sq_catalog.specs.Held.{grant_seen, privilege_of}
use Rattle.sq_catalog.proofs.OneByOne.Pushed.{joined_behind}
use Rattle.sq_catalog.proofs.grant.push_for_each.Goals as goal

pub loop-grantee-preserved : goal.loop-grantee-preserved
loop-grantee-preserved c =
    joined_behind (grants_to (name_in c.args.table.now) (map privilege_of c.args.privileges.now) c.args.to_grant) (map grant_seen c.args.grants.now) c.args.grantees.now c.loop-grantee.grantee-index c.grantee-item.result (map grant_seen c.loop-grantee.grants) _
    c.loop-grantee-test.true c.grantee-item.is c.in_ok-push_for.ensures c.loop-grantee.invariant
