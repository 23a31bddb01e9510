-- Left open for Catalog::view_grants: its result; answered by ViewHeld.
use Rattle.sq_catalog.specs.Exact.{declared}
use Rattle.sq_catalog.proofs.CreateView.ViewHeld.{view_held}
use Rattle.sq_catalog.proofs.catalog.Catalog.view_grants.Goals as goal

pub returns : goal.returns
returns c =
    view_held (declared c.args.self.now) c.args.owner c.args.view.now c.args.names.now c.args.bound.now c.new-grants.result c.push_owned.new.grants c.push_beneath.new.grants c.new-grants.ensures c.in_ok-push_owned.ensures c.in_ok-push_beneath.ensures
