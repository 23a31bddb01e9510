-- Left open for Catalog::push_followed: its result; answered without a law.
use Rattle.std.proofs.Common.{Bool, subst}
use Rattle.std.specs.Result.{OnOk}
use Rattle.sq_binding.specs.CreateView.{owner_grants}
use Rattle.sq_catalog.specs.Exact.{name_in}
use Rattle.sq_catalog.specs.Held.{privilege_of}
use Rattle.sq_catalog.specs.ViewGrants.{HoldsMore}
use Rattle.sq_catalog.proofs.catalog.Catalog.push_followed.Goals as goal

pub returns : goal.returns
returns c =
    subst (λ (b : Bool × Bool). OnOk c.push_owned.result (HoldsMore c.args.grants.now c.push_owned.new.grants (owner_grants c.args.owner (name_in c.args.over.now.view) b.0 b.1 (privilege_of c.args.own.now))))
    (λ i. (c.may-is_held.ensures i, c.may-can_grant.ensures i)) c.push_owned.ensures
