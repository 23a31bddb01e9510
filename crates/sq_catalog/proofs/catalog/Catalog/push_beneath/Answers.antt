-- Left open for Catalog::push_beneath: its result; answered by ViewHeld.
use Rattle.std.proofs.Common.{refl}
use Rattle.sq_catalog.specs.Exact.{declared}
use Rattle.sq_catalog.proofs.CreateView.ViewHeld.{beneath_none, beneath_some, if_ok}
use Rattle.sq_catalog.proofs.catalog.Catalog.push_beneath.Goals as goal

pub returns-in-None : goal.returns-in-None
returns-in-None c = beneath_none (declared c.args.self.now) c.args.owner c.args.view.now c.args.names.now c.args.bound.now c.args.grants.now c.in-None.is

pub returns-in-Some : goal.returns-in-Some
returns-in-Some c =
    if_ok c.push_over.result (beneath_some (declared c.args.self.now) c.args.owner c.args.view.now c.args.names.now c.args.bound.now _ _ c.as_slice.result.now c.args.grants.now c.push_over.new.grants c.in-Some.is refl c.as_slice.ensures) c.push_over.ensures
