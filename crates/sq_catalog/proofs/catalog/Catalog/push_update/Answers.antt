-- Left open for Catalog::push_update: its result; answered by ViewHeld.
use Rattle.sq_binding.specs.Seen.{numbered_of}
use Rattle.sq_catalog.specs.Exact.{declared, names_in}
use Rattle.sq_catalog.proofs.CreateView.ViewHeld.{if_ok, update_none, update_shown}
use Rattle.sq_catalog.proofs.catalog.Catalog.push_update.Goals as goal

pub returns-in-Some : goal.returns-in-Some
returns-in-Some c =
    if_ok c.push_followed.result
    (update_shown (declared c.args.self.now) c.args.owner c.args.over.now (names_in c.args.underneath.now) c.args.name c.in-Some.below (numbered_of c.args.expr.now) c.args.grants.now c.push_followed.new.grants c.in-Some.ensures) c.push_followed.ensures

pub returns-in-None : goal.returns-in-None
returns-in-None c = update_none (declared c.args.self.now) c.args.owner c.args.over.now (names_in c.args.underneath.now) c.args.name (numbered_of c.args.expr.now) c.args.grants.now c.in-None.ensures
