-- Left open for Held::add_all: that the loop keeps its invariant; answered by Pushed.
use Rattle.std.proofs.Common.{ap, sym, ◌∙◌}
use Rattle.sq_binding.specs.Catalog.{with_grant}
use Rattle.sq_catalog.specs.Held.{grant_seen, grants_held}
use Rattle.sq_catalog.proofs.OneByOne.Pushed.{fold_read}
use Rattle.sq_catalog.proofs.held.Held.add_all.Goals as goal

pub loop-grant-preserved : goal.loop-grant-preserved
loop-grant-preserved c =
    c.in_ok-add.ensures.added ∙ ap (λ held. with_grant held (grant_seen c.grant-item.result)) c.loop-grant.invariant
    ∙ sym (fold_read with_grant (grants_held c.args.self.now) grant_seen c.args.grants.now c.loop-grant.grant-index c.grant-item.result c.loop-grant-test.true c.grant-item.is)
