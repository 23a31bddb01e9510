-- Left open for Catalog::push_over: its result; answered by ViewHeld.
use Rattle.std.proofs.Common.{ap, sym, ◌∙◌}
use Rattle.sq_catalog.specs.Exact.{declared, entry_declared, names_in}
use Rattle.sq_catalog.proofs.CreateView.ViewHeld.{entry_names, if_ok, over_none, over_some}
use Rattle.sq_catalog.proofs.catalog.Catalog.push_over.Goals as goal

pub returns-in-Some : goal.returns-in-Some
returns-in-Some c =
    let t = c.in-Some.table.now in
    if_ok c.push_updates.result
    (over_some (declared c.args.self.now) c.args.owner c.args.over.now c.args.names.now c.args.shown.now c.args.grants.now c.push_followed.new.grants c.push_followed-2.new.grants c.push_updates.new.grants
    (entry_declared c.args.over.now.under t) (names_in c.as_slice.result.now) (sym c.in-Some.ensures.exact)
    (entry_names c.args.over.now.under t c.args.self.now.bases t.body c.in-Some.ensures.of.stored.body ∙ ap names_in (sym c.as_slice.ensures)) c.in_ok-push_followed.ensures c.in_ok-push_followed-2.ensures) c.push_updates.ensures

pub returns-in-None : goal.returns-in-None
returns-in-None c =
    over_none (declared c.args.self.now) c.args.owner c.args.over.now c.args.names.now c.args.shown.now c.args.grants.now c.push_followed.new.grants c.push_followed-2.new.grants (sym c.in-None.ensures.exact)
    c.in_ok-push_followed.ensures c.in_ok-push_followed-2.ensures
