-- Left open: the result, and that the loop keeps its invariant; answered by ViewHeld.
use Rattle.std.proofs.Common.{refl, rules, length, ◌++◌, map}
use Rattle.std.proofs.lemmas.List.{length_push}
use Rattle.std.proofs.lemmas.Slice.Zip.{zip_end, zip_turn}
use Rattle.sq_catalog.specs.Exact.{declared, names_in}
use Rattle.sq_catalog.specs.Held.{grant_seen}
use Rattle.sq_catalog.proofs.CreateView.ViewHeld.{left, left_all, left_next}
use Rattle.sq_catalog.proofs.catalog.Catalog.push_updates.Goals as goal

pub loop-name-init : goal.loop-name-init
loop-name-init c = refl

pub loop-name-preserved : goal.loop-name-preserved
loop-name-preserved c =
    let turn =
    zip_turn c.args.names.now c.args.shown.now c.loop-name.yielded c.into_iter-name-iterator.result c.loop-name.name-iterator c.next.new.self c.next.result (search rules) (search rules)
    c.loop-name.yielded_by (c.in-Some.name, c.in-Some.expr) c.in-Some.is c.next.ensures.steps in
    let d = declared c.args.self.now in
    let underneath = names_in c.args.underneath.now in
    left_next d c.args.owner c.args.over.now underneath c.args.names.now c.args.shown.now (length c.loop-name.yielded) _ c.in-Some.name.now c.in-Some.expr.now
    (length_push c.loop-name.yielded (c.in-Some.name, c.in-Some.expr)) turn.0 turn.1 (turn.2 c.in-Some.name.now) (turn.3 c.in-Some.expr.now)
    (map grant_seen c.args.grants.now ++ left d c.args.owner c.args.over.now underneath c.args.names.now c.args.shown.now) c.loop-name.grants c.push_update.new.grants c.loop-name.invariant c.in_ok-push_update.ensures

pub returns : goal.returns
returns c =
    let ended =
    zip_end c.args.names.now c.args.shown.now c.loop-name.yielded c.into_iter-name-iterator.result c.loop-name.name-iterator c.next.new.self c.next.result (search rules) (search rules)
    c.loop-name.yielded_by c.in-None.is c.next.ensures.steps in
    left_all (declared c.args.self.now) c.args.owner c.args.over.now (names_in c.args.underneath.now) c.args.names.now c.args.shown.now (length c.loop-name.yielded) c.args.grants.now c.loop-name.grants ended c.loop-name.invariant
