-- Left open: the result, that a place is within its list, and the loop's invariant; answered by GoOn.
use Rattle.std.proofs.Common.{◌≡◌, ◌∙◌, ◌∷◌, [], length, sym, ap, arith}
use Rattle.std.specs.Vec.Iter.{into_iter_items}
use Rattle.sq_session.specs.Cursors.{AreThere, put_all}
use Rattle.sq_session.proofs.OpenCursors.GoOn.{none_left, put_there}
use Rattle.sq_session.proofs.cursors.put_lists.Goals as goal

pub bounds-cursors-list : goal.bounds-cursors-list
bounds-cursors-list c =
    let at = c.loop-list in
    let steps : into_iter_items at.list-iterator ≡ c.in-Some.list ∷ into_iter_items c.next.new.self = c.in-Some.ensures.steps.0 in
    let there : AreThere (length at.cursors) (c.in-Some.list ∷ into_iter_items c.next.new.self) = rw steps at at.invariant.1 in
    there.0

pub loop-list-preserved : goal.loop-list-preserved
loop-list-preserved c =
    let at = c.loop-list in
    let steps : into_iter_items at.list-iterator ≡ c.in-Some.list ∷ into_iter_items c.next.new.self = c.in-Some.ensures.steps.0 in
    let there : AreThere (length at.cursors) (c.in-Some.list ∷ into_iter_items c.next.new.self) = rw steps at at.invariant.1 in
    (rw steps at at.invariant.0, put_there at.cursors c.in-Some.list (into_iter_items c.next.new.self) there.1, let short = ap length steps in omega (arith, short, at.invariant.2, c.in-Some.ensures.steps.1))

pub returns : goal.returns
returns c =
    let at = c.loop-list in
    let none : into_iter_items at.list-iterator ≡ [] = none_left (into_iter_items at.list-iterator) (sym at.invariant.2 ∙ c.in-None.ensures.steps.0) in
    rw none at at.invariant.0 ∙ ap (put_all c.args.cursors.now) c.into_iter-list-iterator.ensures.into_iter_gives.0
