use Rattle.std.proofs.Common.{◌≡◌, length}
use Rattle.std.specs.Vec.Iter.{into_iter_items, into_iter_len}
use Rattle.sq_session.specs.Cursors.{AreThere, put_all}
use Rattle.sq_session.proofs.cursors.put_lists.Given as goal

-- with those that are left to put, the cursors are as wanted
abbrev pub invariant-loop-list : goal.invariant-loop-list
invariant-loop-list l = (put_all l.cursors (into_iter_items l.list-iterator) ≡ put_all l.initial.cursors (into_iter_items l.initial.list-iterator))
    × AreThere (length l.cursors) (into_iter_items l.list-iterator)
    × (into_iter_len l.list-iterator ≡ length (into_iter_items l.list-iterator))
