use Rattle.std.proofs.Common.{◌≡◌, length, take}
use Rattle.sq_session.specs.Cursors.{AreThere, go_on, put_all}
use Rattle.sq_session.proofs.walk_list.listed_walks.Given as goal

-- with the lists so far put in place, the first cursors go on
abbrev pub invariant-loop-number : goal.invariant-loop-number
invariant-loop-number g l = (put_all l.cursors l.lists.items ≡ go_on l.statement l.on (g.S.Store.content_now l.store) (take l.number l.called.cursors.now) l.cursors)
    × AreThere (length l.cursors) l.lists.items
