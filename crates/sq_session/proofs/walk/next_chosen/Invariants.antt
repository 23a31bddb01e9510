use Rattle.std.proofs.Common.{◌≡◌, ◌≤◌, ◌+◌, ◌-◌}
use Rattle.sq_store.specs.Content.{table_at}
use Rattle.sq_query.specs.Target.{conditions_of}
use Rattle.sq_session.specs.Walk.{first_meant}
use Rattle.sq_session.proofs.walk.next_chosen.Given as goal

-- none is meant before the number, and no more rows are read than numbers are passed
abbrev pub invariant-loop-found : goal.invariant-loop-found
invariant-loop-found g l =
    let rows = (table_at (g.S.Store.content_now l.store) l.walk.table).rows in
    let conditions = conditions_of l.walk.target.now in
    (l.from ≤ l.number) × (first_meant conditions l.walk.values.now l.walk.user l.from l.mark rows ≡ first_meant conditions l.walk.values.now l.walk.user l.number l.mark rows)
    × (l.meter + (l.from - 1) ≤ l.fn.meter + (l.number - 1))

abbrev pub decreases-loop-found : goal.decreases-loop-found
decreases-loop-found g l = l.mark - l.number
