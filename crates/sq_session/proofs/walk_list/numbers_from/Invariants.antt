use Rattle.std.proofs.Common.{◌≡◌, ◌++◌, ◌-◌}
use Rattle.sq_store.specs.Content.{table_at}
use Rattle.sq_query.specs.Target.{conditions_of}
use Rattle.sq_session.specs.Walk.{numbers_meant}
use Rattle.sq_session.proofs.walk_list.numbers_from.Given as goal

-- the numbers so far, and those from the number on
abbrev pub invariant-loop-numbers : goal.invariant-loop-numbers
invariant-loop-numbers g l =
    let rows = (table_at (g.S.Store.content_now l.store) l.walk.table).rows in
    let conditions = conditions_of l.walk.target.now in
    numbers_meant conditions l.walk.values.now l.walk.user l.from l.mark rows ≡ l.numbers ++ numbers_meant conditions l.walk.values.now l.walk.user l.number l.mark rows

abbrev pub decreases-loop-numbers : goal.decreases-loop-numbers
decreases-loop-numbers g l = l.mark - l.number
