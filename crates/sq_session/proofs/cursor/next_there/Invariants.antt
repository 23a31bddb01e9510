use Rattle.std.proofs.Common.{◌≡◌}
use Rattle.sq_store.specs.Content.{table_at}
use Rattle.sq_session.proofs.Walks.NextNumber.{LooksOn}
use Rattle.sq_session.proofs.cursor.next_there.Given as goal

abbrev pub invariant-loop-place : goal.invariant-loop-place
-- those looked at have no row, and none was read
invariant-loop-place g l =
    LooksOn (table_at (g.S.Store.content_now l.store) l.cursor.table) l.left l.place × (l.meter ≡ l.fn.meter)
