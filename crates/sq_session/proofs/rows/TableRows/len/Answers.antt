-- Left open for TableRows::len: that no number overflows; answered by TableWalk.
use Rattle.std.proofs.Common.{arith, ap, length}
use Rattle.sq_session.proofs.Walks.TableWalk.{rows_counted}
use Rattle.sq_session.proofs.rows.TableRows.len.Goals as goal

pub overflow_add-count : goal.overflow_add-count
overflow_add-count g c =
    let store = c.self.inside.store.now in
    let all = ap length c.self.view_is in
    let counted = rows_counted (g.S.Store.row_numbers store) (g.S.Store.content_now store) c.self.inside.table c.self.inside.next (g.met.S.Store.rises store) in
    omega (arith, c.loop-rows.invariant, all, counted, g.met.S.Store.limited store)
