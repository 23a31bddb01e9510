-- Left open: the clauses steps and goes, and that no number overflows; answered by laws of sq_store.
use Rattle.std.proofs.Common.{length, arith, ap, sym, ◌∙◌}
use Rattle.sq_store.specs.Content.{table_at}
use Rattle.sq_store.proofs.Walk.{rows_from_none, walked, walked_below}
use Rattle.sq_session.proofs.rows.TableRowsIterator.next.Goals as goal

pub returns-in_err-number-clause-steps : goal.returns-in_err-number-clause-steps
returns-in_err-number-clause-steps g c =
    let rows = (table_at (g.S.Store.content_now c.self.inside.store.now) c.self.inside.table).rows in
    let none = sym c.self.view_is ∙ rows_from_none c.self.inside.next rows c.in_err-number.ensures.row in
    rw c.from_residual.ensures (none, none)

pub overflow_add-self : goal.overflow_add-self
overflow_add-self g c =
    let store = c.self.inside.store.now in
    omega (arith, g.met.S.Store.limited store, walked_below (g.S.Store.row_numbers store) (g.S.Store.content_now store) c.self.inside.table c.self.inside.next (record { number = c.in_ok-number.number; row = c.in_ok-number.row.now }) (g.met.S.Store.rises store) c.in_ok-number.ensures.row)

pub returns-clause-steps : goal.returns-clause-steps
returns-clause-steps g c =
    let store = c.self.inside.store.now in
    sym c.self.view_is ∙ walked (g.S.Store.row_numbers store) (g.S.Store.content_now store) c.self.inside.table c.self.inside.next (record { number = c.in_ok-number.number; row = c.in_ok-number.row.now }) (g.met.S.Store.rises store) c.in_ok-number.ensures.row

pub returns-clause-goes : goal.returns-clause-goes
returns-clause-goes g c =
    let store = c.self.inside.store.now in
    let next = sym c.self.view_is ∙ walked (g.S.Store.row_numbers store) (g.S.Store.content_now store) c.self.inside.table c.self.inside.next (record { number = c.in_ok-number.number; row = c.in_ok-number.row.now }) (g.met.S.Store.rises store) c.in_ok-number.ensures.row in
    let size = ap length next in
    record { on = λ f. (tt, tt, omega (arith, size)); keeps = tt; rests = λ f. tt }
