-- Left open: the result, that no number overflows, the loop's invariant, and that the loop ends; answered by NumberAt.
use Rattle.std.proofs.Common.{◌≡◌, ◌+◌, List, None, arith, ap, length, rules, slice_get, sym}
use Rattle.sq_store.specs.Content.{first_from, table_at}
use Rattle.sq_store.specs.declared.table.Numbered.{Numbered}
use Rattle.sq_store.proofs.Walk.{rows_from, rows_from_none, rows_from_zero, walked, walked_below}
use Rattle.sq_ending.proofs.NumberAt.{not_reached, passed, reached}
use Rattle.sq_ending.proofs.number.row_number.Goals as goal

pub overflow_add-number : goal.overflow_add-number
overflow_add-number g c =
    let store = c.args.store.now in
    omega (arith, g.met.S.Store.limited store, walked_below (g.S.Store.row_numbers store) (g.S.Store.content_now store) c.args.table c.loop-found.number (record { number = c.in-Some.found; row = c.in-Some.field-0-1.now }) (g.met.S.Store.rises store) c.in-Some.ensures.row)

pub loop-found-smaller : goal.loop-found-smaller
loop-found-smaller g c =
    let store = c.args.store.now in
    let next = walked (g.S.Store.row_numbers store) (g.S.Store.content_now store) c.args.table c.loop-found.number (record { number = c.in-Some.found; row = c.in-Some.field-0-1.now }) (g.met.S.Store.rises store) c.in-Some.ensures.row in
    let size = ap length next in
    omega (arith, size)

pub loop-found-init : goal.loop-found-init
loop-found-init g c =
    let t = table_at (g.S.Store.content_now c.args.store.now) c.args.table in
    sym (ap (λ (rs : List Numbered). slice_get rs c.args.place) (rows_from_zero t.rows))

pub loop-found-preserved : goal.loop-found-preserved
loop-found-preserved g c =
    let store = c.args.store.now in
    let t = table_at (g.S.Store.content_now store) c.args.table in
    let r : Numbered = record { number = c.in-Some.found; row = c.in-Some.field-0-1.now } in
    passed t.rows (rows_from c.loop-found.number t.rows) (rows_from (c.in-Some.found + 1) t.rows) c.args.place c.loop-found.left r c.loop-found.invariant
    (walked (g.S.Store.row_numbers store) (g.S.Store.content_now store) c.args.table c.loop-found.number r (g.met.S.Store.rises store) c.in-Some.ensures.row) c.if-left-eq0.false

pub returns-then-left-eq0 : goal.returns-then-left-eq0
returns-then-left-eq0 g c =
    let store = c.args.store.now in
    let t = table_at (g.S.Store.content_now store) c.args.table in
    let r : Numbered = record { number = c.in-Some.found; row = c.in-Some.field-0-1.now } in
    reached t.rows (rows_from c.loop-found.number t.rows) (rows_from (c.in-Some.found + 1) t.rows) c.args.place c.loop-found.left r c.loop-found.invariant
    (walked (g.S.Store.row_numbers store) (g.S.Store.content_now store) c.args.table c.loop-found.number r (g.met.S.Store.rises store) c.in-Some.ensures.row) c.if-left-eq0.true

pub returns : goal.returns
returns g c =
    let t = table_at (g.S.Store.content_now c.args.store.now) c.args.table in
    let none : first_from t c.loop-found.number ≡ None = search rules in
    not_reached t.rows (rows_from c.loop-found.number t.rows) c.args.place c.loop-found.left c.loop-found.invariant (rows_from_none c.loop-found.number t.rows none)
