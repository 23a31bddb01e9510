-- Left open: its result, that no number overflows, the loop's invariant, and that the loop ends; answered by WalkedRows.
use Rattle.std.proofs.Common.{◌≡◌, ◌∙◌, ◌+◌, ◌++◌, List, None, Bor, length, arith, ap, refl, rules}
use Rattle.sq_store.specs.Content.{first_from, table_at}
use Rattle.sq_store.specs.declared.table.Numbered.{Numbered}
use Rattle.sq_store.proofs.Walk.{rows_from, rows_from_zero, walked, walked_below}
use Rattle.sq_meaning.specs.Environment.{Row}
use Rattle.sq_expression.specs.Frame.{lent}
use Rattle.sq_query.specs.Valued.{may_have_one}
use Rattle.sq_query.proofs.Targets.WalkedRows.{made_all, made_on, passing, passing_in_turn, pushed_if}
use Rattle.sq_query.proofs.valued.rows_by_walk.Goals as goal

pub overflow_add-number : goal.overflow_add-number
overflow_add-number g c =
    let store = c.args.store.now in
    omega (arith, g.met.S.Store.limited store, walked_below (g.S.Store.row_numbers store) (g.S.Store.content_now store) c.args.base c.loop-found.number (record { number = c.in-Some.found; row = c.in-Some.row.now }) (g.met.S.Store.rises store) c.in-Some.ensures.row)

pub loop-found-smaller : goal.loop-found-smaller
loop-found-smaller g c =
    let store = c.args.store.now in
    let next = walked (g.S.Store.row_numbers store) (g.S.Store.content_now store) c.args.base c.loop-found.number (record { number = c.in-Some.found; row = c.in-Some.row.now }) (g.met.S.Store.rises store) c.in-Some.ensures.row in
    let size = ap length next in
    omega (arith, size)

pub loop-found-init : goal.loop-found-init
loop-found-init g c =
    let t = table_at (g.S.Store.content_now c.args.store.now) c.args.base in
    let made = passing (may_have_one c.args.column c.args.values.now) in
    ap (λ (l : List (Bor Row)). lent l ++ made (rows_from 0 t.rows)) c.new-rows.ensures.items
    ∙ ap made (rows_from_zero t.rows)

pub loop-found-preserved : goal.loop-found-preserved
loop-found-preserved g c =
    let store = c.args.store.now in
    let t = table_at (g.S.Store.content_now store) c.args.base in
    let test = may_have_one c.args.column c.args.values.now in
    let r : Numbered = record { number = c.in-Some.found; row = c.in-Some.row.now } in
    made_on (passing test) (passing_in_turn test) (lent c.loop-found.rows.items) (lent c.push_if.new.rows.items) r c.loop-found.number (c.in-Some.found + 1) t.rows
    (pushed_if test c.loop-found.rows.items c.push_if.new.rows.items c.in-Some.row c.in-Some.found c.may_have_one.result (c.may_have_one.ensures ∙ ap test c.as_slice.ensures) c.in_ok-push_if.ensures)
    c.loop-found.invariant
    (walked (g.S.Store.row_numbers store) (g.S.Store.content_now store) c.args.base c.loop-found.number r (g.met.S.Store.rises store) c.in-Some.ensures.row)

pub returns : goal.returns
returns g c =
    let t = table_at (g.S.Store.content_now c.args.store.now) c.args.base in
    let test = may_have_one c.args.column c.args.values.now in
    let none : first_from t c.loop-found.number ≡ None = search rules in
    (refl, made_all (passing test) (passing_in_turn test) (lent c.loop-found.rows.items) c.loop-found.number t.rows refl none c.loop-found.invariant)
