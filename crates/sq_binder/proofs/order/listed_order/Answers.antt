-- Left open: the result, and that the loop starts with its invariant; answered by InTurn, Orders and Turns.
use Rattle.std.proofs.Common.{List, sym, ap, subst, ◌∙◌}
use Rattle.sq_tree.specs.declared.«module».SortSpecification.{SortSpecification}
use Rattle.sq_meaning.specs.Spelled.{listed}
use Rattle.sq_binding.specs.Order.{order_bound, sort_column_bound}
use Rattle.sq_binder.proofs.OneByOne.InTurn.{itself}
use Rattle.sq_binder.specs.InTurn.{in_turn}
use Rattle.sq_binder.specs.Order.{names_seen}
use Rattle.sq_binder.proofs.WholeQueries.Orders.{orders_in_turn}
use Rattle.sq_binder.proofs.OneByOne.Turns.{Grown, first_grown, next_stops}
use Rattle.sq_binding.specs.SeenQuery.{sort_seen}
use Rattle.sq_binder.proofs.order.listed_order.Goals as goal

pub loop-sort-init : goal.loop-sort-init
loop-sort-init c =
    let f = sort_column_bound (names_seen c.args.columns.now) in
    let same = λ (s : SortSpecification). s in
    let list = listed c.args.list.now in
    let whole = order_bound (names_seen c.args.columns.now) list in
    subst (λ (items : List SortSpecification). Grown sort_seen f same whole c.in_ok-sorts.sorts items) (sym c.as_slice-sort-items.ensures)
    (first_grown sort_seen f same whole c.args.list.now.first c.args.list.now.rest c.new.result c.sort_column-first.result c.in_ok-sorts.sorts
    (orders_in_turn (names_seen c.args.columns.now) list ∙ ap (in_turn f) (sym (itself list))) c.new.ensures c.sort_column-first.ensures c.in_ok-sorts.ensures)

pub returns-in-Err : goal.returns-in-Err
returns-in-Err c =
    let f = sort_column_bound (names_seen c.args.columns.now) in
    let same = λ (s : SortSpecification). s in
    next_stops sort_seen f same (order_bound (names_seen c.args.columns.now) (listed c.args.list.now)) c.as_slice-sort-items.result.now c.loop-sort.sort-index c.loop-sort.sorts c.sort-item.result
    c.sort_column-next.result c.in-Err.stop c.loop-sort-test.true c.sort-item.is c.loop-sort.invariant c.sort_column-next.ensures c.in-Err.ensures
