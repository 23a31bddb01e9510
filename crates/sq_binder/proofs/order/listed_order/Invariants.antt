use Rattle.std.proofs.Common.{drop}
use Rattle.sq_tree.specs.declared.«module».SortSpecification.{SortSpecification}
use Rattle.sq_meaning.specs.Spelled.{listed}
use Rattle.sq_binding.specs.Order.{order_bound, sort_column_bound}
use Rattle.sq_binder.specs.Order.{names_seen}
use Rattle.sq_binder.proofs.OneByOne.Turns.{Grown}
use Rattle.sq_binding.specs.SeenQuery.{sort_seen}
use Rattle.sq_binder.proofs.order.listed_order.Given as goal

abbrev pub invariant-loop-sort : goal.invariant-loop-sort
invariant-loop-sort l =
    let names = names_seen l.columns in
    let same = λ (s : SortSpecification). s in
    Grown sort_seen (sort_column_bound names) same (order_bound names (listed l.list)) l.sorts (drop l.sort-index l.sort-items)
