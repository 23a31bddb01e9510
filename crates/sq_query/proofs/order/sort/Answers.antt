-- Left open for sort: the clause rows; answered by StableSort.
use Rattle.std.proofs.Common.{rules}
use Rattle.std.specs.Ordering.{is_lt}
use Rattle.std.proofs.lemmas.List.MinMax.{ranks_by}
use Rattle.std.proofs.lemmas.Fn.{always_returns_same}
use Rattle.sq_meaning.specs.Rows.{by_columns}
use Rattle.sq_meaning.proofs.RowLaws.{columns_total}
use Rattle.sq_query.specs.Order.{sort_columns}
use Rattle.sq_query.proofs.Sorted.StableSort.{stable_is_sorted}
use Rattle.sq_query.proofs.order.sort.Goals as goal

pub returns-clause-rows : goal.returns-clause-rows
returns-clause-rows c =
    let total = columns_total (sort_columns c.args.order.now) in
    stable_is_sorted (by_columns (sort_columns c.args.order.now)) total c.args.rows.now.items c.sort_by.new.self.items
    (c.in_ok-sort_by.ensures.sorted (λ x y. is_lt (by_columns (sort_columns c.args.order.now) x y)) (ranks_by total (λ x. x)) (always_returns_same _ _ _ (λ a r g called. search rules)))
    (c.in_ok-sort_by.ensures.stable (λ x y. is_lt (by_columns (sort_columns c.args.order.now) x y)) (ranks_by total (λ x. x)) (always_returns_same _ _ _ (λ a r g called. search rules)))
