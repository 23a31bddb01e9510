-- Left open for by_column: its result; answered by Sorting.
use Rattle.std.proofs.Common.{◌∙◌}
use Rattle.sq_query.specs.Order.{in_direction}
use Rattle.sq_query.proofs.Sorted.Sorting.{one_column}
use Rattle.sq_query.proofs.order.by_column.Goals as goal

pub returns : goal.returns
returns c =
    c.in_direction.ensures
    ∙ (λ i. in_direction c.args.column.descending (c.in_column-left.ensures i) (c.in_column-right.ensures i))
    ∙ one_column c.args.column c.args.left.now c.args.right.now
