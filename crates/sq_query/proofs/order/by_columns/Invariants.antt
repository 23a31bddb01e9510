use Rattle.std.proofs.Common.{◌≡◌, drop}
use Rattle.sq_meaning.specs.Rows as meaning
use Rattle.sq_query.specs.Order.{sort_columns}
use Rattle.sq_query.proofs.order.by_columns.Given as goal

-- the columns so far tie
abbrev pub invariant-loop-column : goal.invariant-loop-column
invariant-loop-column l = meaning.by_columns (sort_columns l.order) l.left l.right ≡ meaning.by_columns (sort_columns (drop l.column-index l.order)) l.left l.right
