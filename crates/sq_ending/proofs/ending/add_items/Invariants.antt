use Rattle.std.proofs.Common.{◌≡◌, []}
use Rattle.sq_expression.specs.Frame.{table_rows}
use Rattle.sq_ending.proofs.ItemsRead.{AreAdded}
use Rattle.sq_ending.proofs.ending.add_items.Given as goal

abbrev pub invariant-loop-table : goal.invariant-loop-table
invariant-loop-table l = l.fn.items.items ≡ [] → AreAdded (table_rows l.context) l.table-items l.table-index l.items.items
