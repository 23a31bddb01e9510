use Rattle.std.proofs.Common.{take}
use Rattle.sq_query.specs.Inner.{AreOnlyRows}
use Rattle.sq_query.proofs.inner.only_line.Given as goal

abbrev pub invariant-loop-table : goal.invariant-loop-table
invariant-loop-table l = AreOnlyRows l.found (take l.table-index l.tables) l.line.items
