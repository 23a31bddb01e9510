use Rattle.std.proofs.Common.{take}
use Rattle.std.specs.List.{AllZip}
use Rattle.sq_query.specs.Sought.{IsKnownIn}
use Rattle.sq_query.proofs.known.first_values.Given as goal

abbrev pub invariant-loop-row : goal.invariant-loop-row
invariant-loop-row l = AllZip (IsKnownIn 0) (take l.row-index l.rows) l.values.items
