use Rattle.sq_cause.specs.Breach.{LacksNoneBefore}
use Rattle.sq_cause.proofs.row_breach.column_lacking.Given as goal

abbrev pub invariant-loop-column : goal.invariant-loop-column
invariant-loop-column l = LacksNoneBefore l.table l.row l.column
