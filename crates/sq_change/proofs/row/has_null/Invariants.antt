use Rattle.std.proofs.Common.{◌≡◌, drop}
use Rattle.sq_value.specs.Key.{in_columns}
use Rattle.sq_meaning.specs.Constraints.{has_null}
use Rattle.sq_change.proofs.row.has_null.Given as goal

abbrev pub invariant-loop-column : goal.invariant-loop-column
invariant-loop-column l = has_null (in_columns l.row l.columns) ≡ has_null (in_columns l.row (drop l.column-index l.columns))
