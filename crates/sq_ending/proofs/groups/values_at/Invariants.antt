use Rattle.std.proofs.Common.{◌≡◌, drop}
use Rattle.sq_expression.specs.Group.{values_meant}
use Rattle.sq_expression.proofs.Each.{after}
use Rattle.sq_ending.proofs.groups.values_at.Given as goal

abbrev pub invariant-loop-column : goal.invariant-loop-column
invariant-loop-column l = values_meant l.frame l.columns ≡ after l.values.items (values_meant l.frame (drop l.column-index l.columns))
