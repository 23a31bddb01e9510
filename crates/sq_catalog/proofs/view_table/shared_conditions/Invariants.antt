use Rattle.std.proofs.Common.{◌≡◌, take}
use Rattle.sq_catalog.proofs.view_table.shared_conditions.Given as goal

abbrev pub invariant-loop-condition : goal.invariant-loop-condition
invariant-loop-condition l = l.shared ≡ take l.condition-index l.conditions
