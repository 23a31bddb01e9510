use Rattle.std.proofs.Common.{◌≡◌, take}
use Rattle.sq_value.proofs.value.copy_row.Given as goal

abbrev pub invariant-loop-value : goal.invariant-loop-value
invariant-loop-value l = l.copy ≡ take l.value-index l.row
