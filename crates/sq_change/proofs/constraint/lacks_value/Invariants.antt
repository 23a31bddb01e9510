use Rattle.std.specs.List.{zip}
use Rattle.sq_bound.specs.Fits.{lacks_value}
use Rattle.sq_change.proofs.OneByOne.AllSatisfied.{NoneTo}
use Rattle.sq_change.proofs.constraint.lacks_value.Given as goal

abbrev pub invariant-loop-place : goal.invariant-loop-place
invariant-loop-place l = NoneTo lacks_value (zip l.table.columns l.row) l.place
