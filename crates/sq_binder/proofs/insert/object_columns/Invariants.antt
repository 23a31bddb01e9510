use Rattle.std.proofs.Common.{◌≡◌, map, take}
use Rattle.std.specs.List.{AllByRecursion}
use Rattle.sq_bound.specs.Fits.{IsColumnOf}
use Rattle.sq_binder.proofs.insert.object_columns.Given as goal

abbrev pub invariant-loop-receiver : goal.invariant-loop-receiver
invariant-loop-receiver l =
    (map (λ c. c.position) l.columns ≡ map (λ r. r.column) (take l.receiver-index l.receivers)) × AllByRecursion (IsColumnOf l.base) l.columns
