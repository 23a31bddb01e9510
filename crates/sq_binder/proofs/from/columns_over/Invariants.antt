use Rattle.std.proofs.Common.{◌≡◌, map, take}
use Rattle.sq_binder.specs.From.{columns_over}
use Rattle.sq_binder.specs.Scope.{column_of}
use Rattle.sq_binder.proofs.from.columns_over.Given as goal

abbrev pub invariant-loop-position : goal.invariant-loop-position
invariant-loop-position l = map column_of l.items ≡ columns_over (take l.position l.columns)
