use Rattle.std.proofs.Common.{◌≡◌, map, take}
use Rattle.sq_binder.specs.Scope.{column_of}
use Rattle.sq_binder.specs.Changeable.{columns_at_leaf}
use Rattle.sq_binder.proofs.changeable.columns_at_leaf.Given as goal

abbrev pub invariant-loop-position : goal.invariant-loop-position
invariant-loop-position l = map column_of l.items ≡ columns_at_leaf (take l.position l.under) (take l.position l.columns)
