use Rattle.std.proofs.Common.{◌≡◌, take}
use Rattle.sq_catalog.specs.Exact.{names_in}
use Rattle.sq_catalog.proofs.names.column_names.Given as goal

abbrev pub invariant-loop-column : goal.invariant-loop-column
invariant-loop-column l = l.names ≡ names_in (take l.column-index l.columns)
