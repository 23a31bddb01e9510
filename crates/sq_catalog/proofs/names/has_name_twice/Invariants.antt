use Rattle.std.proofs.Common.{◌≡◌, drop}
use Rattle.sq_meaning.specs.Schema.{has_name_twice}
use Rattle.sq_catalog.proofs.names.has_name_twice.Given as goal

abbrev pub invariant-loop-number : goal.invariant-loop-number
invariant-loop-number l = has_name_twice l.names ≡ has_name_twice (drop l.number l.names)
