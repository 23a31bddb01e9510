use Rattle.std.proofs.Common.{◌≡◌, drop}
use Rattle.sq_meaning.specs.Schema.{has_name_twice}
use Rattle.sq_catalog.proofs.OneByOne.Distinct.{twice_behind}
use Rattle.sq_catalog.proofs.view_names.check_distinct.Given as goal

abbrev pub invariant-loop-name : goal.invariant-loop-name
invariant-loop-name l = has_name_twice l.names ≡ twice_behind l.seen.keys (drop l.name-index l.names)
