use Rattle.std.proofs.Common.{◌≡◌, filter, map, take, true}
use Rattle.sq_binding.specs.Catalog.{may}
use Rattle.sq_catalog.specs.Exact.{declared, name_in}
use Rattle.sq_catalog.specs.Held.{privilege_of}
use Rattle.sq_catalog.proofs.catalog.Catalog.held_among.Given as goal

abbrev pub invariant-loop-privilege : goal.invariant-loop-privilege
invariant-loop-privilege l = map privilege_of l.held ≡ filter (may (declared l.self) true l.user (name_in l.name)) (map privilege_of (take l.privilege-index l.privileges))
