use Rattle.std.proofs.Common.{◌≡◌, drop, map, true}
use Rattle.std.specs.List.{list_all}
use Rattle.sq_binding.specs.Catalog.{may}
use Rattle.sq_catalog.specs.Exact.{declared, name_in}
use Rattle.sq_catalog.specs.Held.{privilege_of}
use Rattle.sq_catalog.proofs.catalog.Catalog.holds_all.Given as goal

abbrev pub invariant-loop-privilege : goal.invariant-loop-privilege
invariant-loop-privilege l =
    list_all (may (declared l.self) true l.user (name_in l.name)) (map privilege_of l.privileges) ≡ list_all (may (declared l.self) true l.user (name_in l.name)) (map privilege_of (drop l.privilege-index l.privileges))
