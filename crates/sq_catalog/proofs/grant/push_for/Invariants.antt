use Rattle.std.proofs.Common.{◌≡◌, ◌++◌, map, take}
use Rattle.sq_binding.specs.Grant.{grants_to}
use Rattle.sq_catalog.specs.Exact.{name_in}
use Rattle.sq_catalog.specs.Held.{grant_seen, privilege_of}
use Rattle.sq_catalog.proofs.grant.push_for.Given as goal

abbrev pub invariant-loop-privilege : goal.invariant-loop-privilege
invariant-loop-privilege l = map grant_seen l.grants ≡ map grant_seen l.fn.grants ++ grants_to (name_in l.table) (map privilege_of (take l.privilege-index l.privileges)) l.to_grant l.grantee
