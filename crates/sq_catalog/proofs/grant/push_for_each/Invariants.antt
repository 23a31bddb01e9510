use Rattle.std.proofs.Common.{◌≡◌, ◌++◌, flat_map, map, take}
use Rattle.sq_binding.specs.Grant.{grants_to}
use Rattle.sq_catalog.specs.Exact.{name_in}
use Rattle.sq_catalog.specs.Held.{grant_seen, privilege_of}
use Rattle.sq_catalog.proofs.grant.push_for_each.Given as goal

abbrev pub invariant-loop-grantee : goal.invariant-loop-grantee
invariant-loop-grantee l = map grant_seen l.grants ≡ map grant_seen l.fn.grants ++ flat_map (grants_to (name_in l.table) (map privilege_of l.privileges) l.to_grant) (take l.grantee-index l.grantees)
