use Rattle.std.proofs.Common.{◌≡◌, map, take}
use Rattle.sq_binding.specs.Catalog.{with_grants}
use Rattle.sq_catalog.specs.Held.{grant_seen, grants_held}
use Rattle.sq_catalog.proofs.held.Held.add_all.Given as goal

abbrev pub invariant-loop-grant : goal.invariant-loop-grant
invariant-loop-grant l = grants_held l.self ≡ with_grants (grants_held l.fn.self) (map grant_seen (take l.grant-index l.grants))
