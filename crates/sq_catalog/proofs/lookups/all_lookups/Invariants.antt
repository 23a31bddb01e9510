use Rattle.std.proofs.Common.{◌≡◌, take}
use Rattle.sq_store.specs.Keys.{keys_of}
use Rattle.sq_catalog.specs.Lookups.{lookups_of_bases}
use Rattle.sq_catalog.proofs.lookups.all_lookups.Given as goal

abbrev pub invariant-loop-base : goal.invariant-loop-base
invariant-loop-base l = keys_of l.lookups.items ≡ lookups_of_bases (take l.base-index l.bases)
