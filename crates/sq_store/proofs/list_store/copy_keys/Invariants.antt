use Rattle.std.proofs.Common.{◌≡◌, take}
use Rattle.sq_store.specs.Keys.{keys_of}
use Rattle.sq_store.proofs.list_store.copy_keys.Given as goal

abbrev pub invariant-loop-keys : goal.invariant-loop-keys
invariant-loop-keys l = l.copies ≡ keys_of (take l.keys-index l.tables)
