use Rattle.std.proofs.Common.{◌≡◌, drop}
use Rattle.sq_store.specs.Keys.{has_keys}
use Rattle.sq_store.proofs.fits.has_all_keys.Given as goal

abbrev pub invariant-loop-columns : goal.invariant-loop-columns
invariant-loop-columns l = has_keys l.keys l.row ≡ has_keys (drop l.columns-index l.keys) l.row
