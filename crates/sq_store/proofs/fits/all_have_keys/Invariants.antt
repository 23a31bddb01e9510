use Rattle.std.proofs.Common.{◌≡◌, drop}
use Rattle.std.specs.List.{list_all}
use Rattle.sq_store.specs.Change.{rows_put}
use Rattle.sq_store.specs.Keys.{has_keys}
use Rattle.sq_store.proofs.fits.all_have_keys.Given as goal

abbrev pub invariant-loop-change : goal.invariant-loop-change
invariant-loop-change l = list_all (has_keys l.keys) (rows_put l.changes) ≡ list_all (has_keys l.keys) (rows_put (drop l.change-index l.changes))
