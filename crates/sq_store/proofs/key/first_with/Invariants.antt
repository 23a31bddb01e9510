use Rattle.std.proofs.Common.{◌≡◌, drop, find}
use Rattle.sq_store.specs.Keys.{has_key}
use Rattle.sq_store.proofs.key.first_with.Given as goal

abbrev pub invariant-loop-row : goal.invariant-loop-row
invariant-loop-row l = find (has_key l.columns l.values) l.rows ≡ find (has_key l.columns l.values) (drop l.row-index l.rows)
