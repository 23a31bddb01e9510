use Rattle.std.proofs.Common.{◌≡◌, ◌+◌, ◌≤◌, drop}
use Rattle.sq_store.specs.Change.{insert_count}
use Rattle.sq_store.proofs.fits.count_inserts.Given as goal

abbrev pub invariant-loop-change : goal.invariant-loop-change
invariant-loop-change l = record {
  counted : l.count + insert_count (drop l.change-index l.changes) ≡ insert_count l.changes;
  bound : l.count ≤ l.change-index;
}
