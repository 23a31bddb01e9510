use Rattle.std.proofs.Common.{◌≡◌, drop}
use Rattle.sq_heap.specs.Alone.{same_key}
use Rattle.sq_heap.proofs.hash.have_same_key.Given as goal

abbrev pub invariant-loop-column : goal.invariant-loop-column
invariant-loop-column l = same_key l.columns l.row l.other ≡ same_key (drop l.column-index l.columns) l.row l.other
