use Rattle.std.proofs.Common.{◌≡◌, drop}
use Rattle.sq_heap.specs.Alone.{all_alone}
use Rattle.sq_heap.proofs.keys.all_alone.Given as goal

abbrev pub invariant-loop-change : goal.invariant-loop-change
invariant-loop-change l = all_alone l.index.columns l.slots l.changes ≡ all_alone l.index.columns l.slots (drop l.change-index l.changes)
