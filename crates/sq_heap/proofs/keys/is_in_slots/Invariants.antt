use Rattle.std.proofs.Common.{◌≡◌, ◌+◌, drop, find}
use Rattle.std.specs.Prelude.{is_some}
use Rattle.sq_store.specs.Keys.{has_key}
use Rattle.sq_heap.specs.Slots.{rows_from}
use Rattle.sq_heap.proofs.keys.is_in_slots.Given as goal

abbrev pub invariant-loop-slot : goal.invariant-loop-slot
invariant-loop-slot l = is_some (find (has_key l.columns l.values) (rows_from 1 l.slots)) ≡ is_some (find (has_key l.columns l.values) (rows_from (1 + l.slot-index) (drop l.slot-index l.slots)))
