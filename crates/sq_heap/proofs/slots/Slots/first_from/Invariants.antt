use Rattle.std.proofs.Common.{◌≡◌, ◌≤◌, ◌+◌, ◌-◌, drop, length}
use Rattle.sq_store.specs.Content.{first_among}
use Rattle.sq_heap.specs.Slots.{rows_from}
use Rattle.sq_heap.proofs.slots.Slots.first_from.Given as goal

abbrev pub invariant-loop-at : goal.invariant-loop-at
invariant-loop-at l = record {
  low : l.number ≤ l.at + 1;
  rest : first_among (rows_from 1 l.self.list.items) l.number ≡ first_among (rows_from (1 + l.at) (drop l.at l.self.list.items)) l.number;
}

abbrev pub decreases-loop-at : goal.decreases-loop-at
decreases-loop-at l = length l.self.list.items - l.at
