use Rattle.std.proofs.Common.{◌≡◌, drop, true}
use Rattle.std.specs.List.{list_all}
use Rattle.sq_heap.specs.Alone.{all_alone, slots_have}
use Rattle.sq_heap.specs.Index.{enters, keys_of}
use Rattle.sq_heap.proofs.keys.are_alone.Given as goal

abbrev pub invariant-loop-index : goal.invariant-loop-index
invariant-loop-index l = record {
  rest : list_all (λ columns. all_alone columns l.slots l.changes) (keys_of l.indexes) ≡ list_all (λ columns. all_alone columns l.slots l.changes) (keys_of (drop l.index-index l.indexes));
  columns : list_all (λ columns. slots_have columns l.slots) (keys_of (drop l.index-index l.indexes)) ≡ true;
  entered : list_all (enters l.slots) (drop l.index-index l.indexes) ≡ true;
}
