use Rattle.std.proofs.Common.{◌≡◌, ◌≤◌, length}
use Rattle.std.specs.List.{list_any}
use Rattle.sq_value.specs.Key.{in_columns}
use Rattle.sq_heap.specs.Chain.{chain_of}
use Rattle.sq_heap.specs.Index.{bucket_of, names_other}
use Rattle.sq_heap.proofs.keys.has_other.Given as goal

abbrev pub invariant-loop-entry : goal.invariant-loop-entry
invariant-loop-entry l = record {
  within : l.link ≤ length l.index.entries.items;
  rest : list_any (names_other l.index.columns (in_columns l.row l.index.columns) l.at l.slots l.hash) (bucket_of l.index l.hash)
      ≡ list_any (names_other l.index.columns (in_columns l.row l.index.columns) l.at l.slots l.hash) (chain_of l.index.entries.items l.link);
}

abbrev pub decreases-loop-entry : goal.decreases-loop-entry
decreases-loop-entry l = l.link
