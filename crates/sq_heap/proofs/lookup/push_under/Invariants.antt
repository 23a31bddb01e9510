use Rattle.std.proofs.Common.{◌≡◌, ◌≤◌, ◌++◌, length}
use Rattle.sq_heap.specs.Chain.{chain_of}
use Rattle.sq_heap.specs.Index.{bucket_of}
use Rattle.sq_heap.specs.Lookup.{places_named}
use Rattle.sq_heap.proofs.lookup.push_under.Given as goal

-- the places so far, and then those of the entries that are left
abbrev pub invariant-loop-entry : goal.invariant-loop-entry
invariant-loop-entry l = record {
  within : l.link ≤ length l.index.entries.items;
  rest : l.places.items ++ places_named l.index.columns l.values l.slots l.hash (chain_of l.index.entries.items l.link)
      ≡ l.fn.places.items ++ places_named l.index.columns l.values l.slots l.hash (bucket_of l.index l.hash);
}

abbrev pub decreases-loop-entry : goal.decreases-loop-entry
decreases-loop-entry l = l.link
