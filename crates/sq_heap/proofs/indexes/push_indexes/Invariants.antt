use Rattle.std.proofs.Common.{◌≡◌, ◌++◌, take}
use Rattle.sq_heap.specs.Index.{keys_of}
use Rattle.sq_heap.proofs.indexes.push_indexes.Given as goal

abbrev pub invariant-loop-columns : goal.invariant-loop-columns
invariant-loop-columns l = keys_of l.indexes.items ≡ keys_of l.initial.indexes.items ++ take l.columns-index l.lists
