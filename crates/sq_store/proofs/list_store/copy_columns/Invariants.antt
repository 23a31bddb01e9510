use Rattle.std.proofs.Common.{◌≡◌, map, take}
use Rattle.sq_store.proofs.list_store.copy_columns.Given as goal

abbrev pub invariant-loop-columns : goal.invariant-loop-columns
invariant-loop-columns l = l.copies ≡ map (λ columns. columns.items) (take l.columns-index l.keys)
