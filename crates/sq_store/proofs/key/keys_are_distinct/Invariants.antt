use Rattle.std.proofs.Common.{◌≡◌, drop}
use Rattle.std.specs.List.{list_all}
use Rattle.sq_store.specs.Keys.{are_distinct}
use Rattle.sq_store.proofs.key.keys_are_distinct.Given as goal

abbrev pub invariant-loop-columns : goal.invariant-loop-columns
invariant-loop-columns l =
    list_all (λ columns. are_distinct columns l.rows) l.keys ≡ list_all (λ columns. are_distinct columns l.rows) (drop l.columns-index l.keys)
