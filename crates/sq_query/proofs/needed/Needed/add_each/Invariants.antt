use Rattle.std.proofs.Common.{◌≡◌, drop, fold}
use Rattle.sq_query.specs.Needed.{places_in, with_table}
use Rattle.sq_query.proofs.needed.Needed.add_each.Given as goal

abbrev pub invariant-loop-table : goal.invariant-loop-table
invariant-loop-table l = fold with_table (places_in l.self) (drop l.table-index l.tables) ≡ fold with_table (places_in l.fn.self) l.tables
