use Rattle.std.proofs.Common.{◌≡◌, List, drop, fold}
use Rattle.sq_bound.specs.Expression.{PlacedExpr}
use Rattle.sq_query.specs.Inner.{tests_tables}
use Rattle.sq_query.specs.Needed.{places_in, with_table}
use Rattle.sq_query.proofs.needed.Needed.add_of_each.Given as goal

abbrev pub invariant-loop-test : goal.invariant-loop-test
invariant-loop-test l = (functions : List PlacedExpr) → fold with_table (places_in l.self) (tests_tables functions (drop l.test-index l.tests)) ≡ fold with_table (places_in l.fn.self) (tests_tables functions l.tests)
