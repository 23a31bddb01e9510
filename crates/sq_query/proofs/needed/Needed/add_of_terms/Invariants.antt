use Rattle.std.proofs.Common.{◌≡◌, List, drop, fold}
use Rattle.sq_bound.specs.Expression.{PlacedExpr}
use Rattle.sq_query.specs.Inner.{terms_tables}
use Rattle.sq_query.specs.Needed.{places_in, with_table}
use Rattle.sq_query.proofs.needed.Needed.add_of_terms.Given as goal

abbrev pub invariant-loop-term : goal.invariant-loop-term
invariant-loop-term l = (functions : List PlacedExpr) → fold with_table (places_in l.self) (terms_tables functions (drop l.term-index l.terms)) ≡ fold with_table (places_in l.fn.self) (terms_tables functions l.terms)
