-- Query expressions with their columns, parameters and tables placed (ISO/IEC 9075:1992, 7.10).
use Rattle.std.specs.Prelude.{Ok}
use Rattle.sq_meaning.specs.Spelled.{Named}
use Rattle.sq_meaning.specs.Status.{Outcome, ◌>>=◌}
use Rattle.sq_meaning.specs.Syntax.{Query, specification, union}
use Rattle.sq_bound.specs.Query.{PlacedQuery}
use Rattle.sq_binding.specs.PlacedQuery.{select_placed}
use Rattle.sq_binding.specs.Select.{Surroundings}

abbrev pub query_placed : Surroundings → Query Named → Outcome PlacedQuery
query_placed a (specification s) = select_placed a s >>= λ x. Ok (specification x)
query_placed a (union all left right) =
    query_placed a left >>= λ x. query_placed a right >>= λ y. Ok (union all x y)
