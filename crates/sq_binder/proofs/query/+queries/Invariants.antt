use Rattle.std.proofs.Common.{Ok, take}
use Rattle.sq_binding.specs.QueryExpression.{query_bound}
use Rattle.sq_binder.specs.Found.{Finds}
use Rattle.sq_binder.specs.Surroundings.{surroundings}
use Rattle.sq_binding.specs.SeenQuery.{HaveTheirColumns, query_seen}
use Rattle.sq_binder.proofs.WholeQueries.Queries.{so_far}
use Rattle.sq_binder.proofs.query.+queries.Given as goal

abbrev pub invariant-bind_query-loop-union : goal.invariant-bind_query-loop-union
invariant-bind_query-loop-union g l =
    Finds query_seen (query_bound (surroundings g.T.Tables.named l.at) (so_far l.at.environment.now.user l.query (take l.union-index l.union-items))) l.fn.before (Ok l.joined)
    × HaveTheirColumns l.joined.part
