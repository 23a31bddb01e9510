use Rattle.std.proofs.Common.{◌≡◌, ◌++◌, drop}
use Rattle.std.specs.Prelude.{flat_map}
use Rattle.sq_bound.specs.Joined.{specifications_of, union_specifications}
use Rattle.sq_query.proofs.ByUnion.QuerySizes.{query_size, term_size}
use Rattle.sq_cause.specs.QueryCause.{lent_queries}
use Rattle.sq_cause.proofs.query_cause.+add_specifications.Given as goal

abbrev pub decreases-add_specifications : goal.decreases-add_specifications
decreases-add_specifications l = query_size l.query.now

abbrev pub decreases-add_term : goal.decreases-add_term
decreases-add_term l = term_size l.term.now

abbrev pub invariant-add_specifications-loop-union : goal.invariant-add_specifications-loop-union
invariant-add_specifications-loop-union l =
    lent_queries l.all.items ++ flat_map union_specifications (drop l.union-index l.union-items) ≡ lent_queries l.fn.all.items ++ specifications_of l.query
