use Rattle.sq_query.proofs.ByUnion.QuerySizes.{query_size, term_size}
use Rattle.sq_query.proofs.ways.+add_of_query.Given as goal

abbrev pub decreases-add_of_query : goal.decreases-add_of_query
decreases-add_of_query g l = query_size l.query.now

abbrev pub decreases-add_of_query_term : goal.decreases-add_of_query_term
decreases-add_of_query_term g l = term_size l.term.now
