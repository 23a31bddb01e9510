-- Left open for ordered_query: the clause value; answered by laws of sq_grammar.
use Rattle.sq_grammar.specs.Module.{order_by, ordered_query}
use Rattle.sq_grammar.specs.Query.{query}
use Rattle.sq_grammar.proofs.Ends.Stops.{stops_after, stops_here}
use Rattle.sq_parse.proofs.module.ordered_query.Goals as goal

pub returns-in-Err-clause-value : goal.returns-in-Err-clause-value
unfolding ordered_query
returns-in-Err-clause-value c = stops_after (query c.args.left) _ c.args.tokens.now _ _ _ c.in_ok-query.ensures.value (stops_here order_by _ _ _ c.in-Err.ensures.value)
