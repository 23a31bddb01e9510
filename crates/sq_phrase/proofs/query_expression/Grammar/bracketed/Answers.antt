-- Left open for Grammar::bracketed: the clause value; answered by laws of sq_grammar.
use Rattle.sq_grammar.specs.Reading.{opening_bracket}
use Rattle.sq_grammar.specs.Expr.{close}
use Rattle.sq_grammar.specs.Query.{bracketed, inside}
use Rattle.sq_grammar.proofs.Ends.Stops.{stops_after, stops_here}
use Rattle.sq_phrase.proofs.query_expression.Grammar.bracketed.Goals as goal

pub returns-in-Err-clause-value : goal.returns-in-Err-clause-value
unfolding bracketed
returns-in-Err-clause-value g c = stops_after (opening_bracket c.args.self.now.left) _ c.args.tokens.now _ _ _ c.in_ok-open.ensures.value
    (stops_after (inside c.args.self.now.left) _ _ _ _ _ c.in_ok-query.ensures.value (stops_here close _ _ _ c.in-Err.ensures.value))
