-- Left open for Grammar::query: the clause value; answered by laws of sq_grammar.
use Rattle.sq_lex.specs.declared.lexeme.Lexeme.TheVariants as lexeme
use Rattle.sq_lex.specs.declared.word.Word.TheVariants as word
use Rattle.sq_grammar.specs.Reading.{all, behind}
use Rattle.sq_grammar.specs.Query.{level, query_term, union_term, inside}
use Rattle.sq_grammar.proofs.Ends.Stops.{stops_after, stops_here}
use Rattle.sq_phrase.proofs.query_expression.Grammar.query.Goals as goal

pub returns-in-Err-clause-value : goal.returns-in-Err-clause-value
unfolding level
returns-in-Err-clause-value g c = stops_after (query_term c.args.self.now.left (inside c.args.self.now.left)) _ c.args.tokens.now _ _ _ c.in_ok-first.ensures.value
    (stops_here (all (behind (lexeme.Word word.Union) (union_term c.args.self.now.left (inside c.args.self.now.left)))) _ _ _ c.in-Err.ensures.value)
