-- Query expressions: their readings are final.
use Rattle.std.proofs.Common.{ℕ, zero, suc, refl}
use Rattle.sq_lex.specs.declared.lexeme.Lexeme.TheVariants as lexeme
use Rattle.sq_lex.specs.declared.symbol.Symbol.TheVariants as symbol
use Rattle.sq_tree.specs.declared.query.Query.{Query}
use Rattle.sq_grammar.specs.Reading.{Parser, sees}
use Rattle.sq_grammar.specs.Query.{bracketed, bracketed_term, query_term, union_term, level, inside, query}
use Rattle.sq_run.proofs.Tokens.Final.{Final, bind, done, never, eaten, opening, then, seeing, rows}
use Rattle.sq_run.proofs.Tokens.ExprFinal.{closed}
use Rattle.sq_run.proofs.Tokens.CondFinal.{query_specifications}

module _ (left : ℕ) {inner : Parser Query} (h : Final inner) where
  bracketed_queries : Final (bracketed left inner)
  unfolding bracketed
  bracketed_queries = bind (opening left) (λ u. bind h (λ q. bind closed (λ v. done)))

  query_terms : Final (query_term left inner)
  unfolding query_term bracketed_term
  query_terms = seeing (sees (lexeme.Symbol symbol.Open)) (λ t ts us. refl) (bind bracketed_queries (λ q. done)) (bind (query_specifications left) (λ s. done))

  union_terms : Final (union_term left inner)
  unfolding union_term
  union_terms = bind (eaten _) (λ every. bind query_terms (λ t. done))

  levels : Final (level left inner)
  unfolding level
  levels = bind query_terms (λ first. bind (rows _ (then _ union_terms)) (λ others. done))

inner_queries : (left : ℕ) → Final (inside left)
unfolding inside
inner_queries zero = never
inner_queries (suc left) = levels left (inner_queries left)

pub queries : (left : ℕ) → Final (query left)
queries left = levels left (inner_queries left)
