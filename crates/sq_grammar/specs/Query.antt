-- Query expressions (ISO/IEC 9075:1992, 7.10).
use Rattle.std.specs.Prelude.{ℕ, zero, suc, if◌then◌else◌}
use Rattle.sq_lex.specs.declared.lexeme.Lexeme.TheVariants as lexeme
use Rattle.sq_lex.specs.declared.symbol.Symbol.TheVariants as symbol
use Rattle.sq_lex.specs.declared.word.Word.TheVariants as word
use Rattle.sq_tree.specs.declared.query.QueryTerm.{QueryTerm}
use Rattle.sq_tree.specs.declared.query.QueryTerm.TheVariants as terms
use Rattle.sq_tree.specs.declared.query.UnionTerm.{UnionTerm}
use Rattle.sq_tree.specs.declared.query.Query.{Query, roll-Query}
use Rattle.sq_grammar.specs.Reading.{Parser, ◌>>=◌, ◌>>◌, pure, stuck, eat_word, opening_bracket, sees, behind, all}
use Rattle.sq_grammar.specs.Expr.{close}
use Rattle.sq_grammar.specs.Cond.{query_specification}

-- `inner` reads after a bracket that is one of the `left` that may be opened
module _ (left : ℕ) (inner : Parser Query) where
  -- "(" query ")"
  unfoldable pub bracketed : Parser Query
  bracketed = do
    opening_bracket left
    q ← inner
    close
    pure q

  unfoldable pub bracketed_term : Parser QueryTerm
  bracketed_term = bracketed >>= λ q. pure (terms.Bracketed q)

  abbrev pub lone_specification : Parser QueryTerm
  lone_specification = query_specification left >>= λ s. pure (terms.Specification s)

  -- query-term = specification | "(" query ")"
  unfoldable pub query_term : Parser QueryTerm
  query_term = λ ts. (if sees (lexeme.Symbol symbol.Open) ts then bracketed_term else lone_specification) ts

  -- UNION [ ALL ] query-term, whose first word is read already
  unfoldable pub union_term : Parser UnionTerm
  union_term = do
    every ← eat_word word.All
    t ← query_term
    pure (record { all = every; term = t })

  -- query = query-term { UNION [ ALL ] query-term }
  unfoldable pub level : Parser Query
  level = do
    first ← query_term
    rest ← all (behind (lexeme.Word word.Union) union_term)
    pure (roll-Query (record { first = first; rest = rest }))

-- after a bracket that is one of the `left` that may be opened
unfoldable pub inside : ℕ → Parser Query
inside zero = stuck
inside (suc left) = level left (inside left)

-- a query expression in which `left` brackets may be open at once
abbrev pub query : ℕ → Parser Query
query left = level left (inside left)
