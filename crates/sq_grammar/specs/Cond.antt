-- Search conditions (ISO/IEC 9075:1992, 7.11 and 8). A bracket at the start of a test may open a condition or an expression. So the tokens
-- after it are read once, as either, and the result decides how to go on.
use Rattle.std.specs.Prelude.{ℕ, zero, suc, Bool, true, false, ◌&&◌, [], ◌∷◌, Option, Some, None, if◌then◌else◌}
use Rattle.sq_lex.specs.declared.lexeme.Lexeme.{Lexeme}
use Rattle.sq_lex.specs.declared.lexeme.Lexeme.TheVariants as lexeme
use Rattle.sq_lex.specs.declared.symbol.Symbol.TheVariants as symbol
use Rattle.sq_lex.specs.declared.word.Word.TheVariants as word
use Rattle.sq_tree.specs.declared.expr.Expr.{Expr}
use Rattle.sq_tree.specs.declared.expr.Primary.TheVariants as primary
use Rattle.sq_tree.specs.declared.cond.Comparison.{Comparison}
use Rattle.sq_tree.specs.declared.cond.Comparison.TheVariants as comparison
use Rattle.sq_tree.specs.declared.cond.Quantifier.{Quantifier}
use Rattle.sq_tree.specs.declared.cond.Quantifier.TheVariants as quantifier
use Rattle.sq_tree.specs.declared.cond.Tail.{Tail}
use Rattle.sq_tree.specs.declared.cond.Tail.TheVariants as tails
use Rattle.sq_tree.specs.declared.cond.Body.{Body}
use Rattle.sq_tree.specs.declared.cond.Body.TheVariants as bodies
use Rattle.sq_tree.specs.declared.cond.Test.{Test}
use Rattle.sq_tree.specs.declared.cond.Conj.{Conj, roll-Conj}
use Rattle.sq_tree.specs.declared.cond.Cond.{Cond, roll-Cond}
use Rattle.sq_tree.specs.declared.cond.QuerySpecification.{QuerySpecification}
use Rattle.sq_grammar.specs.declared.cond_or_expr.CondOrExpr.{CondOrExpr}
use Rattle.sq_grammar.specs.declared.cond_or_expr.CondOrExpr.TheVariants as came
use Rattle.sq_grammar.specs.Reading.{Parser, Tokens, ◌>>=◌, ◌>>◌, pure, stuck, eat_word, expect_word, opening_bracket, sees, rest, one_if_any, token_if_any, behind, comma_separated, all}
use Rattle.sq_grammar.specs.Expr as expressions
use Rattle.sq_grammar.specs.Expr.{expr, expr_from, close}
use Rattle.sq_grammar.specs.Select.{specification}

-- comparison = "=" | "<>" | "<" | ">" | "<=" | ">="
abbrev pub comparison_of : Lexeme → Option Comparison
comparison_of (lexeme.Symbol symbol.Equal) = Some comparison.Equal
comparison_of (lexeme.Symbol symbol.NotEqual) = Some comparison.NotEqual
comparison_of (lexeme.Symbol symbol.Less) = Some comparison.Less
comparison_of (lexeme.Symbol symbol.Greater) = Some comparison.Greater
comparison_of (lexeme.Symbol symbol.LessOrEqual) = Some comparison.LessOrEqual
comparison_of (lexeme.Symbol symbol.GreaterOrEqual) = Some comparison.GreaterOrEqual
comparison_of _ = None

-- [ ALL | ANY | SOME ]
abbrev pub compared_if_any : Parser (Option Quantifier)
compared_if_any = token_if_any
    ((lexeme.Word word.All, quantifier.All) ∷ (lexeme.Word word.Any, quantifier.Any)
    ∷ (lexeme.Word word.Some, quantifier.Some) ∷ [])

-- `( SELECT` comes next
abbrev pub sees_query : Tokens → Bool
sees_query ts = sees (lexeme.Symbol symbol.Open) ts && sees (lexeme.Word word.Select) (rest ts)

-- only a condition fits here
abbrev pub only_cond : {A : Type 0} → CondOrExpr A → Parser A
only_cond (came.Cond x) = pure x
only_cond (came.Expr e) = stuck

abbrev pub must_be_cond : {A : Type 0} → Parser (CondOrExpr A) → Parser A
must_be_cond p = p >>= only_cond

-- IS [ NOT ] NULL, whose IS is read already
unfoldable pub null_tail : Parser Tail
null_tail = do
  negated ← eat_word word.Not
  expect_word word.Null
  pure (tails.Null negated)

-- `inner` reads after a bracket that is one of the `left` that may be opened
module _ (left : ℕ) (inner : Parser (CondOrExpr Cond)) where
  -- a query specification after a bracket
  abbrev pub inner_query : Parser QuerySpecification
  inner_query = specification (expressions.inside left) (must_be_cond inner)

  -- subquery = "(" specification ")"
  unfoldable pub subquery : Parser QuerySpecification
  subquery = do
    opening_bracket left
    q ← inner_query
    close
    pure q

  abbrev pub compared_expr : Comparison → Parser Tail
  compared_expr op = expr left >>= λ e. pure (tails.Compare op e)

  abbrev pub compared_query : Comparison → Option Quantifier → Parser Tail
  compared_query op q = subquery >>= λ s. pure (tails.CompareQuery op q s)

  abbrev pub by_compared : Comparison → Option Quantifier → Parser Tail
  by_compared op (Some q) = compared_query op (Some q)
  by_compared op None = λ ts. (if sees_query ts then compared_query op None else compared_expr op) ts

  -- comparison expr | comparison [ ALL | ANY | SOME ] subquery, whose comparison is read already
  unfoldable pub comparison_tail : Comparison → Parser Tail
  comparison_tail op = compared_if_any >>= by_compared op

  -- BETWEEN expr AND expr, whose first word is read already
  unfoldable pub between_tail : Bool → Parser Tail
  between_tail negated = do
    low ← expr left
    expect_word word.And
    high ← expr left
    pure (tails.Between negated low high)

  abbrev pub in_query : Bool → Parser Tail
  in_query negated = do
    s ← inner_query
    close
    pure (tails.InQuery negated s)

  abbrev pub in_list : Bool → Parser Tail
  in_list negated = do
    es ← comma_separated (expressions.inside left)
    close
    pure (tails.InList negated es)

  abbrev pub in_by : Bool → Parser Tail
  in_by negated = λ ts. (if sees (lexeme.Word word.Select) ts then in_query negated else in_list negated) ts

  -- IN ( subquery | "(" expr { "," expr } ")" ), whose word is read already
  unfoldable pub in_tail : Bool → Parser Tail
  in_tail negated = opening_bracket left >> in_by negated

  -- LIKE expr [ ESCAPE expr ], whose first word is read already
  unfoldable pub like_tail : Bool → Parser Tail
  like_tail negated = do
    pattern ← expr left
    escape ← behind (lexeme.Word word.Escape) (expr left)
    pure (tails.Like negated pattern escape)

  abbrev pub found : Parser Tail → Parser (Option Tail)
  found p = p >>= λ t. pure (Some t)

  abbrev pub no_tail : Bool → Parser (Option Tail)
  no_tail true = stuck
  no_tail false = pure None

  abbrev pub by_like : Bool → Bool → Parser (Option Tail)
  by_like negated true = found (like_tail negated)
  by_like negated false = no_tail negated

  abbrev pub by_in : Bool → Bool → Parser (Option Tail)
  by_in negated true = found (in_tail negated)
  by_in negated false = eat_word word.Like >>= by_like negated

  abbrev pub by_between : Bool → Bool → Parser (Option Tail)
  by_between negated true = found (between_tail negated)
  by_between negated false = eat_word word.In >>= by_in negated

  -- [ NOT ] ( BETWEEN .. | IN .. | LIKE .. ), if one comes
  unfoldable pub negatable_tail : Parser (Option Tail)
  negatable_tail = do
    negated ← eat_word word.Not
    between ← eat_word word.Between
    by_between negated between

  abbrev pub by_is : Bool → Parser (Option Tail)
  by_is true = found null_tail
  by_is false = negatable_tail

  abbrev pub by_comparison : Option Comparison → Parser (Option Tail)
  by_comparison None = eat_word word.Is >>= by_is
  by_comparison (Some op) = found (comparison_tail op)

  -- the part of a predicate after its first expression, if it comes
  unfoldable pub tail : Parser (Option Tail)
  tail = one_if_any comparison_of >>= by_comparison

  abbrev pub tailed : Expr → Option Tail → Parser (CondOrExpr Body)
  tailed e None = pure (came.Expr e)
  tailed e (Some t) = pure (came.Cond (bodies.Predicate e t))

  -- a predicate whose first expression is read already, or that expression alone
  unfoldable pub predicate_from : Expr → Parser (CondOrExpr Body)
  predicate_from e = tail >>= tailed e

  abbrev pub by_inner : CondOrExpr Cond → Parser (CondOrExpr Body)
  by_inner (came.Cond c) = pure (came.Cond (bodies.Bracketed c))
  by_inner (came.Expr e) = expr_from left (primary.Bracketed e) >>= predicate_from

  unfoldable pub bracket : Parser (CondOrExpr Body)
  bracket = do
    opening_bracket left
    m ← inner
    close
    by_inner m

  abbrev pub by_open : Parser (CondOrExpr Body)
  by_open = λ ts. (if sees (lexeme.Symbol symbol.Open) ts then bracket else (expr left >>= predicate_from)) ts

  abbrev pub by_exists : Bool → Parser (CondOrExpr Body)
  by_exists true = subquery >>= λ q. pure (came.Cond (bodies.Exists q))
  by_exists false = by_open

  -- predicate | "(" condition ")" | expr
  unfoldable pub body : Parser (CondOrExpr Body)
  body = eat_word word.Exists >>= by_exists

  abbrev pub tested : Bool → CondOrExpr Body → Parser (CondOrExpr Test)
  tested negated (came.Cond b) = pure (came.Cond (record { negated = negated; body = b }))
  tested true (came.Expr e) = stuck
  tested false (came.Expr e) = pure (came.Expr e)

  -- test = [ NOT ] ( predicate | "(" condition ")" ), or an expression
  unfoldable pub test_at : Parser (CondOrExpr Test)
  test_at = do
    negated ← eat_word word.Not
    b ← body
    tested negated b

  unfoldable pub must_be_test : Parser Test
  must_be_test = must_be_cond test_at

  abbrev pub conjoined : CondOrExpr Test → Parser (CondOrExpr Conj)
  conjoined (came.Cond t) =
      all (behind (lexeme.Word word.And) must_be_test)
      >>= λ ts. pure (came.Cond (roll-Conj (record { first = t; rest = ts })))
  conjoined (came.Expr e) = pure (came.Expr e)

  -- conjunction = test { AND test }, or an expression
  unfoldable pub conj : Parser (CondOrExpr Conj)
  conj = test_at >>= conjoined

  unfoldable pub must_be_conj : Parser Conj
  must_be_conj = must_be_cond conj

  abbrev pub disjoined : CondOrExpr Conj → Parser (CondOrExpr Cond)
  disjoined (came.Cond c) =
      all (behind (lexeme.Word word.Or) must_be_conj)
      >>= λ cs. pure (came.Cond (roll-Cond (record { first = c; rest = cs })))
  disjoined (came.Expr e) = pure (came.Expr e)

  -- condition = conjunction { OR conjunction }, or an expression
  unfoldable pub level : Parser (CondOrExpr Cond)
  level = conj >>= disjoined

-- after a bracket that is one of the `left` that may be opened
unfoldable pub inside : ℕ → Parser (CondOrExpr Cond)
inside zero = stuck
inside (suc left) = level left (inside left)

-- a condition in which `left` brackets may be open at once
unfoldable pub cond : ℕ → Parser Cond
cond left = must_be_cond (level left (inside left))

-- a query specification in which `left` brackets may be open at once
abbrev pub query_specification : ℕ → Parser QuerySpecification
query_specification left = specification (expr left) (cond left)
