-- Search conditions: their readings are final. What stands behind a comparison is chosen by two tokens, a bracket and the word SELECT; but
-- an expression that begins with a bracket is decided no sooner.
use Rattle.std.proofs.Common.{◌≡◌, ℕ, zero, suc, Bool, true, false, cond, [], ◌∷◌, length, None, Ok, Err, refl, sym, ◌∙◌, ap, subst, ◌&&◌}
use Rattle.std.proofs.Math.Dec.{eqb-suc-zero}
use Rattle.sq_lex.specs.declared.lexeme.Lexeme.{Lexeme}
use Rattle.sq_lex.specs.declared.lexeme.Lexeme.TheVariants as lexeme
use Rattle.sq_lex.specs.declared.symbol.Symbol.TheVariants as symbol
use Rattle.sq_lex.specs.declared.word.Word.TheVariants as word
use Rattle.sq_tree.specs.declared.expr.Expr.{Expr, roll-Expr}
use Rattle.sq_tree.specs.declared.expr.Term.{Term, roll-Term}
use Rattle.sq_tree.specs.declared.expr.Factor.{Factor}
use Rattle.sq_tree.specs.declared.expr.Primary.{Primary}
use Rattle.sq_tree.specs.declared.expr.Primary.TheVariants as primary
use Rattle.sq_tree.specs.declared.cond.Comparison.{Comparison}
use Rattle.sq_tree.specs.declared.cond.Tail.{Tail}
use Rattle.sq_tree.specs.declared.cond.Tail.TheVariants as tails
use Rattle.sq_tree.specs.declared.cond.Cond.{Cond}
use Rattle.sq_grammar.specs.declared.cond_or_expr.CondOrExpr.{CondOrExpr}
use Rattle.sq_grammar.specs.declared.cond_or_expr.CondOrExpr.TheVariants as came
use Rattle.sq_grammar.specs.Reading.{Tokens, Parser, ◌>>=◌, ◌>>◌, and_then, pure, stuck, eat, opening_bracket, expect, sees, is_token, one_if_any, all}
use Rattle.sq_grammar.specs.Expr as expressions
use Rattle.sq_grammar.specs.Expr.{expr, close}
use Rattle.sq_grammar.specs.Cond.{comparison_of, compared_if_any, sees_query, only_cond, must_be_cond, null_tail, inner_query, subquery, compared_expr, compared_query, by_compared, comparison_tail, between_tail, in_tail, like_tail, no_tail, by_like, by_in, by_between, negatable_tail, by_is, by_comparison, tail, tailed, predicate_from, by_inner, bracket, by_exists, body, tested, test_at, must_be_test, conjoined, conj, must_be_conj, disjoined, level, inside, cond as condition, query_specification}
use Rattle.sq_grammar.proofs.Reading.Ranks.{is_token-is}
use Rattle.sq_run.proofs.Tokens.Final.{Final, bind, done, never, by_bool, by_option, eaten, opening, or_token, if_comes, if_one, then, must, seeing, alike, rows, commas}
use Rattle.sq_run.proofs.Tokens.ExprFinal.{closed, scales, adds, inner_exprs, exprs, exprs_from}
use Rattle.sq_run.proofs.Tokens.SelectFinal.{specifications}

by_came : {A B : Type 0} (f : CondOrExpr B → Parser A) → ((c : B) → Final (f (came.Cond c))) → ((e : Expr) → Final (f (came.Expr e))) → (x : CondOrExpr B) → Final (f x)
by_came f conds exprs (came.Cond c) = conds c
by_came f conds exprs (came.Expr e) = exprs e

pub only_conds : {A : Type 0} {p : Parser (CondOrExpr A)} → Final p → Final (must_be_cond p)
only_conds h = bind h (by_came only_cond (λ c. done) (λ e. never))

quantified : Final compared_if_any
quantified = or_token _ _ (or_token _ _ (or_token _ _ done))

null_tails : Final null_tail
unfolding null_tail
null_tails = bind (eaten _) (λ n. must _ done)

-- ---- an expression that begins with a bracket

opens : (left : ℕ) (ts : Tokens) → opening_bracket (suc left) (lexeme.Symbol symbol.Open ∷ ts) ≡ Ok (tt, ts)
unfolding opening_bracket expect
opens left ts = ap (λ c. cond c stuck (expect (lexeme.Symbol symbol.Open)) (lexeme.Symbol symbol.Open ∷ ts)) (eqb-suc-zero left)

module _ (left : ℕ) where
  -- the steps of the reading of an expression, behind its first bracket
  unfoldable pub first_primary : Parser Primary
  first_primary = expressions.inside left >>= λ e. close >> pure (primary.Bracketed e)

  unfoldable pub first_factor : Primary → Parser Factor
  first_factor p = pure (record { sign = None; primary = p })

  unfoldable pub first_term : Factor → Parser Term
  first_term f = all (expressions.scaled_factor left (expressions.inside left)) >>= λ others. pure (roll-Term (record { first = f; rest = others }))

  unfoldable pub first_sum : Term → Parser Expr
  first_sum t = all (expressions.added_term left (expressions.inside left)) >>= λ others. pure (roll-Expr (record { first = t; rest = others }))

  unfoldable pub behind_bracket : Parser Expr
  behind_bracket = ((first_primary >>= first_factor) >>= first_term) >>= first_sum

  behind_brackets : Final behind_bracket
  unfolding behind_bracket first_primary first_factor first_term first_sum
  behind_brackets =
      bind (bind (bind (bind (inner_exprs left) (λ e. bind closed (λ u. done))) (λ p. done))
      (λ f. bind (rows _ (scales left (inner_exprs left))) (λ xs. done))) (λ t. bind (rows _ (adds left (inner_exprs left))) (λ ys. done))

bracket_first : (left : ℕ) (ts : Tokens) → expr (suc left) (lexeme.Symbol symbol.Open ∷ ts) ≡ behind_bracket (suc left) ts
unfolding expressions.level expressions.term expressions.factor expressions.primary_at expressions.bracketed eat one_if_any behind_bracket first_primary first_factor first_term first_sum
bracket_first left ts = ap (λ r. and_then (and_then (and_then (and_then r (λ u. first_primary (suc left))) (first_factor (suc left))) (first_term (suc left))) (first_sum (suc left))) (opens left ts)

pub no_bracket : (ts : Tokens) → expr 0 (lexeme.Symbol symbol.Open ∷ ts) ≡ Err (length (lexeme.Symbol symbol.Open ∷ ts))
unfolding expressions.level expressions.term expressions.factor expressions.primary_at expressions.bracketed eat one_if_any opening_bracket
no_bracket ts = refl

-- ---- what follows a comparison

module _ (left : ℕ) {inner : Parser (CondOrExpr Cond)} (h : Final inner) where
  inner_queries : Final (inner_query left inner)
  inner_queries = specifications (inner_exprs left) (only_conds h)

  pub subqueries : Final (subquery left inner)
  unfolding subquery
  subqueries = bind (opening left) (λ u. bind inner_queries (λ q. bind closed (λ v. done)))

-- a choice between equal parsers
same_choice : {A : Type 0} (b : Bool) (p q r s : Parser A) (ts us : Tokens) → p ts ≡ r us → q ts ≡ s us → cond b p q ts ≡ cond b r s us
same_choice true p q r s ts us e f = e
same_choice false p q r s ts us e f = f

no_choice : {A : Type 0} (b : Bool) (p q : Parser A) (ts : Tokens) → p ts ≡ q ts → cond b p q ts ≡ q ts
no_choice true p q ts e = e
no_choice false p q ts e = refl

module _ (op : Comparison) {inner : Parser (CondOrExpr Cond)} (h : Final inner) where
  unfoldable pub query_or_expr : ℕ → Parser Tail
  query_or_expr left ts = (cond (sees_query ts) (compared_query left inner op None) (compared_expr left inner op)) ts

  unfoldable pub bracket_opens : ℕ → Parser Tail
  bracket_opens left ts = (cond (sees (lexeme.Word word.Select) ts)
      ((inner_query left inner >>= λ q. close >> pure q) >>= λ q. pure (tails.CompareQuery op None q))
      (behind_bracket left >>= λ e. pure (tails.Compare op e))) ts

  -- the same, by one token after the other
  unfoldable pub by_bracket : ℕ → Parser Tail
  by_bracket zero ts = compared_expr zero inner op ts
  by_bracket (suc left) ts = (cond (sees (lexeme.Symbol symbol.Open) ts)
      (expect (lexeme.Symbol symbol.Open) >> bracket_opens (suc left)) (compared_expr (suc left) inner op)) ts

  opens_query : (left : ℕ) (ts : Tokens) → compared_query (suc left) inner op None (lexeme.Symbol symbol.Open ∷ ts) ≡ ((inner_query (suc left) inner >>= λ q. close >> pure q) >>= λ q. pure (tails.CompareQuery op None q)) ts
  unfolding subquery
  opens_query left ts = ap (λ r. and_then (and_then r (λ u. inner_query (suc left) inner >>= λ q. close >> pure q)) (λ q. pure (tails.CompareQuery op None q))) (opens left ts)

  at_bracket : (left : ℕ) (ts : Tokens) → query_or_expr left (lexeme.Symbol symbol.Open ∷ ts) ≡ by_bracket left (lexeme.Symbol symbol.Open ∷ ts)
  unfolding query_or_expr by_bracket bracket_opens expect subquery opening_bracket
  at_bracket zero ts =
      no_choice (sees (lexeme.Word word.Select) ts) (compared_query zero inner op None) (compared_expr zero inner op) (lexeme.Symbol symbol.Open ∷ ts)
      (sym (ap (λ r. and_then r (λ e. pure (tails.Compare op e))) (no_bracket ts)))
  at_bracket (suc left) ts =
      same_choice (sees (lexeme.Word word.Select) ts) (compared_query (suc left) inner op None) (compared_expr (suc left) inner op) _ _ (lexeme.Symbol symbol.Open ∷ ts) ts
      (opens_query left ts) (ap (λ r. and_then r (λ e. pure (tails.Compare op e))) (bracket_first left ts))

  elsewhere : (left : ℕ) (t : Lexeme) (ts : Tokens) → is_token (lexeme.Symbol symbol.Open) t ≡ false → query_or_expr left (t ∷ ts) ≡ by_bracket left (t ∷ ts)
  unfolding query_or_expr by_bracket
  elsewhere zero t ts e = ap (λ c. cond (c && sees (lexeme.Word word.Select) ts) (compared_query zero inner op None) (compared_expr zero inner op) (t ∷ ts)) e
  elsewhere (suc left) t ts e =
      ap (λ c. cond (c && sees (lexeme.Word word.Select) ts) (compared_query (suc left) inner op None) (compared_expr (suc left) inner op) (t ∷ ts)) e
      ∙ sym (ap (λ c. cond c (expect (lexeme.Symbol symbol.Open) >> bracket_opens (suc left)) (compared_expr (suc left) inner op) (t ∷ ts)) e)

  pub alike_there : (left : ℕ) (ts : Tokens) → query_or_expr left ts ≡ by_bracket left ts
  unfolding query_or_expr by_bracket
  alike_there zero [] = refl
  alike_there (suc left) [] = refl
  alike_there left (t ∷ ts) = by (is_token (lexeme.Symbol symbol.Open) t) refl
    where
      by : (b : Bool) → is_token (lexeme.Symbol symbol.Open) t ≡ b → query_or_expr left (t ∷ ts) ≡ by_bracket left (t ∷ ts)
      by false e = elsewhere left t ts e
      by true e = subst (λ u. query_or_expr left (u ∷ ts) ≡ by_bracket left (u ∷ ts)) (sym (is_token-is (lexeme.Symbol symbol.Open) t e)) (at_bracket left ts)

  sums : (left : ℕ) → Final (compared_expr left inner op)
  sums left = bind (exprs left) (λ e. done)

  bracket_choices : (left : ℕ) → Final (bracket_opens left)
  unfolding bracket_opens
  bracket_choices left = seeing (sees (lexeme.Word word.Select)) (λ t ts us. refl) (bind (bind (inner_queries left h) (λ q. bind closed (λ u. done))) (λ q. done)) (bind (behind_brackets left) (λ e. done))

  bracket_finals : (left : ℕ) → Final (by_bracket left)
  unfolding by_bracket
  bracket_finals zero = sums zero
  bracket_finals (suc left) = seeing (sees (lexeme.Symbol symbol.Open)) (λ t ts us. refl) (must _ (bracket_choices (suc left))) (sums (suc left))

  choices : (left : ℕ) → Final (by_compared left inner op None)
  unfolding query_or_expr
  choices left = alike (alike_there left) (bracket_finals left)

module _ (left : ℕ) {inner : Parser (CondOrExpr Cond)} (h : Final inner) where
  comparison_tails : (op : Comparison) → Final (comparison_tail left inner op)
  unfolding comparison_tail
  comparison_tails op = bind quantified (by_option (by_compared left inner op) (choices op h left) (λ q. bind (subqueries left h) (λ s. done)))

  between_tails : (negated : Bool) → Final (between_tail left inner negated)
  unfolding between_tail
  between_tails negated = bind (exprs left) (λ low. must _ (bind (exprs left) (λ high. done)))

  in_tails : (negated : Bool) → Final (in_tail left inner negated)
  unfolding in_tail
  in_tails negated = bind (opening left) (λ u. seeing (sees (lexeme.Word word.Select)) (λ t ts us. refl)
      (bind (inner_queries left h) (λ s. bind closed (λ v. done)))
      (bind (commas (inner_exprs left)) (λ es. bind closed (λ v. done))))

  like_tails : (negated : Bool) → Final (like_tail left inner negated)
  unfolding like_tail
  like_tails negated = bind (exprs left) (λ pattern. bind (then _ (exprs left)) (λ escape. done))

  no_tails : (negated : Bool) → Final (no_tail left inner negated)
  no_tails = by_bool (no_tail left inner) never done

  negatable_tails : Final (negatable_tail left inner)
  unfolding negatable_tail
  negatable_tails = bind (eaten _) (λ negated.
      if_comes _ (by_between left inner negated) (bind (between_tails negated) (λ t. done))
      (if_comes _ (by_in left inner negated) (bind (in_tails negated) (λ t. done))
      (if_comes _ (by_like left inner negated) (bind (like_tails negated) (λ t. done)) (no_tails negated))))

  tails_final : Final (tail left inner)
  unfolding tail
  tails_final = if_one comparison_of (by_comparison left inner)
      (if_comes _ (by_is left inner) (bind null_tails (λ t. done)) negatable_tails)
      (λ op. bind (comparison_tails op) (λ t. done))

  predicates_from : (e : Expr) → Final (predicate_from left inner e)
  unfolding predicate_from
  predicates_from e = bind tails_final (by_option (tailed left inner e) done (λ t. done))

  brackets : Final (bracket left inner)
  unfolding bracket
  brackets = bind (opening left) (λ u. bind h (λ m. bind closed (λ v. by_came (by_inner left inner) (λ c. done) (λ e. bind (exprs_from left _) predicates_from) m)))

  bodies : Final (body left inner)
  unfolding body
  bodies = if_comes _ (by_exists left inner) (bind (subqueries left h) (λ q. done))
      (seeing (sees (lexeme.Symbol symbol.Open)) (λ t ts us. refl) brackets (bind (exprs left) predicates_from))

  tests : Final (test_at left inner)
  unfolding test_at
  tests = bind (eaten _) (λ negated. bind bodies (by_came (tested left inner negated) (λ b. done) (λ e. by_bool (λ n. tested left inner n (came.Expr e)) never done negated)))

  conjunctions : Final (conj left inner)
  unfolding conj must_be_test
  conjunctions = bind tests (by_came (conjoined left inner) (λ t. bind (rows _ (then _ (only_conds tests))) (λ ts. done)) (λ e. done))

  pub levels : Final (level left inner)
  unfolding level must_be_conj
  levels = bind conjunctions (by_came (disjoined left inner) (λ c. bind (rows _ (then _ (only_conds conjunctions))) (λ cs. done)) (λ e. done))

pub inner_conds : (left : ℕ) → Final (inside left)
unfolding inside
inner_conds zero = never
inner_conds (suc left) = levels left (inner_conds left)

pub conds : (left : ℕ) → Final (condition left)
unfolding condition
conds left = only_conds (levels left (inner_conds left))

pub query_specifications : (left : ℕ) → Final (query_specification left)
query_specifications left = specifications (exprs left) (conds left)
