-- The tokens of a search condition are read as it. If a condition may begin with an expression, the expression's tokens are
-- read as the expression.
use Rattle.std.proofs.Common.{◌≡◌, ℕ, zero, suc, ◌<◌, max, Bool, true, false, List, [], ◌∷◌, ◌++◌, length, map, Option, Some, None, refl, sym, ◌∙◌, ap, subst, arith, append_assoc, append-nil}
use Rattle.std.specs.List.{flat_map}
use Rattle.sq_lex.specs.declared.lexeme.Lexeme.TheVariants as lexeme
use Rattle.sq_lex.specs.declared.symbol.Symbol.TheVariants as symbol
use Rattle.sq_lex.specs.declared.word.Word.{Word}
use Rattle.sq_lex.specs.declared.word.Word.TheVariants as word
use Rattle.sq_lex.specs.Word.{same_word}
use Rattle.sq_tree.specs.declared.names.ColumnReference.{ColumnReference}
use Rattle.sq_tree.specs.declared.expr.Sign.{Sign}
use Rattle.sq_tree.specs.declared.expr.Sign.TheVariants.{Plus, Minus}
use Rattle.sq_tree.specs.declared.expr.SetFunction.{SetFunction}
use Rattle.sq_tree.specs.declared.expr.SetFunction.TheVariants as function
use Rattle.sq_tree.specs.declared.expr.Primary.{Primary}
use Rattle.sq_tree.specs.declared.expr.Primary.TheVariants as primary
use Rattle.sq_tree.specs.declared.expr.Expr.{Expr, out-Expr, roll-Expr, roll-out-Expr}
use Rattle.sq_tree.specs.declared.expr.Term.{Term, out-Term, roll-Term, roll-out-Term}
use Rattle.sq_tree.specs.declared.expr.Added.{Added}
use Rattle.sq_tree.specs.declared.expr.Scaled.{Scaled}
use Rattle.sq_tree.specs.declared.cond.Comparison.{Comparison}
use Rattle.sq_tree.specs.declared.cond.Comparison.TheVariants as comparison
use Rattle.sq_tree.specs.declared.cond.Body.{Body}
use Rattle.sq_tree.specs.declared.cond.Body.TheVariants as bodies
use Rattle.sq_tree.specs.declared.cond.Tail.{Tail}
use Rattle.sq_tree.specs.declared.cond.Test.{Test}
use Rattle.sq_tree.specs.declared.cond.Conj.{Conj, out-Conj, roll-out-Conj}
use Rattle.sq_tree.specs.declared.cond.Cond.{Cond, out-Cond, roll-out-Cond}
use Rattle.sq_tree.specs.declared.cond.QuerySpecification.{QuerySpecification}
use Rattle.sq_tree.specs.Tree.{optional}
use Rattle.sq_tree.proofs.TreeDepth.{greatest}
use Rattle.sq_tree.specs.Names.{column_reference_tokens}
use Rattle.sq_tree.specs.Expr.{sign_tokens, function_token, primary_tokens, scaled_tokens, added_tokens, expr_tokens}
use Rattle.sq_tree.proofs.ExprDepth.{primary_depth, scaled_depth, added_depth, expr_depth}
use Rattle.sq_tree.specs.Cond.{comparison_token, not_tokens, cond_tokens, conj_tokens, test_tokens, body_tokens, tail_tokens}
use Rattle.sq_tree.proofs.CondDepth.{cond_depth, conj_depth, test_depth, body_depth, tail_depth}
use Rattle.sq_tree.proofs.ExprLaws as exprs
use Rattle.sq_tree.proofs.ExprLaws.{primary_cases}
use Rattle.sq_tree.proofs.CondLaws as law
use Rattle.sq_tree.proofs.CondLaws.{and_test, or_conj, body_cases}
use Rattle.sq_grammar.specs.declared.cond_or_expr.CondOrExpr.{CondOrExpr}
use Rattle.sq_grammar.specs.declared.cond_or_expr.CondOrExpr.TheVariants as came
use Rattle.sq_grammar.specs.Reading.{Tokens, Parser, sees, behind, all, pure}
use Rattle.sq_grammar.specs.Expr.{expr, expr_from}
use Rattle.sq_grammar.specs.Cond.{only_cond, must_be_cond, subquery, tail, predicate_from, bracket, by_open, body, tested, test_at, must_be_test, conj, must_be_conj, level, inside, cond}
use Rattle.sq_grammar.proofs.Taken.Takes.{Takes, done, fits, lifted, respelled, andthen, mapped, word, closing, expected, eaten, uneaten, either, behind_it, openly, seeing, unseeing, rows, follows, none_behind}
use Rattle.sq_grammar.proofs.Taken.NamesTakes.{column_cases}
use Rattle.sq_grammar.proofs.Taken.ExprTakes.{Starts, expr_starts, foreign, expr_takes, expr_from_takes, close_ends}
use Rattle.sq_grammar.proofs.Taken.TailTakes.{subquery_takes, tail_takes, no_tail, close_ends_cond}
use Rattle.sq_grammar.proofs.Ends.Follows.{EndsExpr, EndsBare, EndsTest, EndsConj, EndsCond, ends_expr}

-- ---- an expression in its parts

abbrev built : Option Sign → Primary → List Scaled → List Added → Expr
built s p xs ys = roll-Expr (record { first = roll-Term (record { first = record { sign = s; primary = p }; rest = xs }); rest = ys })

built_tokens : (s : Option Sign) (p : Primary) (xs : List Scaled) (ys : List Added) (rest : Tokens) → expr_tokens (built s p xs ys) ++ rest ≡ optional sign_tokens s ++ (primary_tokens p ++ ((flat_map scaled_tokens xs ++ flat_map added_tokens ys) ++ rest))
built_tokens s p xs ys rest = simp (exprs.expr_tokens-roll, exprs.term_tokens-roll, exprs.factor_tokens-out, append_assoc)

built_depth : (s : Option Sign) (p : Primary) (xs : List Scaled) (ys : List Added) → expr_depth (built s p xs ys) ≡ max (max (primary_depth p) (greatest (map scaled_depth xs))) (greatest (map added_depth ys))
built_depth s p xs ys = simp (exprs.expr_depth-roll, exprs.term_depth-roll, exprs.factor_depth-out)

by_parts : (P : Expr → Type 0) → ((s : Option Sign) (p : Primary) (xs : List Scaled) (ys : List Added) → P (built s p xs ys)) → (e : Expr) → P e
by_parts P h e =
    let t : Term = (out-Expr e).first in
    subst P (ap (λ u. roll-Expr (record { first = u; rest = (out-Expr e).rest })) (roll-out-Term t) ∙ roll-out-Expr e) (h (out-Term t).first.sign (out-Term t).first.primary (out-Term t).rest (out-Expr e).rest)

-- ---- what a condition begins with

lacks_exists : (e : Expr) (ts : Tokens) → sees (lexeme.Word word.Exists) (expr_tokens e ++ ts) ≡ false
lacks_exists = expr_starts _ (foreign word.Exists refl refl refl refl refl refl)

lacks_not : (e : Expr) (ts : Tokens) → sees (lexeme.Word word.Not) (expr_tokens e ++ ts) ≡ false
lacks_not = expr_starts _ (foreign word.Not refl refl refl refl refl refl)

-- a test's body begins with no word that begins no expression, but EXISTS
body_starts : (w : Word) → Starts (λ ts. sees (lexeme.Word w) ts ≡ false) → same_word word.Exists w ≡ false → (b : Body) (ts : Tokens) → sees (lexeme.Word w) (body_tokens b ++ ts) ≡ false
body_starts w starts exist b ts = body_cases (λ x. sees (lexeme.Word w) (body_tokens x ++ ts) ≡ false)
    (λ e t. rw (law.body_tokens-Predicate e t, append_assoc (expr_tokens e)) (expr_starts _ starts e _))
    (λ q. rw (law.body_tokens-Exists q) exist)
    (λ c. rw (law.body_tokens-Bracketed c) refl) b

test_starts : (w : Word) → Starts (λ ts. sees (lexeme.Word w) ts ≡ false) → same_word word.Exists w ≡ false → same_word word.Not w ≡ false → (t : Test) (ts : Tokens) → sees (lexeme.Word w) (test_tokens t ++ ts) ≡ false
test_starts w starts exist negation t ts = rw (law.test_tokens-out t) (by t.negated t.body)
  where
    by : (n : Bool) (b : Body) → sees (lexeme.Word w) ((not_tokens n ++ body_tokens b) ++ ts) ≡ false
    by true b = negation
    by false b = body_starts w starts exist b ts

pub cond_starts : (w : Word) → Starts (λ ts. sees (lexeme.Word w) ts ≡ false) → same_word word.Exists w ≡ false → same_word word.Not w ≡ false → (c : Cond) (ts : Tokens) → sees (lexeme.Word w) (cond_tokens c ++ ts) ≡ false
cond_starts w starts exist negation c ts =
    let j : Conj = (out-Cond c).first in
    rw (law.cond_tokens-out c, append_assoc (conj_tokens j), law.conj_tokens-out j, append_assoc (test_tokens (out-Conj j).first)) (test_starts w starts exist negation (out-Conj j).first _)

-- ---- the rules, over what reads behind a bracket

bare_at_close : (ts : Tokens) → EndsBare (lexeme.Symbol symbol.Close ∷ ts)
bare_at_close ts = record { expr = close_ends ts; comparison = refl; is = refl; not = refl; between = refl; in_word = refl; like = refl }

module _ (left : ℕ) (inner : Parser (CondOrExpr Cond))
    (whole_takes : 0 < left → (c : Cond) (rest : Tokens) → EndsCond rest → Takes inner (cond_tokens c) 1 1 (suc (cond_depth c)) left (came.Cond c) rest)
    (bare_takes : 0 < left → (e : Expr) (rest : Tokens) → EndsBare rest → Takes inner (expr_tokens e) 1 1 (suc (expr_depth e)) left (came.Expr e) rest) where
  -- An expression, and what is read behind it: the bracket that it may begin with could be a condition's.
  abbrev HeadTakes : Expr → Type 0
  HeadTakes e = (more rest : Tokens) (d : ℕ) (m : CondOrExpr Body) → EndsExpr (more ++ rest) → Takes (predicate_from left inner e) more 0 0 d left m rest → Takes (by_open left inner) (expr_tokens e ++ more) 0 0 (max (expr_depth e) d) left m rest

  plain_head : (e : Expr) → ((ts : Tokens) → sees (lexeme.Symbol symbol.Open) (expr_tokens e ++ ts) ≡ false) → HeadTakes e
  plain_head e closed more rest d m ends s = unseeing (sees (lexeme.Symbol symbol.Open)) _ _ (rw (append_assoc (expr_tokens e)) (closed _)) (andthen (expr left) _ e (expr_takes left e _ ends) s)

  bracket_head : (e : Expr) (xs : List Scaled) (ys : List Added) → HeadTakes (built None (primary.Bracketed e) xs ys)
  unfolding bracket
  bracket_head e xs ys more rest d m ends s =
      let whole : Expr = built None (primary.Bracketed e) xs ys in
      let others : Tokens = flat_map scaled_tokens xs ++ flat_map added_tokens ys in
      let spelled : lexeme.Symbol symbol.Open ∷ (expr_tokens e ++ (lexeme.Symbol symbol.Close ∷ (others ++ more))) ≡ expr_tokens whole ++ more =
      sym (built_tokens None (primary.Bracketed e) xs ys more ∙ ap (λ ts. ts ++ (others ++ more)) (exprs.primary_tokens-Bracketed e) ∙ ap (λ ts. lexeme.Symbol symbol.Open ∷ ts) (append_assoc (expr_tokens e) (lexeme.Symbol symbol.Close ∷ []) (others ++ more))) in
      let depth = built_depth None (primary.Bracketed e) xs ys in
      let of_bracket = exprs.primary_depth-Bracketed e in
      respelled spelled (seeing (sees (lexeme.Symbol symbol.Open)) _ _ refl
      (openly _ (omega (arith, depth, of_bracket)) (λ room. fits (λ h. omega (arith, depth, of_bracket)) (λ h. omega (arith, depth, of_bracket))
      (andthen inner _ (came.Expr e) (bare_takes room e _ (bare_at_close _)) (expected closing _
      (andthen (expr_from left (primary.Bracketed e)) _ whole (expr_from_takes left (primary.Bracketed e) xs ys _ ends) s))))))

  abbrev UnsignedHead : Primary → Type 0
  UnsignedHead p = (xs : List Scaled) (ys : List Added) → HeadTakes (built None p xs ys)

  -- no bracket comes first
  closed_head : (s : Option Sign) (p : Primary) (xs : List Scaled) (ys : List Added) → ((ts : Tokens) → sees (lexeme.Symbol symbol.Open) (optional sign_tokens s ++ (primary_tokens p ++ ts)) ≡ false) → HeadTakes (built s p xs ys)
  closed_head s p xs ys closed = plain_head (built s p xs ys) (λ ts. rw (built_tokens s p xs ys ts) (closed _))

  column_closed : (c : ColumnReference) (ts : Tokens) → sees (lexeme.Symbol symbol.Open) (column_reference_tokens c ++ ts) ≡ false
  column_closed c ts = column_cases (λ d. sees (lexeme.Symbol symbol.Open) (column_reference_tokens d ++ ts) ≡ false) (λ n. refl) (λ t n. refl) (λ s t n. refl) c

  function_closed : (f : SetFunction) (ts : Tokens) → sees (lexeme.Symbol symbol.Open) (function_token f ∷ ts) ≡ false
  function_closed function.Count ts = refl
  function_closed function.Sum ts = refl
  function_closed function.Avg ts = refl
  function_closed function.Min ts = refl
  function_closed function.Max ts = refl

  unsigned_head : (p : Primary) → UnsignedHead p
  unsigned_head = primary_cases UnsignedHead
      (λ n xs ys. closed_head None (primary.Number n) xs ys (λ ts. rw (exprs.primary_tokens-Number n) refl))
      (λ t xs ys. closed_head None (primary.Text t) xs ys (λ ts. rw (exprs.primary_tokens-Text t) refl))
      (λ p xs ys. closed_head None (primary.Parameter p) xs ys (λ ts. rw (exprs.primary_tokens-Parameter p) refl))
      (λ xs ys. closed_head None primary.User xs ys (λ ts. rw exprs.primary_tokens-User refl))
      (λ c xs ys. closed_head None (primary.Column c) xs ys (λ ts. rw (exprs.primary_tokens-Column c) (column_closed c ts)))
      (λ xs ys. closed_head None primary.CountRows xs ys (λ ts. rw exprs.primary_tokens-CountRows refl))
      (λ f q e xs ys. closed_head None (primary.SetFunction f q e) xs ys (λ ts. rw (exprs.primary_tokens-SetFunction f q e) (function_closed f ts)))
      bracket_head

  head_takes : (e : Expr) → HeadTakes e
  head_takes = by_parts HeadTakes by
    where
      by : (s : Option Sign) (p : Primary) (xs : List Scaled) (ys : List Added) → HeadTakes (built s p xs ys)
      by None p xs ys = unsigned_head p xs ys
      by (Some Plus) p xs ys = closed_head (Some Plus) p xs ys (λ ts. refl)
      by (Some Minus) p xs ys = closed_head (Some Minus) p xs ys (λ ts. refl)

  -- the second part of a predicate does not go on with an expression
  tail_ends : (t : Tail) (ts : Tokens) → EndsExpr (tail_tokens t ++ ts)
  tail_ends t ts = law.tail_cases (λ u. EndsExpr (tail_tokens u ++ ts))
      (λ op e. rw (law.tail_tokens-Compare op e) (operator_ends op _))
      (λ op q s. rw (law.tail_tokens-CompareQuery op q s) (operator_ends op _))
      (λ n low high. rw (law.tail_tokens-Between n low high, append_assoc (not_tokens n ++ lexeme.Word word.Between ∷ expr_tokens low)) (word_ends n word.Between _ _ refl))
      (λ n q. rw (law.tail_tokens-InQuery n q) (word_ends n word.In _ _ refl))
      (λ n es. rw (law.tail_tokens-InList n es) (word_ends n word.In _ _ refl))
      (λ n p e. rw (law.tail_tokens-Like n p e, append_assoc (not_tokens n ++ lexeme.Word word.Like ∷ expr_tokens p)) (word_ends n word.Like _ _ refl))
      (λ n. rw (law.tail_tokens-Null n) (plain_ends word.Is _ refl)) t
    where
      operator_ends : (op : Comparison) (us : Tokens) → EndsExpr (comparison_token op ∷ us)
      operator_ends comparison.Equal us = ends_expr _ refl
      operator_ends comparison.NotEqual us = ends_expr _ refl
      operator_ends comparison.Less us = ends_expr _ refl
      operator_ends comparison.Greater us = ends_expr _ refl
      operator_ends comparison.LessOrEqual us = ends_expr _ refl
      operator_ends comparison.GreaterOrEqual us = ends_expr _ refl

      plain_ends : (w : Word) (us : Tokens) → same_word w word.Indicator ≡ false → EndsExpr (lexeme.Word w ∷ us)
      plain_ends w us other = record { term = record { factor = record { dot = refl; colon = refl; indicator = other }; star = refl; slash = refl }; plus = refl; minus = refl }

      word_ends : (n : Bool) (w : Word) (text us : Tokens) → same_word w word.Indicator ≡ false → EndsExpr ((not_tokens n ++ (lexeme.Word w ∷ text)) ++ us)
      word_ends true w text us other = plain_ends word.Not _ refl
      word_ends false w text us other = plain_ends w _ other

  predicate_takes : (e : Expr) (t : Tail) (rest : Tokens) → EndsTest rest → Takes (body left inner) (body_tokens (bodies.Predicate e t)) 0 0 (body_depth (bodies.Predicate e t)) left (came.Cond (bodies.Predicate e t)) rest
  unfolding body predicate_from
  predicate_takes e t rest ends = rw (law.body_tokens-Predicate e t, law.body_depth-Predicate e t)
      (uneaten (lexeme.Word word.Exists) _ (rw (append_assoc (expr_tokens e)) (lacks_exists e _))
      (head_takes e (tail_tokens t) rest (tail_depth t) _ (tail_ends t rest) (mapped (tail left inner) _ (Some t) (tail_takes left inner whole_takes t rest ends) refl)))

  body_bare : (e : Expr) (rest : Tokens) → EndsBare rest → Takes (body left inner) (expr_tokens e) 0 0 (expr_depth e) left (came.Expr e) rest
  unfolding body predicate_from
  body_bare e rest ends = uneaten (lexeme.Word word.Exists) _ (lacks_exists e rest)
      (respelled (append-nil (expr_tokens e)) (fits (λ h. omega arith) (λ h. omega arith) (head_takes e [] rest 0 _ ends.expr (mapped (tail left inner) _ None (no_tail left inner whole_takes rest ends) refl))))

  exists_takes : (q : QuerySpecification) (rest : Tokens) → Takes (body left inner) (body_tokens (bodies.Exists q)) 0 0 (body_depth (bodies.Exists q)) left (came.Cond (bodies.Exists q)) rest
  unfolding body
  exists_takes q rest = rw (law.body_tokens-Exists q, law.body_depth-Exists q) (fits (λ h. omega arith) (λ h. omega arith)
      (eaten (word word.Exists) _ (mapped (subquery left inner) _ q (subquery_takes left inner whole_takes q rest) refl)))

  bracketed_takes : (c : Cond) (rest : Tokens) → Takes (body left inner) (body_tokens (bodies.Bracketed c)) 0 0 (body_depth (bodies.Bracketed c)) left (came.Cond (bodies.Bracketed c)) rest
  unfolding body bracket
  bracketed_takes c rest = rw (law.body_tokens-Bracketed c, law.body_depth-Bracketed c)
      (uneaten (lexeme.Word word.Exists) _ refl (seeing (sees (lexeme.Symbol symbol.Open)) _ _ refl
      (openly _ (omega arith) (λ room. fits (λ h. omega arith) (λ h. omega arith) (andthen inner _ (came.Cond c) (whole_takes room c _ (close_ends_cond rest)) (expected closing _ done))))))

  pub body_takes : (b : Body) (rest : Tokens) → EndsTest rest → Takes (body left inner) (body_tokens b) 0 0 (body_depth b) left (came.Cond b) rest
  body_takes b rest ends = body_cases (λ x. Takes (body left inner) (body_tokens x) 0 0 (body_depth x) left (came.Cond x) rest) (λ e t. predicate_takes e t rest ends) (λ q. exists_takes q rest) (λ c. bracketed_takes c rest) b

  pub test_takes : (t : Test) (rest : Tokens) → EndsTest rest → Takes (test_at left inner) (test_tokens t) 0 0 (test_depth t) left (came.Cond t) rest
  unfolding test_at
  test_takes t rest ends = rw (law.test_tokens-out t, law.test_depth-out t) (either (word word.Not) t.negated _ (body_starts word.Not (foreign word.Not refl refl refl refl refl refl) refl t.body rest) (mapped (body left inner) _ (came.Cond t.body) (body_takes t.body rest ends) (by t.negated t.body)))
    where
      by : (n : Bool) (b : Body) → tested left inner n (came.Cond b) ≡ pure (came.Cond (record { negated = n; body = b }))
      by n b = refl

  test_bare : (e : Expr) (rest : Tokens) → EndsBare rest → Takes (test_at left inner) (expr_tokens e) 0 0 (expr_depth e) left (came.Expr e) rest
  unfolding test_at
  test_bare e rest ends = uneaten (lexeme.Word word.Not) _ (lacks_not e rest) (mapped (body left inner) _ (came.Expr e) (body_bare e rest ends) refl)

  and_each : (t : Test) (rest : Tokens) → EndsTest rest → Takes (behind (lexeme.Word word.And) (must_be_test left inner)) (and_test t) 0 0 (test_depth t) left (Some t) rest
  unfolding must_be_test
  and_each t rest ends = behind_it (word word.And) (must_be_test left inner) (mapped (test_at left inner) only_cond (came.Cond t) (test_takes t rest ends) refl)

  and_starts : (t : Test) (rest : Tokens) → EndsTest (and_test t ++ rest)
  and_starts t rest = record { expr = ends_expr _ refl; escape = refl }

  and_long : (t : Test) → 0 < length (and_test t)
  and_long t = omega arith

  pub conj_takes : (c : Conj) (rest : Tokens) → EndsConj rest → Takes (conj left inner) (conj_tokens c) 0 0 (conj_depth c) left (came.Cond c) rest
  unfolding conj
  conj_takes c rest ends =
      let first : Test = (out-Conj c).first in
      let others : List Test = (out-Conj c).rest in
      let item : Parser (Option Test) = behind (lexeme.Word word.And) (must_be_test left inner) in
      rw (law.conj_tokens-out c, law.conj_depth-out c) (andthen (test_at left inner) _ (came.Cond first) (test_takes first _ (follows item and_test test_depth 0 left EndsTest and_each and_starts and_long others rest ends.test))
      (mapped (all item) _ others (rows item and_test test_depth 0 left EndsTest and_each and_starts and_long others rest ends.test (none_behind (lexeme.Word word.And) (must_be_test left inner) rest ends.and)) (ap (λ x. pure (came.Cond x)) (roll-out-Conj c))))

  conj_bare : (e : Expr) (rest : Tokens) → EndsBare rest → Takes (conj left inner) (expr_tokens e) 0 0 (expr_depth e) left (came.Expr e) rest
  unfolding conj
  conj_bare e rest ends = mapped (test_at left inner) _ (came.Expr e) (test_bare e rest ends) refl

  or_each : (c : Conj) (rest : Tokens) → EndsConj rest → Takes (behind (lexeme.Word word.Or) (must_be_conj left inner)) (or_conj c) 0 0 (conj_depth c) left (Some c) rest
  unfolding must_be_conj
  or_each c rest ends = behind_it (word word.Or) (must_be_conj left inner) (mapped (conj left inner) only_cond (came.Cond c) (conj_takes c rest ends) refl)

  or_starts : (c : Conj) (rest : Tokens) → EndsConj (or_conj c ++ rest)
  or_starts c rest = record { test = record { expr = ends_expr _ refl; escape = refl }; and = refl }

  or_long : (c : Conj) → 0 < length (or_conj c)
  or_long c = omega arith

  pub level_takes : (c : Cond) (rest : Tokens) → EndsCond rest → Takes (level left inner) (cond_tokens c) 0 0 (cond_depth c) left (came.Cond c) rest
  unfolding level
  level_takes c rest ends =
      let first : Conj = (out-Cond c).first in
      let others : List Conj = (out-Cond c).rest in
      let item : Parser (Option Conj) = behind (lexeme.Word word.Or) (must_be_conj left inner) in
      rw (law.cond_tokens-out c, law.cond_depth-out c) (andthen (conj left inner) _ (came.Cond first) (conj_takes first _ (follows item or_conj conj_depth 0 left EndsConj or_each or_starts or_long others rest ends.conj))
      (mapped (all item) _ others (rows item or_conj conj_depth 0 left EndsConj or_each or_starts or_long others rest ends.conj (none_behind (lexeme.Word word.Or) (must_be_conj left inner) rest ends.or)) (ap (λ x. pure (came.Cond x)) (roll-out-Cond c))))

  pub level_bare : (e : Expr) (rest : Tokens) → EndsBare rest → Takes (level left inner) (expr_tokens e) 0 0 (expr_depth e) left (came.Expr e) rest
  unfolding level
  level_bare e rest ends = mapped (conj left inner) _ (came.Expr e) (conj_bare e rest ends) refl

-- behind a bracket that is one of `left`
pub record Inside (left : ℕ) : Type 0 where
  pub whole : 0 < left → (c : Cond) (rest : Tokens) → EndsCond rest → Takes (inside left) (cond_tokens c) 1 1 (suc (cond_depth c)) left (came.Cond c) rest
  pub bare : 0 < left → (e : Expr) (rest : Tokens) → EndsBare rest → Takes (inside left) (expr_tokens e) 1 1 (suc (expr_depth e)) left (came.Expr e) rest

pub inside_takes : (left : ℕ) → Inside left
unfolding inside
inside_takes zero = record { whole = λ room c rest ends. absurd (omega arith); bare = λ room e rest ends. absurd (omega arith) }
inside_takes (suc left) =
    let i = inside_takes left in
    record {
      whole = λ room c rest ends. lifted (level_takes left (inside left) i.whole i.bare c rest ends);
      bare = λ room e rest ends. lifted (level_bare left (inside left) i.whole i.bare e rest ends);
    }

pub inner_cond_takes : (left : ℕ) (c : Cond) (rest : Tokens) → 0 < left → EndsCond rest → Takes (must_be_cond (inside left)) (cond_tokens c) 1 1 (suc (cond_depth c)) left c rest
inner_cond_takes left c rest room ends = mapped (inside left) only_cond (came.Cond c) ((inside_takes left).whole room c rest ends) refl

pub cond_takes : (left : ℕ) (c : Cond) (rest : Tokens) → EndsCond rest → Takes (cond left) (cond_tokens c) 0 0 (cond_depth c) left c rest
unfolding cond
cond_takes left c rest ends = let i = inside_takes left in mapped (level left (inside left)) only_cond (came.Cond c) (level_takes left (inside left) i.whole i.bare c rest ends) refl
