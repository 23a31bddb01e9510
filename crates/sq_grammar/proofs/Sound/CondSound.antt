-- Search conditions are spelled by what was read.
use Rattle.std.proofs.Common.{◌≡◌, ℕ, zero, suc, ◌+◌, ◌-◌, ◌<◌, Bool, true, false, [], ◌∷◌, ◌++◌, Option, Some, None, refl, ◌∙◌, ap, arith, append_assoc}
use Rattle.sq_lex.specs.declared.lexeme.Lexeme.{Lexeme}
use Rattle.sq_lex.specs.declared.lexeme.Lexeme.TheVariants as lexeme
use Rattle.sq_lex.specs.declared.symbol.Symbol.TheVariants as symbol
use Rattle.sq_lex.specs.declared.word.Word.TheVariants as word
use Rattle.sq_tree.specs.declared.expr.Expr.{Expr}
use Rattle.sq_tree.specs.declared.expr.Primary.TheVariants as primary
use Rattle.sq_tree.specs.declared.cond.Comparison.{Comparison}
use Rattle.sq_tree.specs.declared.cond.Comparison.TheVariants as comparison
use Rattle.sq_tree.specs.declared.cond.Quantifier.{Quantifier}
use Rattle.sq_tree.specs.declared.cond.Quantifier.TheVariants as quantifier
use Rattle.sq_tree.specs.declared.cond.Tail.{Tail}
use Rattle.sq_tree.specs.declared.cond.Tail.TheVariants as tails
use Rattle.sq_tree.specs.declared.cond.Body.{Body}
use Rattle.sq_tree.specs.declared.cond.Body.TheVariants as bodies
use Rattle.sq_tree.specs.declared.cond.Test.{Test}
use Rattle.sq_tree.specs.declared.cond.Conj.{roll-Conj}
use Rattle.sq_tree.specs.declared.cond.Cond.{Cond, roll-Cond}
use Rattle.sq_tree.specs.Tree.{Tokens, optional, bracketed}
use Rattle.sq_tree.proofs.TreeDepth.{optional_depth}
use Rattle.sq_tree.specs.Expr.{expr_tokens}
use Rattle.sq_tree.proofs.ExprDepth.{expr_depth}
use Rattle.sq_tree.specs.Cond.{comparison_token, compared_tokens, not_tokens, cond_tokens, conj_tokens, test_tokens, body_tokens, tail_tokens, query_specification_tokens}
use Rattle.sq_tree.proofs.CondDepth.{cond_depth, conj_depth, test_depth, body_depth, tail_depth, query_specification_depth}
use Rattle.sq_tree.proofs.CondLaws as law
use Rattle.sq_tree.proofs.CondLaws.{and_test, or_conj}
use Rattle.sq_tree.proofs.ExprLaws as exprs
use Rattle.sq_grammar.specs.declared.cond_or_expr.CondOrExpr.{CondOrExpr}
use Rattle.sq_grammar.specs.declared.cond_or_expr.CondOrExpr.TheVariants as came
use Rattle.sq_grammar.specs.Reading.{Parser, eat, sees, one_if_any, behind, comma_separated, all, pure, ◌>>=◌}
use Rattle.sq_grammar.specs.Expr as expressions
use Rattle.sq_grammar.specs.Expr.{expr, expr_from}
use Rattle.sq_grammar.specs.Cond.{comparison_of, compared_if_any, sees_query, only_cond, must_be_cond, null_tail, inner_query, subquery, compared_query, comparison_tail, between_tail, in_tail, like_tail, by_between, negatable_tail, tail, predicate_from, bracket, body, tested, test_at, must_be_test, conj, must_be_conj, level, inside, cond, query_specification}
use Rattle.sq_grammar.proofs.Sound.Spells.{Sound, After, sound, unsound, built, never, andthen, eats, eaten, expected, openly, maybe, following, either, of_either, either_way, raised, rows, behinds, lists, one_maybe, some_is, lowered, lifted, eased}
use Rattle.sq_grammar.proofs.Sound.ExprSound as expr_proof
use Rattle.sq_grammar.proofs.Sound.SelectSound.{specifications}

comparison_is : (t : Lexeme) (c : Comparison) → comparison_of t ≡ Some c → t ≡ comparison_token c
comparison_is (lexeme.Symbol symbol.Equal) c e = ap comparison_token (some_is comparison.Equal c e)
comparison_is (lexeme.Symbol symbol.NotEqual) c e = ap comparison_token (some_is comparison.NotEqual c e)
comparison_is (lexeme.Symbol symbol.Less) c e = ap comparison_token (some_is comparison.Less c e)
comparison_is (lexeme.Symbol symbol.Greater) c e = ap comparison_token (some_is comparison.Greater c e)
comparison_is (lexeme.Symbol symbol.LessOrEqual) c e = ap comparison_token (some_is comparison.LessOrEqual c e)
comparison_is (lexeme.Symbol symbol.GreaterOrEqual) c e = ap comparison_token (some_is comparison.GreaterOrEqual c e)
comparison_is _ c e = cc

compareds : (left : ℕ) → Sound compared_if_any (optional compared_tokens) (λ _. 0) left
compareds left = sound (eaten (lexeme.Word word.All) _
    (built (Some quantifier.All) _ _ refl (λ h. omega arith))
    (eaten (lexeme.Word word.Any) _
    (built (Some quantifier.Any) _ _ refl (λ h. omega arith))
    (eaten (lexeme.Word word.Some) _
    (built (Some quantifier.Some) _ _ refl (λ h. omega arith))
    (built None _ _ refl (λ h. omega arith)))))

-- what was read is a part of a condition where it has to be
pub must_be_cond_sound : {A : Type 0} {text : A → Tokens} {depth : A → ℕ} (left : ℕ) (p : Parser (CondOrExpr A)) → Sound p (of_either text expr_tokens) (of_either depth expr_depth) left → Sound (must_be_cond p) text depth left
must_be_cond_sound left p s = sound (either_way p only_cond s (λ x. built x _ _ refl (λ h. omega arith)) (λ e. never _ _))

null_sound : (left : ℕ) → After (lexeme.Word word.Is ∷ []) 0 left null_tail tail_tokens tail_depth
unfolding null_tail
null_sound left = andthen (eat (lexeme.Word word.Not)) _ (eats (lexeme.Word word.Not) left) (λ n. expected (lexeme.Word word.Null) _
    (built (tails.Null n) _ _ (law.tail_tokens-Null n) (λ h. rw (law.tail_depth-Null n) (omega arith))))

module _ (left : ℕ) (inner : Parser (CondOrExpr Cond)) (s : Sound inner (of_either cond_tokens expr_tokens) (λ m. of_either cond_depth expr_depth m + 1) left) where
  inner_exprs : Sound (expressions.inside left) expr_tokens expr_depth (left - 1)
  inner_exprs = lowered left (expr_proof.inside_sound left)

  inner_query_sound : 0 < left → Sound (inner_query left inner) query_specification_tokens (λ q. query_specification_depth q + 1) left
  inner_query_sound room = lifted left room (specifications (left - 1) (expressions.inside left) (must_be_cond inner) inner_exprs (must_be_cond_sound (left - 1) inner (lowered left s)))

  subquery_sound : Sound (subquery left inner) (λ q. bracketed (query_specification_tokens q)) (λ q. query_specification_depth q + 1) left
  unfolding subquery
  subquery_sound = sound (openly left _ (λ room. andthen (inner_query left inner) _ (inner_query_sound room) (λ q. expected (lexeme.Symbol symbol.Close) _ (built q _ _ refl (λ h. omega arith)))))

  compared_query_sound : (op : Comparison) (q : Option Quantifier) → After (comparison_token op ∷ optional compared_tokens q) 0 left (compared_query left inner op q) tail_tokens tail_depth
  compared_query_sound op q = andthen (subquery left inner) _ subquery_sound (λ x. built (tails.CompareQuery op q x) _ _ (law.tail_tokens-CompareQuery op q x) (λ h. rw (law.tail_depth-CompareQuery op q x) (omega arith)))

  comparison_sound : (op : Comparison) → After (comparison_token op ∷ []) 0 left (comparison_tail left inner op) tail_tokens tail_depth
  unfolding comparison_tail
  comparison_sound op = maybe compared_if_any _ (compareds left)
      (either sees_query _ _ (compared_query_sound op None)
      (andthen (expr left) _ (expr_proof.expr_sound left) (λ e. built (tails.Compare op e) _ _ (law.tail_tokens-Compare op e) (λ h. rw (law.tail_depth-Compare op e) (omega arith)))))
      (λ q. compared_query_sound op (Some q))

  between_sound : (n : Bool) → After (not_tokens n ++ lexeme.Word word.Between ∷ []) 0 left (between_tail left inner n) tail_tokens tail_depth
  unfolding between_tail
  between_sound n = andthen (expr left) _ (expr_proof.expr_sound left) (λ low. expected (lexeme.Word word.And) _ (andthen (expr left) _ (expr_proof.expr_sound left) (λ high.
      built (tails.Between n low high) _ _ (law.tail_tokens-Between n low high ∙ simp append_assoc) (λ h. rw (law.tail_depth-Between n low high) (omega arith)))))

  in_sound : (n : Bool) → After (not_tokens n ++ lexeme.Word word.In ∷ []) 0 left (in_tail left inner n) tail_tokens tail_depth
  unfolding in_tail
  in_sound n = openly left _ (λ room. either (sees (lexeme.Word word.Select)) _ _
      (andthen (inner_query left inner) _ (inner_query_sound room) (λ q. expected (lexeme.Symbol symbol.Close) _
      (built (tails.InQuery n q) _ _ (law.tail_tokens-InQuery n q ∙ simp append_assoc) (λ h. rw (law.tail_depth-InQuery n q) (omega arith)))))
      (andthen (comma_separated (expressions.inside left)) _ (lifted left room (lists (expressions.inside left) (left - 1) inner_exprs)) (λ es. expected (lexeme.Symbol symbol.Close) _
      (built (tails.InList n es) _ _ (law.tail_tokens-InList n es ∙ simp append_assoc) (λ h. rw (law.tail_depth-InList n es) (omega arith))))))

  like_sound : (n : Bool) → After (not_tokens n ++ lexeme.Word word.Like ∷ []) 0 left (like_tail left inner n) tail_tokens tail_depth
  unfolding like_tail
  like_sound n = andthen (expr left) _ (expr_proof.expr_sound left) (λ p. andthen (behind (lexeme.Word word.Escape) (expr left)) _ (behinds (lexeme.Word word.Escape) (expr left) left (expr_proof.expr_sound left)) (λ e.
      built (tails.Like n p e) _ _ (law.tail_tokens-Like n p e ∙ simp append_assoc) (λ h. rw (law.tail_depth-Like n p e) (omega arith))))

  found_sound : {done : Tokens} {p : Parser Tail} → After done 0 left p tail_tokens tail_depth → After done 0 left (p >>= λ t. pure (Some t)) (optional tail_tokens) (optional_depth tail_depth)
  found_sound {p = p} a = following p _ a (λ t. built (Some t) _ _ refl (λ h. h))

  by_between_sound : (n : Bool) → After (not_tokens n) 0 left (eat (lexeme.Word word.Between) >>= by_between left inner n) (optional tail_tokens) (optional_depth tail_depth)
  by_between_sound true = eaten (lexeme.Word word.Between) _ (found_sound (between_sound true)) (eaten (lexeme.Word word.In) _ (found_sound (in_sound true)) (eaten (lexeme.Word word.Like) _ (found_sound (like_sound true)) (never _ _)))
  by_between_sound false = eaten (lexeme.Word word.Between) _ (found_sound (between_sound false)) (eaten (lexeme.Word word.In) _ (found_sound (in_sound false)) (eaten (lexeme.Word word.Like) _ (found_sound (like_sound false)) (built None _ _ refl (λ h. omega arith))))

  negatable_sound : Sound (negatable_tail left inner) (optional tail_tokens) (optional_depth tail_depth) left
  unfolding negatable_tail
  negatable_sound = sound (andthen (eat (lexeme.Word word.Not)) _ (eats (lexeme.Word word.Not) left) by_between_sound)

  tail_sound : Sound (tail left inner) (optional tail_tokens) (optional_depth tail_depth) left
  unfolding tail
  tail_sound = sound (maybe (one_if_any comparison_of) _ (one_maybe comparison_of comparison_token comparison_is left)
      (eaten (lexeme.Word word.Is) _ (found_sound (null_sound left)) (unsound negatable_sound))
      (λ op. found_sound (comparison_sound op)))

  abbrev body_text : CondOrExpr Body → Tokens
  body_text = of_either body_tokens expr_tokens

  abbrev body_height : CondOrExpr Body → ℕ
  body_height = of_either body_depth expr_depth

  predicate_sound : (e : Expr) → After (expr_tokens e) (expr_depth e) left (predicate_from left inner e) body_text body_height
  unfolding predicate_from
  predicate_sound e = maybe (tail left inner) _ tail_sound
      (built (came.Expr e) _ _ refl (λ h. omega arith))
      (λ t. built (came.Cond (bodies.Predicate e t)) _ _ (law.body_tokens-Predicate e t) (λ h. rw (law.body_depth-Predicate e t) (omega arith)))

  bracket_sound : Sound (bracket left inner) body_text body_height left
  unfolding bracket
  bracket_sound = sound (openly left _ (λ room. either_way inner _ s
      (λ c. expected (lexeme.Symbol symbol.Close) _ (built (came.Cond (bodies.Bracketed c)) _ _ (law.body_tokens-Bracketed c) (λ h. rw (law.body_depth-Bracketed c) (omega arith))))
      (λ e. expected (lexeme.Symbol symbol.Close) _ (following (expr_from left (primary.Bracketed e)) _ (eased (bracketed_from e) (λ h. omega arith)) (λ x. predicate_sound x)))))
    where
      bracketed_from : (e : Expr) → After ((lexeme.Symbol symbol.Open ∷ expr_tokens e) ++ lexeme.Symbol symbol.Close ∷ []) (expr_depth e + 1) left (expr_from left (primary.Bracketed e)) expr_tokens expr_depth
      bracketed_from e = rw (← exprs.primary_tokens-Bracketed e, ← exprs.primary_depth-Bracketed e) (expr_proof.expr_from_sound left (primary.Bracketed e))

  body_sound : Sound (body left inner) body_text body_height left
  unfolding body
  body_sound = sound (eaten (lexeme.Word word.Exists) _
      (andthen (subquery left inner) _ subquery_sound (λ q. built (came.Cond (bodies.Exists q)) _ _ (law.body_tokens-Exists q) (λ h. rw (law.body_depth-Exists q) (omega arith))))
      (either (sees (lexeme.Symbol symbol.Open)) _ _ (unsound bracket_sound)
      (following (expr left) _ (unsound (expr_proof.expr_sound left)) (λ e. predicate_sound e))))

  abbrev test_text : CondOrExpr Test → Tokens
  test_text = of_either test_tokens expr_tokens

  abbrev test_height : CondOrExpr Test → ℕ
  test_height = of_either test_depth expr_depth

  tested_sound : (n : Bool) → After (not_tokens n) 0 left (body left inner >>= tested left inner n) test_text test_height
  tested_sound true = either_way (body left inner) _ body_sound
      (λ b. built (came.Cond (record { negated = true; body = b })) _ _ (law.test_tokens-out _) (λ h. rw (law.test_depth-out (record { negated = true; body = b })) (omega arith)))
      (λ e. never _ _)
  tested_sound false = either_way (body left inner) _ body_sound
      (λ b. built (came.Cond (record { negated = false; body = b })) _ _ (law.test_tokens-out _) (λ h. rw (law.test_depth-out (record { negated = false; body = b })) (omega arith)))
      (λ e. built (came.Expr e) _ _ refl (λ h. omega arith))

  test_sound : Sound (test_at left inner) test_text test_height left
  unfolding test_at
  test_sound = sound (andthen (eat (lexeme.Word word.Not)) _ (eats (lexeme.Word word.Not) left) tested_sound)

  must_be_test_sound : Sound (must_be_test left inner) test_tokens test_depth left
  unfolding must_be_test
  must_be_test_sound = must_be_cond_sound left (test_at left inner) test_sound

  conj_sound : Sound (conj left inner) (of_either conj_tokens expr_tokens) (of_either conj_depth expr_depth) left
  unfolding conj
  conj_sound = sound (either_way (test_at left inner) _ test_sound
      (λ t. andthen (all (behind (lexeme.Word word.And) (must_be_test left inner))) _ (rows (behind (lexeme.Word word.And) (must_be_test left inner)) and_test test_depth left (behinds (lexeme.Word word.And) (must_be_test left inner) left must_be_test_sound)) (λ more.
      built (came.Cond (roll-Conj (record { first = t; rest = more }))) _ _ (law.conj_tokens-roll t more) (λ h. rw (law.conj_depth-roll t more) (omega arith))))
      (λ e. built (came.Expr e) _ _ refl (λ h. omega arith)))

  must_be_conj_sound : Sound (must_be_conj left inner) conj_tokens conj_depth left
  unfolding must_be_conj
  must_be_conj_sound = must_be_cond_sound left (conj left inner) conj_sound

  pub level_sound : Sound (level left inner) (of_either cond_tokens expr_tokens) (of_either cond_depth expr_depth) left
  unfolding level
  level_sound = sound (either_way (conj left inner) _ conj_sound
      (λ c. andthen (all (behind (lexeme.Word word.Or) (must_be_conj left inner))) _ (rows (behind (lexeme.Word word.Or) (must_be_conj left inner)) or_conj conj_depth left (behinds (lexeme.Word word.Or) (must_be_conj left inner) left must_be_conj_sound)) (λ more.
      built (came.Cond (roll-Cond (record { first = c; rest = more }))) _ _ (law.cond_tokens-roll c more) (λ h. rw (law.cond_depth-roll c more) (omega arith))))
      (λ e. built (came.Expr e) _ _ refl (λ h. omega arith)))

pub inside_sound : (left : ℕ) → Sound (inside left) (of_either cond_tokens expr_tokens) (λ m. of_either cond_depth expr_depth m + 1) left
unfolding inside
inside_sound zero = record { spells = λ ts x rest e. cc }
inside_sound (suc left) = raised left (level_sound left (inside left) (inside_sound left))

pub cond_sound : (left : ℕ) → Sound (cond left) cond_tokens cond_depth left
unfolding cond
cond_sound left = must_be_cond_sound left (level left (inside left)) (level_sound left (inside left) (inside_sound left))

-- a condition behind a bracket
pub inner_cond_sound : (left : ℕ) → Sound (must_be_cond (inside left)) cond_tokens cond_depth (left - 1)
inner_cond_sound left = must_be_cond_sound (left - 1) (inside left) (lowered left (inside_sound left))

pub query_specification_sound : (left : ℕ) → Sound (query_specification left) query_specification_tokens query_specification_depth left
query_specification_sound left = specifications left (expr left) (cond left) (expr_proof.expr_sound left) (cond_sound left)
