-- The tokens of a predicate after its first expression are read as it, over a parser of the tokens after a bracket.
use Rattle.std.proofs.Common.{◌≡◌, ℕ, suc, ◌<◌, max, Bool, true, false, [], ◌∷◌, ◌++◌, Option, Some, None, refl, arith, append_assoc}
use Rattle.sq_lex.specs.declared.lexeme.Lexeme.TheVariants as lexeme
use Rattle.sq_lex.specs.declared.symbol.Symbol.TheVariants as symbol
use Rattle.sq_lex.specs.declared.word.Word.TheVariants as word
use Rattle.sq_tree.specs.declared.list.CommaList.{CommaList}
use Rattle.sq_tree.specs.declared.expr.Expr.{Expr}
use Rattle.sq_tree.specs.declared.expr.Sign.{Sign}
use Rattle.sq_tree.specs.declared.expr.Sign.TheVariants.{Plus, Minus}
use Rattle.sq_tree.specs.declared.expr.SetFunction.{SetFunction}
use Rattle.sq_tree.specs.declared.expr.SetFunction.TheVariants as function
use Rattle.sq_tree.specs.declared.cond.Comparison.{Comparison}
use Rattle.sq_tree.specs.declared.cond.Comparison.TheVariants as comparison
use Rattle.sq_tree.specs.declared.cond.Quantifier.{Quantifier}
use Rattle.sq_tree.specs.declared.cond.Quantifier.TheVariants as quantifier
use Rattle.sq_tree.specs.declared.cond.Cond.{Cond}
use Rattle.sq_tree.specs.declared.cond.Tail.{Tail}
use Rattle.sq_tree.specs.declared.cond.Tail.TheVariants as tails
use Rattle.sq_tree.specs.declared.cond.QuerySpecification.{QuerySpecification}
use Rattle.sq_tree.specs.Tree.{optional, bracketed}
use Rattle.sq_tree.proofs.TreeDepth.{optional_depth}
use Rattle.sq_tree.specs.List.{comma_tokens}
use Rattle.sq_tree.proofs.ListDepth.{comma_depth}
use Rattle.sq_tree.specs.Expr.{expr_tokens, function_token, sign_token}
use Rattle.sq_tree.proofs.ExprDepth.{expr_depth}
use Rattle.sq_tree.specs.Cond.{comparison_token, compared_tokens, not_tokens, escape_tokens, cond_tokens, tail_tokens, query_specification_tokens}
use Rattle.sq_tree.proofs.CondDepth.{cond_depth, tail_depth, query_specification_depth}
use Rattle.sq_tree.proofs.CondLaws as law
use Rattle.sq_grammar.specs.declared.cond_or_expr.CondOrExpr.{CondOrExpr}
use Rattle.sq_grammar.specs.declared.cond_or_expr.CondOrExpr.TheVariants as came
use Rattle.sq_grammar.specs.Reading.{Tokens, Parser, sees, rest, behind, comma_separated}
use Rattle.sq_tree.specs.Brackets.{open_after}
use Rattle.sq_grammar.specs.Expr as expressions
use Rattle.sq_grammar.specs.Expr.{expr}
use Rattle.sq_grammar.specs.Cond.{comparison_of, compared_if_any, sees_query, only_cond, must_be_cond, null_tail, inner_query, subquery, by_compared, comparison_tail, between_tail, in_tail, like_tail, negatable_tail, tail}
use Rattle.sq_grammar.proofs.Taken.Takes.{Takes, done, fits, respelled, andthen, plainly, mapped, word, closing, expected, eaten, uneaten, either, perhaps, met, unmet, openly, seeing, unseeing, commas, deeper_commas}
use Rattle.sq_grammar.proofs.Taken.ExprTakes.{Starts, expr_starts, foreign, expr_takes, inside_takes, close_ends}
use Rattle.sq_grammar.proofs.Taken.SelectTakes.{specification_takes_a, comma_ends, before_last}
use Rattle.sq_grammar.proofs.Ends.Follows.{EndsExpr, EndsBare, EndsTest, EndsCond, EndsTable, ends_expr}

pub comparison_is : (c : Comparison) → comparison_of (comparison_token c) ≡ Some c
comparison_is comparison.Equal = refl
comparison_is comparison.NotEqual = refl
comparison_is comparison.Less = refl
comparison_is comparison.Greater = refl
comparison_is comparison.LessOrEqual = refl
comparison_is comparison.GreaterOrEqual = refl

comparison_still : (c : Comparison) (n : ℕ) → open_after n (comparison_token c) ≡ n
comparison_still comparison.Equal n = refl
comparison_still comparison.NotEqual n = refl
comparison_still comparison.Less n = refl
comparison_still comparison.Greater n = refl
comparison_still comparison.LessOrEqual n = refl
comparison_still comparison.GreaterOrEqual n = refl

-- [ ALL | ANY | SOME ]
pub compared_takes : (q : Option Quantifier) {a left : ℕ} {rest : Tokens} → sees (lexeme.Word word.All) rest ≡ false → sees (lexeme.Word word.Any) rest ≡ false → sees (lexeme.Word word.Some) rest ≡ false → Takes compared_if_any (optional compared_tokens q) a a 0 left q rest
compared_takes None no_all no_any no_some = uneaten (lexeme.Word word.All) _ no_all (uneaten (lexeme.Word word.Any) _ no_any (uneaten (lexeme.Word word.Some) _ no_some done))
compared_takes (Some quantifier.All) no_all no_any no_some = eaten (word word.All) _ done
compared_takes (Some quantifier.Any) no_all no_any no_some = uneaten (lexeme.Word word.All) _ refl (eaten (word word.Any) _ done)
compared_takes (Some quantifier.Some) no_all no_any no_some = uneaten (lexeme.Word word.All) _ refl (uneaten (lexeme.Word word.Any) _ refl (eaten (word word.Some) _ done))

lacks_select : (e : Expr) (ts : Tokens) → sees (lexeme.Word word.Select) (expr_tokens e ++ ts) ≡ false
lacks_select = expr_starts _ (foreign word.Select refl refl refl refl refl refl)

lacks_all : (e : Expr) (ts : Tokens) → sees (lexeme.Word word.All) (expr_tokens e ++ ts) ≡ false
lacks_all = expr_starts _ (foreign word.All refl refl refl refl refl refl)

lacks_any : (e : Expr) (ts : Tokens) → sees (lexeme.Word word.Any) (expr_tokens e ++ ts) ≡ false
lacks_any = expr_starts _ (foreign word.Any refl refl refl refl refl refl)

lacks_some : (e : Expr) (ts : Tokens) → sees (lexeme.Word word.Some) (expr_tokens e ++ ts) ≡ false
lacks_some = expr_starts _ (foreign word.Some refl refl refl refl refl refl)

-- no expression begins as a subquery does
no_query : Starts (λ ts. sees_query ts ≡ false)
no_query = record {
  primary = record { number = λ n ts. refl; text = λ t ts. refl; colon = λ ts. refl; user = λ ts. refl; name = λ n ts. refl; function = by; bracket = λ e ts. lacks_select e ts };
  sign = signs;
}
  where
    by : (f : SetFunction) (ts : Tokens) → sees_query (function_token f ∷ ts) ≡ false
    by function.Count ts = refl
    by function.Sum ts = refl
    by function.Avg ts = refl
    by function.Min ts = refl
    by function.Max ts = refl

    signs : (s : Sign) (ts : Tokens) → sees_query (sign_token s ∷ ts) ≡ false
    signs Plus ts = refl
    signs Minus ts = refl

lacks_query : (e : Expr) (ts : Tokens) → sees_query (expr_tokens e ++ ts) ≡ false
lacks_query = expr_starts _ no_query

and_ends : (ts : Tokens) → EndsExpr (lexeme.Word word.And ∷ ts)
and_ends ts = ends_expr _ refl

escape_ends : (ts : Tokens) → EndsExpr (lexeme.Word word.Escape ∷ ts)
escape_ends ts = ends_expr _ refl

pub close_ends_cond : (ts : Tokens) → EndsCond (lexeme.Symbol symbol.Close ∷ ts)
close_ends_cond ts = record { conj = record { test = record { expr = close_ends ts; escape = refl }; and = refl }; or = refl }

pub close_ends_table : (ts : Tokens) → EndsTable (lexeme.Symbol symbol.Close ∷ ts)
close_ends_table ts = record { cond = close_ends_cond ts; comma = refl; as_word = refl; name = refl; where_word = refl; group = refl; having = refl }

-- IS [ NOT ] NULL, whose IS is read already
null_takes : (n : Bool) {left : ℕ} {rest : Tokens} → Takes null_tail (not_tokens n ++ lexeme.Word word.Null ∷ []) 0 0 0 left (tails.Null n) rest
unfolding null_tail
null_takes n = either (word word.Not) n _ refl (expected (word word.Null) _ done)

module _ (left : ℕ) (inner : Parser (CondOrExpr Cond))
    (whole_takes : 0 < left → (c : Cond) (rest : Tokens) → EndsCond rest → Takes inner (cond_tokens c) 1 1 (suc (cond_depth c)) left (came.Cond c) rest) where
  -- a query specification behind a bracket
  inner_query_takes : 0 < left → (q : QuerySpecification) (rest : Tokens) → EndsTable rest → Takes (inner_query left inner) (query_specification_tokens q) 1 1 (suc (query_specification_depth q)) left q rest
  inner_query_takes room q rest ends = fits (λ h. omega arith) (λ h. omega arith) (specification_takes_a 1 left (expressions.inside left) (must_be_cond inner) (omega arith)
      (λ e ts f. fits (λ h. omega arith) (λ h. omega arith) (inside_takes left e ts room f))
      (λ c ts f. fits (λ h. omega arith) (λ h. omega arith) (mapped inner only_cond (came.Cond c) (whole_takes room c ts f) refl)) q rest ends)

  pub subquery_takes : (q : QuerySpecification) (rest : Tokens) → Takes (subquery left inner) (bracketed (query_specification_tokens q)) 0 0 (suc (query_specification_depth q)) left q rest
  unfolding subquery
  subquery_takes q rest = openly _ (omega arith) (λ room. fits (λ h. omega arith) (λ h. omega arith) (andthen (inner_query left inner) _ q (inner_query_takes room q _ (close_ends_table rest)) (expected closing _ done)))

  abbrev Reads : Parser Tail → Tokens → ℕ → Tail → Tokens → Type 0
  Reads p text d t after = Takes p text 0 0 d left t after

  compare_takes : (op : Comparison) (e : Expr) (rest : Tokens) → EndsExpr rest → Reads (comparison_tail left inner op) (expr_tokens e) (expr_depth e) (tails.Compare op e) rest
  unfolding comparison_tail
  compare_takes op e rest ends = plainly compared_if_any _ None {tx = []} (compared_takes None (lacks_all e rest) (lacks_any e rest) (lacks_some e rest))
      (unseeing sees_query _ _ (lacks_query e rest) (mapped (expr left) _ e (expr_takes left e rest ends) refl))

  compare_query_takes : (op : Comparison) (q : Option Quantifier) (s : QuerySpecification) (rest : Tokens) → Reads (comparison_tail left inner op) (optional compared_tokens q ++ bracketed (query_specification_tokens s)) (suc (query_specification_depth s)) (tails.CompareQuery op q s) rest
  unfolding comparison_tail
  compare_query_takes op q s rest = plainly compared_if_any _ q (compared_takes q refl refl refl) (by q)
    where
      by : (q : Option Quantifier) → Takes (by_compared left inner op q) (bracketed (query_specification_tokens s)) 0 0 (suc (query_specification_depth s)) left (tails.CompareQuery op q s) rest
      by None = seeing sees_query _ _ (rw (law.query_specification_tokens-out s) refl) (mapped (subquery left inner) _ s (subquery_takes s rest) refl)
      by (Some q) = mapped (subquery left inner) _ s (subquery_takes s rest) refl

  between_takes : (n : Bool) (low high : Expr) (rest : Tokens) → EndsExpr rest → Reads (between_tail left inner n) (expr_tokens low ++ (lexeme.Word word.And ∷ expr_tokens high)) (max (expr_depth low) (expr_depth high)) (tails.Between n low high) rest
  unfolding between_tail
  between_takes n low high rest ends = andthen (expr left) _ low (expr_takes left low _ (and_ends _)) (expected (word word.And) _ (mapped (expr left) _ high (expr_takes left high rest ends) refl))

  in_query_takes : (n : Bool) (q : QuerySpecification) (rest : Tokens) → Reads (in_tail left inner n) (bracketed (query_specification_tokens q)) (suc (query_specification_depth q)) (tails.InQuery n q) rest
  unfolding in_tail
  in_query_takes n q rest = openly _ (omega arith) (λ room. seeing (sees (lexeme.Word word.Select)) _ _ (rw (law.query_specification_tokens-out q) refl)
      (fits (λ h. omega arith) (λ h. omega arith) (andthen (inner_query left inner) _ q (inner_query_takes room q _ (close_ends_table rest)) (expected closing _ done))))

  in_list_takes : (n : Bool) (es : CommaList Expr) (rest : Tokens) → Reads (in_tail left inner n) (bracketed (comma_tokens expr_tokens es)) (suc (comma_depth expr_depth es)) (tails.InList n es) rest
  unfolding in_tail
  in_list_takes n es rest =
      let d = deeper_commas expr_depth es in
      openly _ (omega arith) (λ room. unseeing (sees (lexeme.Word word.Select)) _ _ (rw (append_assoc (comma_tokens expr_tokens es), append_assoc (expr_tokens es.first)) (lacks_select es.first _))
      (fits (λ h. omega arith) (λ h. omega arith) (andthen (comma_separated (expressions.inside left)) _ es
      (commas (expressions.inside left) expr_tokens (λ e. suc (expr_depth e)) 1 left EndsExpr (λ e ts f. inside_takes left e ts room f) comma_ends es _ (close_ends rest) refl) (expected closing _ done))))

  like_takes : (n : Bool) (p : Expr) (e : Option Expr) (rest : Tokens) → EndsTest rest → Reads (like_tail left inner n) (expr_tokens p ++ optional escape_tokens e) (max (expr_depth p) (optional_depth expr_depth e)) (tails.Like n p e) rest
  unfolding like_tail
  like_takes n p e rest ends = andthen (expr left) _ p (expr_takes left p _ (before_last EndsExpr (lexeme.Word word.Escape) expr_tokens e rest escape_ends ends.expr))
      (mapped (behind (lexeme.Word word.Escape) (expr left)) _ e (perhaps (word word.Escape) (expr left) expr_tokens expr_depth e (λ x. expr_takes left x rest ends.expr) ends.escape) refl)

  abbrev Finds : Tokens → ℕ → Tail → Tokens → Type 0
  Finds text d t after = Takes (tail left inner) text 0 0 d left (Some t) after

  -- a comparison operator comes first
  by_operator : (op : Comparison) (t : Tail) {text : Tokens} {d : ℕ} {rest : Tokens} → Reads (comparison_tail left inner op) text d t rest → Finds (comparison_token op ∷ text) d t rest
  unfolding tail
  by_operator op t s = met comparison_of (comparison_token op) op (comparison_is op) (comparison_still op) _ (mapped (comparison_tail left inner op) _ t s refl)

  -- [ NOT ] and BETWEEN, IN or LIKE come first
  by_between : (n : Bool) (t : Tail) {text : Tokens} {d : ℕ} {rest : Tokens} → Reads (between_tail left inner n) text d t rest → Finds (not_tokens n ++ (lexeme.Word word.Between ∷ text)) d t rest
  unfolding tail negatable_tail
  by_between true t s = unmet comparison_of _ refl (uneaten (lexeme.Word word.Is) _ refl (eaten (word word.Not) _ (eaten (word word.Between) _ (mapped (between_tail left inner true) _ t s refl))))
  by_between false t s = unmet comparison_of _ refl (uneaten (lexeme.Word word.Is) _ refl (uneaten (lexeme.Word word.Not) _ refl (eaten (word word.Between) _ (mapped (between_tail left inner false) _ t s refl))))

  by_in : (n : Bool) (t : Tail) {text : Tokens} {d : ℕ} {rest : Tokens} → Reads (in_tail left inner n) text d t rest → Finds (not_tokens n ++ (lexeme.Word word.In ∷ text)) d t rest
  unfolding tail negatable_tail
  by_in true t s = unmet comparison_of _ refl (uneaten (lexeme.Word word.Is) _ refl (eaten (word word.Not) _ (uneaten (lexeme.Word word.Between) _ refl (eaten (word word.In) _ (mapped (in_tail left inner true) _ t s refl)))))
  by_in false t s = unmet comparison_of _ refl (uneaten (lexeme.Word word.Is) _ refl (uneaten (lexeme.Word word.Not) _ refl (uneaten (lexeme.Word word.Between) _ refl (eaten (word word.In) _ (mapped (in_tail left inner false) _ t s refl)))))

  by_like : (n : Bool) (t : Tail) {text : Tokens} {d : ℕ} {rest : Tokens} → Reads (like_tail left inner n) text d t rest → Finds (not_tokens n ++ (lexeme.Word word.Like ∷ text)) d t rest
  unfolding tail negatable_tail
  by_like true t s = unmet comparison_of _ refl (uneaten (lexeme.Word word.Is) _ refl (eaten (word word.Not) _ (uneaten (lexeme.Word word.Between) _ refl (uneaten (lexeme.Word word.In) _ refl (eaten (word word.Like) _ (mapped (like_tail left inner true) _ t s refl))))))
  by_like false t s = unmet comparison_of _ refl (uneaten (lexeme.Word word.Is) _ refl (uneaten (lexeme.Word word.Not) _ refl (uneaten (lexeme.Word word.Between) _ refl (uneaten (lexeme.Word word.In) _ refl (eaten (word word.Like) _ (mapped (like_tail left inner false) _ t s refl))))))

  by_null : (n : Bool) (rest : Tokens) → Finds (lexeme.Word word.Is ∷ (not_tokens n ++ lexeme.Word word.Null ∷ [])) 0 (tails.Null n) rest
  unfolding tail
  by_null n rest = unmet comparison_of _ refl (eaten (word word.Is) _ (mapped null_tail _ (tails.Null n) (null_takes n) refl))

  pub tail_takes : (t : Tail) (rest : Tokens) → EndsTest rest → Finds (tail_tokens t) (tail_depth t) t rest
  tail_takes t rest ends = law.tail_cases (λ u. Finds (tail_tokens u) (tail_depth u) u rest)
      (λ op e. rw (law.tail_tokens-Compare op e, law.tail_depth-Compare op e) (by_operator op _ (compare_takes op e rest ends.expr)))
      (λ op q s. rw (law.tail_tokens-CompareQuery op q s, law.tail_depth-CompareQuery op q s) (fits (λ h. omega arith) (λ h. omega arith) (by_operator op _ (compare_query_takes op q s rest))))
      (λ n low high. rw (law.tail_tokens-Between n low high, law.tail_depth-Between n low high) (respelled (simp append_assoc) (by_between n _ (between_takes n low high rest ends.expr))))
      (λ n q. rw (law.tail_tokens-InQuery n q, law.tail_depth-InQuery n q) (fits (λ h. omega arith) (λ h. omega arith) (by_in n _ (in_query_takes n q rest))))
      (λ n es. rw (law.tail_tokens-InList n es, law.tail_depth-InList n es) (fits (λ h. omega arith) (λ h. omega arith) (by_in n _ (in_list_takes n es rest))))
      (λ n p e. rw (law.tail_tokens-Like n p e, law.tail_depth-Like n p e) (respelled (simp append_assoc) (by_like n _ (like_takes n p e rest ends))))
      (λ n. rw (law.tail_tokens-Null n, law.tail_depth-Null n) (by_null n rest)) t

  -- an expression alone has nothing behind it
  pub no_tail : (rest : Tokens) → EndsBare rest → Takes (tail left inner) [] 0 0 0 left None rest
  unfolding tail negatable_tail
  no_tail rest ends = unmet comparison_of _ ends.comparison (uneaten (lexeme.Word word.Is) _ ends.is (uneaten (lexeme.Word word.Not) _ ends.not (uneaten (lexeme.Word word.Between) _ ends.between (uneaten (lexeme.Word word.In) _ ends.in_word (uneaten (lexeme.Word word.Like) _ ends.like done)))))
