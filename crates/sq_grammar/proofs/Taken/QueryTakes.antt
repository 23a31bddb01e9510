-- The tokens of a query expression are read as it.
use Rattle.std.proofs.Common.{◌≡◌, ℕ, zero, suc, ◌<◌, false, List, [], ◌∷◌, ◌++◌, length, Option, Some, refl, ap, arith}
use Rattle.sq_lex.specs.declared.lexeme.Lexeme.TheVariants as lexeme
use Rattle.sq_lex.specs.declared.symbol.Symbol.TheVariants as symbol
use Rattle.sq_lex.specs.declared.word.Word.TheVariants as word
use Rattle.sq_tree.specs.declared.cond.SelectList.{SelectList}
use Rattle.sq_tree.specs.declared.cond.TableExpression.{TableExpression}
use Rattle.sq_tree.specs.declared.cond.QuerySpecification.{QuerySpecification}
use Rattle.sq_tree.specs.declared.query.QueryTerm.{QueryTerm}
use Rattle.sq_tree.specs.declared.query.UnionTerm.{UnionTerm}
use Rattle.sq_tree.specs.declared.query.Query.{Query, out-Query, roll-out-Query}
use Rattle.sq_tree.specs.Tree.{if_written}
use Rattle.sq_tree.specs.Cond.{select_list_tokens, table_expression_tokens, query_specification_tokens}
use Rattle.sq_tree.proofs.CondDepth.{select_list_depth, table_expression_depth, query_specification_depth}
use Rattle.sq_tree.specs.Query.{query_tokens, query_term_tokens, union_term_tokens}
use Rattle.sq_tree.proofs.QueryDepth.{query_depth, query_term_depth, union_term_depth}
use Rattle.sq_tree.proofs.CondLaws as specifications
use Rattle.sq_tree.proofs.QueryLaws as law
use Rattle.sq_grammar.specs.Reading.{Tokens, Parser, sees, comma, behind, all, pure}
use Rattle.sq_grammar.specs.Expr.{expr}
use Rattle.sq_grammar.specs.Cond.{cond, query_specification}
use Rattle.sq_grammar.specs.Select.{select_list, table_expression}
use Rattle.sq_grammar.specs.Query.{query_term, union_term, level, inside, query}
use Rattle.sq_grammar.specs.Query as spec
use Rattle.sq_grammar.proofs.Taken.Takes.{Takes, done, fits, lifted, andthen, mapped, word, closing, expected, either, behind_it, openly, seeing, unseeing, rows, follows, none_behind}
use Rattle.sq_grammar.proofs.Taken.ExprTakes.{expr_takes}
use Rattle.sq_grammar.proofs.Taken.CondTakes.{cond_takes}
use Rattle.sq_grammar.proofs.Taken.SelectTakes.{list_takes, table_takes_a, specification_takes_a}
use Rattle.sq_grammar.proofs.Taken.TailTakes.{close_ends_table}
use Rattle.sq_grammar.proofs.Ends.Follows.{EndsExpr, EndsTable, EndsQuery, ends_table}

-- ---- query specifications, in which `left` brackets may be open

pub specification_takes : (left : ℕ) (q : QuerySpecification) (rest : Tokens) → EndsTable rest → Takes (query_specification left) (query_specification_tokens q) 0 0 (query_specification_depth q) left q rest
specification_takes left q rest ends = fits (λ h. omega arith) (λ h. omega arith) (specification_takes_a 0 left (expr left) (cond left) (omega arith)
    (λ e ts f. fits (λ h. omega arith) (λ h. omega arith) (expr_takes left e ts f)) (λ c ts f. fits (λ h. omega arith) (λ h. omega arith) (cond_takes left c ts f)) q rest ends)

pub table_expression_takes : (left : ℕ) (t : TableExpression) (rest : Tokens) → EndsTable rest → Takes (table_expression (cond left)) (table_expression_tokens t) 0 0 (table_expression_depth t) left t rest
table_expression_takes left t rest ends = fits (λ h. omega arith) (λ h. omega arith) (table_takes_a 0 left (expr left) (cond left) (omega arith)
    (λ e ts f. fits (λ h. omega arith) (λ h. omega arith) (expr_takes left e ts f)) (λ c ts f. fits (λ h. omega arith) (λ h. omega arith) (cond_takes left c ts f)) t rest ends)

pub select_list_takes : (left : ℕ) (l : SelectList) (rest : Tokens) → EndsExpr rest → sees comma rest ≡ false → Takes (select_list (expr left)) (select_list_tokens l) 0 0 (select_list_depth l) left l rest
select_list_takes left l rest ends no_comma = fits (λ h. omega arith) (λ h. omega arith) (list_takes 0 left (expr left) (cond left) (omega arith)
    (λ e ts f. fits (λ h. omega arith) (λ h. omega arith) (expr_takes left e ts f)) (λ c ts f. fits (λ h. omega arith) (λ h. omega arith) (cond_takes left c ts f)) l rest ends no_comma)

-- ---- the rules, over what reads behind a bracket

module _ (left : ℕ) (inner : Parser Query)
    (inner_takes : 0 < left → (q : Query) (rest : Tokens) → EndsQuery rest → Takes inner (query_tokens q) 1 1 (suc (query_depth q)) left q rest) where
  pub term_takes : (t : QueryTerm) (rest : Tokens) → EndsTable rest → Takes (query_term left inner) (query_term_tokens t) 0 0 (query_term_depth t) left t rest
  unfolding query_term spec.bracketed_term spec.bracketed
  term_takes t rest ends = law.query_term_cases (λ u. Takes (query_term left inner) (query_term_tokens u) 0 0 (query_term_depth u) left u rest)
      (λ s. rw (law.query_term_tokens-Specification s, law.query_term_depth-Specification s) (unseeing (sees (lexeme.Symbol symbol.Open)) _ _ (rw (specifications.query_specification_tokens-out s) refl) (mapped (query_specification left) _ s (specification_takes left s rest ends) refl)))
      (λ q. rw (law.query_term_tokens-Bracketed q, law.query_term_depth-Bracketed q) (seeing (sees (lexeme.Symbol symbol.Open)) _ _ refl
      (mapped (spec.bracketed left inner) _ q (openly _ (omega arith) (λ room. fits (λ h. omega arith) (λ h. omega arith) (andthen inner _ q (inner_takes room q _ (record { table = close_ends_table rest; union = refl })) (expected closing _ done)))) refl))) t

  -- what a query term begins with
  lacks_all : (t : QueryTerm) (ts : Tokens) → sees (lexeme.Word word.All) (query_term_tokens t ++ ts) ≡ false
  lacks_all t ts = law.query_term_cases (λ u. sees (lexeme.Word word.All) (query_term_tokens u ++ ts) ≡ false)
      (λ s. rw (law.query_term_tokens-Specification s, specifications.query_specification_tokens-out s) refl)
      (λ q. rw (law.query_term_tokens-Bracketed q) refl) t

  union_takes : (u : UnionTerm) (rest : Tokens) → EndsTable rest → Takes (union_term left inner) (if_written u.all (lexeme.Word word.All ∷ []) ++ query_term_tokens u.term) 0 0 (query_term_depth u.term) left u rest
  unfolding union_term
  union_takes u rest ends = either (word word.All) u.all _ (lacks_all u.term rest) (mapped (query_term left inner) _ u.term (term_takes u.term rest ends) refl)

  pub union_each : (u : UnionTerm) (rest : Tokens) → EndsTable rest → Takes (behind (lexeme.Word word.Union) (union_term left inner)) (union_term_tokens u) 0 0 (union_term_depth u) left (Some u) rest
  union_each u rest ends = rw (law.union_term_tokens-out u, law.union_term_depth-out u) (behind_it (word word.Union) (union_term left inner) (union_takes u rest ends))

  union_starts : (u : UnionTerm) (rest : Tokens) → EndsTable (union_term_tokens u ++ rest)
  union_starts u rest = rw (law.union_term_tokens-out u) (ends_table _ refl refl)

  union_long : (u : UnionTerm) → 0 < length (union_term_tokens u)
  union_long u = rw (law.union_term_tokens-out u) (omega arith)

  pub level_takes : (q : Query) (rest : Tokens) → EndsQuery rest → Takes (level left inner) (query_tokens q) 0 0 (query_depth q) left q rest
  unfolding level
  level_takes q rest ends =
      let first : QueryTerm = (out-Query q).first in
      let others : List UnionTerm = (out-Query q).rest in
      let item : Parser (Option UnionTerm) = behind (lexeme.Word word.Union) (union_term left inner) in
      rw (law.query_tokens-out q, law.query_depth-out q) (andthen (query_term left inner) _ first (term_takes first _ (follows item union_term_tokens union_term_depth 0 left EndsTable union_each union_starts union_long others rest ends.table))
      (mapped (all item) _ others (rows item union_term_tokens union_term_depth 0 left EndsTable union_each union_starts union_long others rest ends.table (none_behind (lexeme.Word word.Union) (union_term left inner) rest ends.union)) (ap pure (roll-out-Query q))))

pub inside_takes : (left : ℕ) (q : Query) (rest : Tokens) → 0 < left → EndsQuery rest → Takes (inside left) (query_tokens q) 1 1 (suc (query_depth q)) left q rest
unfolding inside
inside_takes zero q rest room ends = absurd (omega arith)
inside_takes (suc left) q rest room ends = lifted (level_takes left (inside left) (λ h x r f. inside_takes left x r h f) q rest ends)

pub query_takes : (left : ℕ) (q : Query) (rest : Tokens) → EndsQuery rest → Takes (query left) (query_tokens q) 0 0 (query_depth q) left q rest
query_takes left = level_takes left (inside left) (λ h x r f. inside_takes left x r h f)
