-- The tokens of a query specification are read as it, over what reads its expressions and its conditions.
use Rattle.std.proofs.Common.{◌≡◌, ℕ, ◌+◌, ◌≤◌, max, Bool, true, false, List, [], ◌∷◌, ◌++◌, map, Option, Some, None, refl, subst, arith, append_assoc}
use Rattle.sq_lex.specs.declared.lexeme.Lexeme.{Lexeme}
use Rattle.sq_lex.specs.declared.lexeme.Lexeme.TheVariants as lexeme
use Rattle.sq_lex.specs.declared.symbol.Symbol.TheVariants as symbol
use Rattle.sq_lex.specs.declared.word.Word.TheVariants as word
use Rattle.sq_lex.specs.declared.name.Name.{Name}
use Rattle.sq_tree.specs.declared.list.CommaList.{CommaList}
use Rattle.sq_tree.specs.declared.names.ColumnReference.{ColumnReference}
use Rattle.sq_tree.specs.declared.expr.Expr.{Expr}
use Rattle.sq_tree.specs.declared.expr.SetQuantifier.{SetQuantifier}
use Rattle.sq_tree.specs.declared.cond.Correlation.{Correlation}
use Rattle.sq_tree.specs.declared.cond.TableReference.{TableReference}
use Rattle.sq_tree.specs.declared.cond.SelectList.{SelectList}
use Rattle.sq_tree.specs.declared.cond.SelectList.TheVariants as list
use Rattle.sq_tree.specs.declared.cond.Cond.{Cond}
use Rattle.sq_tree.specs.declared.cond.TableExpression.{TableExpression, out-TableExpression, roll-TableExpression, roll-out-TableExpression}
use Rattle.sq_tree.specs.declared.cond.QuerySpecification.{QuerySpecification, out-QuerySpecification, roll-QuerySpecification, roll-out-QuerySpecification}
use Rattle.sq_tree.specs.Tree.{optional, if_written}
use Rattle.sq_tree.proofs.TreeDepth.{optional_depth, greatest}
use Rattle.sq_tree.specs.List.{comma_tokens}
use Rattle.sq_tree.specs.Names.{column_reference_tokens}
use Rattle.sq_tree.specs.Expr.{expr_tokens, quantifier_tokens}
use Rattle.sq_tree.proofs.ExprDepth.{expr_depth}
use Rattle.sq_tree.specs.Cond.{correlation_tokens, table_reference_tokens, select_list_tokens, group_by_tokens, cond_tokens, table_expression_tokens, query_specification_tokens}
use Rattle.sq_tree.proofs.CondDepth.{select_list_depth, cond_depth, table_expression_depth, query_specification_depth}
use Rattle.sq_tree.proofs.CondLaws as law
use Rattle.sq_tree.proofs.CondLaws.{where_cond, having_cond}
use Rattle.sq_grammar.specs.Reading.{Tokens, Parser, sees, first_of, name_of, comma, comma_separated}
use Rattle.sq_grammar.specs.Names.{dot, table_name, column_reference}
use Rattle.sq_grammar.specs.Expr.{quantifier_if_any}
use Rattle.sq_grammar.specs.Select.{correlation, table_reference, from_clause, by_columns, group_by, select_list, where_clause, having_clause, table_expression, specification}
use Rattle.sq_grammar.proofs.Taken.Takes.{Takes, done, fits, respelled, andthen, plainly, mapped, word, mark, expected, eaten, uneaten, behind_it, perhaps, met, unmet, named, commas, flat_commas}
use Rattle.sq_grammar.proofs.Taken.NamesTakes.{table_takes, column_takes}
use Rattle.sq_grammar.proofs.Taken.ExprTakes.{quantifier_takes, not_all, not_distinct, not_star}
use Rattle.sq_grammar.proofs.Ends.Follows.{EndsExpr, EndsCond, EndsTable, ends_expr, ends_cond}

-- [ [ AS ] name ]
pub correlation_takes : (c : Option Correlation) {a left : ℕ} {rest : Tokens} → sees (lexeme.Word word.As) rest ≡ false → first_of name_of rest ≡ None → Takes correlation (optional correlation_tokens c) a a 0 left c rest
unfolding correlation
correlation_takes None no_word no_name = uneaten (lexeme.Word word.As) _ no_word (unmet name_of _ no_name done)
correlation_takes (Some c) {a = a} {left = left} {rest = rest} no_word no_name = by c.as_word c.name
  where
    by : (written : Bool) (n : Name) → Takes correlation (if_written written (lexeme.Word word.As ∷ []) ++ lexeme.Name n ∷ []) a a 0 left (Some (record { as_word = written; name = n })) rest
    by true n = eaten (word word.As) _ (named n _ done)
    by false n = uneaten (lexeme.Word word.As) _ refl (met name_of (lexeme.Name n) n refl (λ k. refl) _ done)

-- what may not follow a table reference, and a FROM clause
pub record EndsReference (rest : Tokens) : Type 0 where
  pub dot : sees (lexeme.Symbol symbol.Dot) rest ≡ false
  pub as_word : sees (lexeme.Word word.As) rest ≡ false
  pub name : first_of name_of rest ≡ None

record EndsFrom (rest : Tokens) : Type 0 where
  reference : EndsReference rest
  comma : sees (lexeme.Symbol symbol.Comma) rest ≡ false

pub reference_takes : (t : TableReference) {a left : ℕ} (rest : Tokens) → EndsReference rest → Takes table_reference (table_reference_tokens t) a a 0 left t rest
unfolding table_reference
reference_takes t rest ends = plainly table_name _ t.table (table_takes t.table (no_dot t.correlation)) (mapped correlation _ t.correlation (correlation_takes t.correlation ends.as_word ends.name) refl)
  where
    written : (w : Bool) (n : Name) → sees dot ((if_written w (lexeme.Word word.As ∷ []) ++ lexeme.Name n ∷ []) ++ rest) ≡ false
    written true n = refl
    written false n = refl

    no_dot : (c : Option Correlation) → sees dot (optional correlation_tokens c ++ rest) ≡ false
    no_dot None = ends.dot
    no_dot (Some c) = written c.as_word c.name

from_takes : (f : CommaList TableReference) {a left : ℕ} (rest : Tokens) → EndsFrom rest → Takes from_clause (lexeme.Word word.From ∷ comma_tokens table_reference_tokens f) a a 0 left f rest
unfolding from_clause
from_takes f {a = a} {left = left} rest ends = expected (word word.From) _ (flat_commas table_reference table_reference_tokens a left EndsReference (λ t ts e. reference_takes t ts e) (λ ts. record { dot = refl; as_word = refl; name = refl }) f rest ends.reference ends.comma)

-- [ GROUP BY column-ref { "," column-ref } ]
group_takes : (g : Option (CommaList ColumnReference)) {a left : ℕ} (rest : Tokens) → sees dot rest ≡ false → sees comma rest ≡ false → sees (lexeme.Word word.Group) rest ≡ false → Takes group_by (optional group_by_tokens g) a a 0 left g rest
unfolding group_by by_columns
group_takes None rest no_dot no_comma no_word = uneaten (lexeme.Word word.Group) _ no_word done
group_takes (Some g) {a = a} {left = left} rest no_dot no_comma no_word = behind_it (word word.Group) by_columns (expected (word word.By) _
    (flat_commas column_reference column_reference_tokens a left (λ ts. sees dot ts ≡ false) (λ c ts e. column_takes c e) (λ ts. refl) g rest no_dot no_comma))

-- this word or symbol does not come next
abbrev Lacks : Lexeme → Tokens → Type 0
Lacks t ts = sees t ts ≡ false

-- What holds before an optional part: it holds of its first word, and of what follows.
before : (P : Tokens → Type 0) {X : Type 0} (t : Lexeme) (text : X → Tokens) (o : Option X) (more rest : Tokens) → ((ts : Tokens) → P (t ∷ ts)) → P (more ++ rest) → P ((optional (λ x. t ∷ text x) o ++ more) ++ rest)
before P t text None more rest some none = none
before P t text (Some x) more rest some none = some _

pub before_last : (P : Tokens → Type 0) {X : Type 0} (t : Lexeme) (text : X → Tokens) (o : Option X) (rest : Tokens) → ((ts : Tokens) → P (t ∷ ts)) → P rest → P (optional (λ x. t ∷ text x) o ++ rest)
before_last P t text None rest some none = none
before_last P t text (Some x) rest some none = some _

word_ends_from : (ts : Tokens) → EndsFrom (lexeme.Word word.Where ∷ ts)
word_ends_from ts = record { reference = record { dot = refl; as_word = refl; name = refl }; comma = refl }

group_ends_from : (ts : Tokens) → EndsFrom (lexeme.Word word.Group ∷ ts)
group_ends_from ts = record { reference = record { dot = refl; as_word = refl; name = refl }; comma = refl }

having_ends_from : (ts : Tokens) → EndsFrom (lexeme.Word word.Having ∷ ts)
having_ends_from ts = record { reference = record { dot = refl; as_word = refl; name = refl }; comma = refl }

group_ends : (ts : Tokens) → EndsCond (lexeme.Word word.Group ∷ ts)
group_ends ts = ends_cond _ refl

having_ends : (ts : Tokens) → EndsCond (lexeme.Word word.Having ∷ ts)
having_ends ts = ends_cond _ refl

from_ends : (ts : Tokens) → EndsExpr (lexeme.Word word.From ∷ ts)
from_ends ts = ends_expr _ refl

pub comma_ends : (ts : Tokens) → EndsExpr (comma ∷ ts)
comma_ends ts = ends_expr _ refl

-- depths behind `a` more brackets
raised_optional : {X : Type 0} (a : ℕ) (depth : X → ℕ) (o : Option X) → max a (optional_depth (λ x. a + depth x) o) ≡ a + optional_depth depth o
raised_optional a depth None = omega arith
raised_optional a depth (Some x) = omega arith

raised_all : {X : Type 0} (a : ℕ) (depth : X → ℕ) (n : ℕ) (xs : List X) → max (a + n) (greatest (map (λ x. a + depth x) xs)) ≡ a + max n (greatest (map depth xs))
raised_all a depth n [] = omega arith
raised_all a depth n (x ∷ xs) = let h = raised_all a depth n xs in omega arith

module _ (a left : ℕ) (exprs : Parser Expr) (conds : Parser Cond) (room : a ≤ left)
    (expr_takes : (e : Expr) (rest : Tokens) → EndsExpr rest → Takes exprs (expr_tokens e) a a (a + expr_depth e) left e rest)
    (cond_takes : (c : Cond) (rest : Tokens) → EndsCond rest → Takes conds (cond_tokens c) a a (a + cond_depth c) left c rest) where
  pub list_takes : (l : SelectList) (rest : Tokens) → EndsExpr rest → sees comma rest ≡ false → Takes (select_list exprs) (select_list_tokens l) a a (a + select_list_depth l) left l rest
  unfolding select_list
  list_takes list.Star rest ends no_comma = eaten (mark symbol.Star (λ n. refl)) _ (fits (λ h. omega arith) (λ h. omega arith) done)
  list_takes (list.Items items) rest ends no_comma =
      let d = raised_all a expr_depth (expr_depth items.first) items.rest in
      uneaten (lexeme.Symbol symbol.Star) _ (rw (append_assoc (expr_tokens items.first)) (not_star items.first _))
      (fits (λ h. omega arith) (λ h. omega arith) (mapped (comma_separated exprs) _ items (commas exprs expr_tokens (λ e. a + expr_depth e) a left EndsExpr expr_takes comma_ends items rest ends no_comma) refl))

  table_by : (f : CommaList TableReference) (w : Option Cond) (g : Option (CommaList ColumnReference)) (h : Option Cond) (rest : Tokens) → EndsTable rest →
      Takes (table_expression conds) (lexeme.Word word.From ∷ comma_tokens table_reference_tokens f ++ (optional where_cond w ++ (optional group_by_tokens g ++ optional having_cond h))) a a (a + max (optional_depth cond_depth w) (optional_depth cond_depth h)) left (roll-TableExpression (record { from = f; where_clause = w; group_by = g; having = h })) rest
  unfolding table_expression
  table_by f w g h rest ends =
      let ends_cond = ends.cond in
      let no_dot = ends_cond.conj.test.expr.term.factor.dot in
      let end_from : EndsFrom rest = record { reference = record { dot = no_dot; as_word = ends.as_word; name = ends.name }; comma = ends.comma } in
      let behind_having : (P : Tokens → Type 0) → ((ts : Tokens) → P (lexeme.Word word.Having ∷ ts)) → P rest → P (optional having_cond h ++ rest) = λ P. before_last P (lexeme.Word word.Having) cond_tokens h rest in
      let dw = raised_optional a cond_depth w in
      let dh = raised_optional a cond_depth h in
      fits (λ i. omega arith) (λ i. omega arith)
      (andthen from_clause _ f {tx = lexeme.Word word.From ∷ comma_tokens table_reference_tokens f} (from_takes f _ (before EndsFrom (lexeme.Word word.Where) cond_tokens w _ rest word_ends_from (before EndsFrom (lexeme.Word word.Group) _ g _ rest group_ends_from (behind_having EndsFrom having_ends_from end_from))))
      (andthen (where_clause conds) _ w (perhaps (word word.Where) conds cond_tokens (λ c. a + cond_depth c) w (λ c. cond_takes c _ (before EndsCond (lexeme.Word word.Group) _ g _ rest group_ends (behind_having EndsCond having_ends ends_cond))) (before (Lacks (lexeme.Word word.Where)) (lexeme.Word word.Group) _ g _ rest (λ ts. refl) (behind_having (Lacks (lexeme.Word word.Where)) (λ ts. refl) ends.where_word)))
      (andthen group_by _ g (group_takes g _ (behind_having (Lacks dot) (λ ts. refl) no_dot) (behind_having (Lacks comma) (λ ts. refl) ends.comma) (behind_having (Lacks (lexeme.Word word.Group)) (λ ts. refl) ends.group))
      (mapped (having_clause conds) _ h (perhaps (word word.Having) conds cond_tokens (λ c. a + cond_depth c) h (λ c. cond_takes c rest ends_cond) ends.having) refl))))

  pub table_takes_a : (t : TableExpression) (rest : Tokens) → EndsTable rest → Takes (table_expression conds) (table_expression_tokens t) a a (a + table_expression_depth t) left t rest
  table_takes_a t rest ends =
      let o = out-TableExpression t in
      rw (law.table_expression_tokens-out t, law.table_expression_depth-out t) (respelled (simp append_assoc) (subst (λ x. Takes (table_expression conds) (lexeme.Word word.From ∷ comma_tokens table_reference_tokens o.from ++ (optional where_cond o.where_clause ++ (optional group_by_tokens o.group_by ++ optional having_cond o.having))) a a (a + max (optional_depth cond_depth o.where_clause) (optional_depth cond_depth o.having)) left x rest) (roll-out-TableExpression t) (table_by o.from o.where_clause o.group_by o.having rest ends)))

  specification_by : (q : Option SetQuantifier) (l : SelectList) (t : TableExpression) (rest : Tokens) → EndsTable rest →
      Takes (specification exprs conds) (lexeme.Word word.Select ∷ optional quantifier_tokens q ++ (select_list_tokens l ++ table_expression_tokens t)) a a (a + max (select_list_depth l) (table_expression_depth t)) left (roll-QuerySpecification (record { quantifier = q; list = l; table = t })) rest
  unfolding specification
  specification_by q l t rest ends =
      expected (word word.Select) _
      (plainly quantifier_if_any _ q (quantifier_takes q (list_lacks_all l _) (list_lacks_distinct l _))
      (fits (λ h. omega arith) (λ h. omega arith)
      (andthen (select_list exprs) _ l (list_takes l (table_expression_tokens t ++ rest) (rw (law.table_expression_tokens-out t) (from_ends _)) (rw (law.table_expression_tokens-out t) refl))
      (mapped (table_expression conds) _ t (table_takes_a t rest ends) refl))))
    where
      list_lacks_all : (l : SelectList) (ts : Tokens) → sees (lexeme.Word word.All) ((select_list_tokens l ++ ts) ++ rest) ≡ false
      list_lacks_all list.Star ts = refl
      list_lacks_all (list.Items items) ts = rw (append_assoc (comma_tokens expr_tokens items) ts rest, append_assoc (expr_tokens items.first)) (not_all items.first _)

      list_lacks_distinct : (l : SelectList) (ts : Tokens) → sees (lexeme.Word word.Distinct) ((select_list_tokens l ++ ts) ++ rest) ≡ false
      list_lacks_distinct list.Star ts = refl
      list_lacks_distinct (list.Items items) ts = rw (append_assoc (comma_tokens expr_tokens items) ts rest, append_assoc (expr_tokens items.first)) (not_distinct items.first _)

  pub specification_takes_a : (q : QuerySpecification) (rest : Tokens) → EndsTable rest → Takes (specification exprs conds) (query_specification_tokens q) a a (a + query_specification_depth q) left q rest
  specification_takes_a q rest ends =
      let o = out-QuerySpecification q in
      rw (law.query_specification_tokens-out q, law.query_specification_depth-out q) (respelled (simp append_assoc) (subst (λ x. Takes (specification exprs conds) (lexeme.Word word.Select ∷ optional quantifier_tokens o.quantifier ++ (select_list_tokens o.list ++ table_expression_tokens o.table)) a a (a + max (select_list_depth o.list) (table_expression_depth o.table)) left x rest) (roll-out-QuerySpecification q) (specification_by o.quantifier o.list o.table rest ends)))
