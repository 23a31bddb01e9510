-- Query specifications: what is read of one is the beginning of one, as it is of their expressions and conditions.
use Rattle.std.proofs.Common.{false, refl, inl, inr}
use Rattle.sq_lex.specs.declared.lexeme.Lexeme.TheVariants as lexeme
use Rattle.sq_lex.specs.declared.symbol.Symbol.TheVariants as symbol
use Rattle.sq_lex.specs.declared.word.Word.TheVariants as word
use Rattle.sq_tree.specs.declared.expr.Expr.{Expr}
use Rattle.sq_tree.specs.declared.cond.Cond.{Cond}
use Rattle.sq_grammar.specs.Reading.{Tokens, Parser, name_of, comma}
use Rattle.sq_grammar.specs.Names.{dot}
use Rattle.sq_grammar.specs.Select.{by_name, by_as, correlation, table_reference, from_clause, by_columns, group_by, by_star, select_list, table_expression, specification}
use Rattle.sq_grammar.proofs.Ends.Follows.{EndsExpr, EndsTable, ends_expr}
use Rattle.sq_run.proofs.Tokens.Viable.{Any, Begins, Begun, Blank, Eats, Not, Starts, Viable, begun, behind_it, blank, blanks, commas, commas_start, done, done_starts, eats_expect, eats_first, eats_if_comes, eats_next, expected, from, if_begun, if_comes, if_one, mapped, mapped_starts, must, must_starts, no_more, not_begun, not_starts, rows, starts_with, then_part, then_some, unmet_starts}
use Rattle.sq_run.proofs.Tokens.NamesViable.{a_name, column_reference_begun, column_references, name_starts, names, one_digit, tables, tables_begun}
use Rattle.sq_run.proofs.Tokens.ExprViable.{AfterExpr, quantifier_blank, quantifiers}

-- what may follow a table expression
abbrev pub AfterTable : (Tokens → Type 0) → Type 0
AfterTable F = (other : Tokens) → F other → EndsTable other

module _ {F : Tokens → Type 0} (after : AfterTable F) where
  no_dot : Not F dot
  no_dot other i = (after other i).cond.conj.test.expr.term.factor.dot

  no_comma : Not F comma
  no_comma other i = (after other i).comma

  correlations : Viable correlation correlation F
  unfolding correlation
  correlations = if_comes (lexeme.Word word.As) by_as by_as (inl (λ other i. (after other i).as_word)) (mapped _ names) (mapped_starts _ name_starts) (if_one name_of by_name by_name (inl (λ other i. (after other i).name)) (λ n. done) (λ n. done_starts) done)

  correlation_blank : Blank correlation F
  unfolding correlation
  correlation_blank = blanks (not_starts (lexeme.Word word.As) by_as (unmet_starts name_of by_name done_starts (λ other i. (after other i).name)) (λ other i. (after other i).as_word)) refl

  table_references : Viable table_reference table_reference F
  unfolding table_reference
  table_references = then_part {G = F} _ _ (tables no_dot) (λ t. mapped _ correlations) (λ t. mapped_starts _ (blank correlation_blank)) (λ t other i. i) (λ other i. i)

  table_reference_begun : Begun table_reference F a_name
  unfolding table_reference
  table_reference_begun = begun a_name _ (starts_with {G = F} _ (from (tables_begun no_dot)) (mapped_starts _ (blank correlation_blank)) (λ other i. i)) refl

  from_clauses : Viable from_clause from_clause F
  unfolding from_clause
  from_clauses = must (lexeme.Word word.From) (λ ts. refl) (commas table_references (from table_reference_begun) no_comma) (commas_start table_references (from table_reference_begun) no_comma)

  from_clause_begun : Begun from_clause F (lexeme.Word word.From)
  unfolding from_clause
  from_clause_begun = begun (lexeme.Word word.From) _ (must_starts (lexeme.Word word.From) (λ ts. refl) (commas_start table_references (from table_reference_begun) no_comma)) refl

  from_clauses_eat : Eats from_clause
  unfolding from_clause
  from_clauses_eat = eats_first _ _ {F = F} (eats_expect (lexeme.Word word.From)) (λ u. commas table_references (from table_reference_begun) no_comma)

  group_columns : Viable by_columns by_columns F
  unfolding by_columns
  group_columns = must (lexeme.Word word.By) (λ ts. refl) (commas (column_references no_dot) (from (column_reference_begun no_dot)) no_comma) (commas_start (column_references no_dot) (from (column_reference_begun no_dot)) no_comma)

  group_columns_start : Starts by_columns F
  unfolding by_columns
  group_columns_start = must_starts (lexeme.Word word.By) (λ ts. refl) (commas_start (column_references no_dot) (from (column_reference_begun no_dot)) no_comma)

  groups : Viable group_by group_by F
  unfolding group_by
  groups = behind_it (lexeme.Word word.Group) group_columns group_columns_start (λ other i. (after other i).group)

  group_blank : Blank group_by F
  unfolding group_by
  group_blank = blanks (not_starts (lexeme.Word word.Group) _ done_starts (λ other i. (after other i).group)) refl

  module _ {conds conds' : Parser Cond} (h : Viable conds conds' F) (k : Starts conds' F) where
    no_where : Not F (lexeme.Word word.Where)
    no_where other i = (after other i).where_word

    no_having : Not F (lexeme.Word word.Having)
    no_having other i = (after other i).having

    pub table_expressions : Viable (table_expression conds) (table_expression conds') F
    unfolding table_expression
    table_expressions =
        then_part {G = F} _ _ from_clauses
        (λ f. then_part {G = F} _ _ (behind_it (lexeme.Word word.Where) h k no_where)
        (λ w. then_part {G = F} _ _ groups
        (λ g. mapped _ (behind_it (lexeme.Word word.Having) h k no_having)) (λ g. mapped_starts _ (not_starts (lexeme.Word word.Having) _ done_starts no_having)) (λ g other i. i) (λ other i. i))
        (λ w. starts_with {G = F} _ (blank group_blank) (mapped_starts _ (not_starts (lexeme.Word word.Having) _ done_starts no_having)) (λ other i. i)) (λ w other i. i) (λ other i. i))
        (λ f. starts_with {G = F} _ (not_starts (lexeme.Word word.Where) _ done_starts no_where) (starts_with {G = F} _ (blank group_blank) (mapped_starts _ (not_starts (lexeme.Word word.Having) _ done_starts no_having)) (λ other i. i)) (λ other i. i))
        (λ f other i. i) (λ other i. i)

    pub table_expression_begun : Begun (table_expression conds') F (lexeme.Word word.From)
    unfolding table_expression
    table_expression_begun = begun (lexeme.Word word.From) _ (starts_with {G = F} _ (from from_clause_begun)
        (starts_with {G = F} _ (not_starts (lexeme.Word word.Where) _ done_starts no_where) (starts_with {G = F} _ (blank group_blank) (mapped_starts _ (not_starts (lexeme.Word word.Having) _ done_starts no_having)) (λ other i. i)) (λ other i. i)) (λ other i. i)) refl

    pub table_expressions_eat : Eats (table_expression conds)
    unfolding table_expression
    table_expressions_eat = eats_first _ _ {F = F} from_clauses_eat
        (λ f. then_part {G = F} _ _ (behind_it (lexeme.Word word.Where) h k no_where)
        (λ w. then_part {G = F} _ _ groups
        (λ g. mapped _ (behind_it (lexeme.Word word.Having) h k no_having)) (λ g. mapped_starts _ (not_starts (lexeme.Word word.Having) _ done_starts no_having)) (λ g other i. i) (λ other i. i))
        (λ w. starts_with {G = F} _ (blank group_blank) (mapped_starts _ (not_starts (lexeme.Word word.Having) _ done_starts no_having)) (λ other i. i)) (λ w other i. i) (λ other i. i))

-- ---- select lists

module _ {exprs exprs' : Parser Expr} {F : Tokens → Type 0} (h : Viable exprs exprs' F) (k : Begun exprs' F one_digit) (eats : Eats exprs) (no_comma : Not F comma) where
  list_eats : Eats (by_star exprs false)
  list_eats = eats_first _ _ {F = F} (eats_first _ _ {F = F} eats (λ x. mapped _ (rows (behind_it comma h (from k) no_comma) (no_more h (from k) no_comma)))) (λ xs. done)

  pub select_lists : Viable (select_list exprs) (select_list exprs') F
  unfolding select_list
  select_lists = if_comes (lexeme.Symbol symbol.Star) (by_star exprs) (by_star exprs') (inr list_eats) done done_starts (mapped _ (commas h (from k) no_comma))

  pub select_list_begun : Begun (select_list exprs') F one_digit
  unfolding select_list
  select_list_begun = begun one_digit _ (not_starts (lexeme.Symbol symbol.Star) (by_star exprs') (mapped_starts _ (commas_start h (from k) no_comma)) (λ other i. refl)) refl

  pub select_lists_eat : Eats (select_list exprs)
  unfolding select_list
  select_lists_eat = eats_if_comes (lexeme.Symbol symbol.Star) (by_star exprs) (by_star exprs') {F = F} list_eats done

pub from_after : AfterExpr (Begins (lexeme.Word word.From))
from_after = if_begun EndsExpr (lexeme.Word word.From) (λ ts. ends_expr _ refl)

from_no_comma : Not (Begins (lexeme.Word word.From)) comma
from_no_comma = not_begun (lexeme.Word word.From) comma (λ ts. refl)

module _ {exprs exprs' : Parser Expr} (he : Viable exprs exprs' (Begins (lexeme.Word word.From))) (ke : Begun exprs' (Begins (lexeme.Word word.From)) one_digit) (eats : Eats exprs)
    {conds conds' : Parser Cond} {F : Tokens → Type 0} (after : AfterTable F) (hc : Viable conds conds' F) (kc : Starts conds' F) where
  pub specifications : Viable (specification exprs conds) (specification exprs' conds') F
  unfolding specification
  specifications = must (lexeme.Word word.Select) (λ ts. refl)
      (then_some {G = Begins one_digit} _ _ (quantifiers (not_begun one_digit (lexeme.Word word.All) (λ ts. refl)) (not_begun one_digit (lexeme.Word word.Distinct) (λ ts. refl)))
      (λ q. then_some {G = Begins (lexeme.Word word.From)} _ _ (select_lists he ke eats from_no_comma) (λ l. mapped _ (table_expressions after hc kc)) (λ l. mapped_starts _ (from (table_expression_begun after hc kc))) (λ l other i. (_, refl))
      (λ l. eats_first _ _ {F = F} (table_expressions_eat after hc kc) (λ t. done)))
      (λ q. starts_with {G = Begins (lexeme.Word word.From)} _ (from (select_list_begun he ke eats from_no_comma)) (mapped_starts _ (from (table_expression_begun after hc kc))) (λ other i. (_, refl)))
      (λ q other i. (_, refl))
      (λ q. eats_next _ (select_lists he ke eats from_no_comma) (λ l. eats_first _ _ {F = F} (table_expressions_eat after hc kc) (λ t. done))))
      (starts_with {G = Begins one_digit} _ (blank (quantifier_blank (not_begun one_digit (lexeme.Word word.All) (λ ts. refl)) (not_begun one_digit (lexeme.Word word.Distinct) (λ ts. refl))))
      (starts_with {G = Begins (lexeme.Word word.From)} _ (from (select_list_begun he ke eats from_no_comma)) (mapped_starts _ (from (table_expression_begun after hc kc))) (λ other i. (_, refl))) (λ other i. (_, refl)))

  pub specification_begun : Begun (specification exprs' conds') F (lexeme.Word word.Select)
  unfolding specification
  specification_begun = begun (lexeme.Word word.Select) _ (must_starts (lexeme.Word word.Select) (λ ts. refl)
      (starts_with {G = Begins one_digit} _ (blank (quantifier_blank (not_begun one_digit (lexeme.Word word.All) (λ ts. refl)) (not_begun one_digit (lexeme.Word word.Distinct) (λ ts. refl))))
      (starts_with {G = Begins (lexeme.Word word.From)} _ (from (select_list_begun he ke eats from_no_comma)) (mapped_starts _ (from (table_expression_begun after hc kc))) (λ other i. (_, refl))) (λ other i. (_, refl)))) refl

  pub specifications_eat : Eats (specification exprs conds)
  unfolding specification
  specifications_eat = eats_next _ (expected {F = Any} (lexeme.Word word.Select) (λ ts. refl)) (λ u. eats_next _ (quantifiers {F = Begins one_digit} (not_begun one_digit (lexeme.Word word.All) (λ ts. refl)) (not_begun one_digit (lexeme.Word word.Distinct) (λ ts. refl)))
      (λ q. eats_next _ (select_lists he ke eats from_no_comma) (λ l. eats_first _ _ {F = F} (table_expressions_eat after hc kc) (λ t. done))))
