-- The statements of a procedure, each before its semicolon: what is read of one is the beginning of one.
use Rattle.std.proofs.Common.{◌≡◌, ℕ, suc, true, false, [], ◌∷◌, ◌++◌, Option, Some, None, refl, inl, inr}
use Rattle.sq_lex.specs.declared.lexeme.Lexeme.{Lexeme}
use Rattle.sq_lex.specs.declared.lexeme.Lexeme.TheVariants as lexeme
use Rattle.sq_lex.specs.declared.symbol.Symbol.TheVariants as symbol
use Rattle.sq_lex.specs.declared.word.Word.TheVariants as word
use Rattle.sq_tree.specs.declared.expr.Expr.{Expr}
use Rattle.sq_tree.specs.declared.statement.Orientation.{Orientation}
use Rattle.sq_grammar.specs.declared.verb.Verb.{Verb}
use Rattle.sq_grammar.specs.declared.verb.Verb.TheVariants as verb
use Rattle.sq_grammar.specs.Reading.{Tokens, Parser, ◌>>=◌, first_of, name_of, eat, comma_separated, comma, sees}
use Rattle.sq_grammar.specs.Expr as expressions
use Rattle.sq_grammar.specs.Cond.{cond as condition}
use Rattle.sq_grammar.specs.Names.{columns_if_any, parameter, dot}
use Rattle.sq_grammar.specs.Select.{select_list, table_expression}
use Rattle.sq_grammar.specs.Expr.{expr, quantifier_if_any}
use Rattle.sq_grammar.specs.Statement.{by_colon, position, orientation_of, by_relative, by_absolute, by_orientation_word, orientation, by_from, by_orientation, fetch_from, fetch, by_null, new_value, by_current, by_where, target, select, by_values, insert_source, insert, assignment, update, delete, verb_of, by_verb, statement}
use Rattle.sq_grammar.proofs.Ends.Follows.{EndsExpr, ends_expr, ends_table}
use Rattle.sq_run.proofs.Tokens.Viable.{Any, Begins, Begun, Blank, Eats, Not, Starts, Viable, begun, blank, blanks, commas, commas_start, comes_starts, done, done_starts, eaten, eats_expect, eats_first, eats_if_comes, eats_next, eats_one, from, if_begun, if_comes, if_one, mapped, mapped_starts, must, must_starts, never, never_eats, not_begun, not_starts, one_starts, starts_with, then_part, then_some, uneaten, unmet_starts}
use Rattle.sq_run.proofs.Tokens.NamesViable.{a_name, closing, columns_blank, columns_or_none, name_starts, names, one_digit, parameter_begun, parameters, signed_eat, signed_numbers, tables, tables_begun}
use Rattle.sq_run.proofs.Tokens.ExprViable.{AfterExpr, close_after, expr_begun, exprs, exprs_eat, inner_begun, inner_exprs, inner_exprs_eat, quantifier_blank, quantifiers}
use Rattle.sq_run.proofs.Tokens.SelectViable.{AfterTable, select_list_begun, select_lists, select_lists_eat, table_expression_begun, table_expressions, table_expressions_eat}
use Rattle.sq_run.proofs.Tokens.CondViable.{AfterCond, Closes}
use Rattle.sq_run.proofs.Tokens.CondsViable.{cond_begun, conds, query_specifications, query_specifications_eat}

abbrev pub semicolon : Lexeme
semicolon = lexeme.Symbol symbol.Semicolon

abbrev pub Semi : Tokens → Type 0
Semi = Begins (lexeme.Symbol symbol.Semicolon)

pub semi_closes_at : (ts : Tokens) → Closes (semicolon ∷ ts)
semi_closes_at ts = record { table = ends_table _ refl refl; bare = record { expr = ends_expr _ refl; comparison = refl; is = refl; not = refl; between = refl; in_word = refl; like = refl } }

pub semi_closes : AfterCond Semi
semi_closes = if_begun Closes semicolon semi_closes_at

pub semi_not : (u : Lexeme) → ((ts : Tokens) → sees u (semicolon ∷ ts) ≡ false) → Not Semi u
semi_not u e = not_begun semicolon u e

semi_after : AfterExpr Semi
semi_after other i = (semi_closes other i).bare.expr

semi_table : AfterTable Semi
semi_table other i = (semi_closes other i).table

-- ---- FETCH

module _ {F : Tokens → Type 0} where
  positions : Viable position position F
  unfolding position
  positions = if_comes (lexeme.Symbol symbol.Colon) by_colon by_colon (inr (eats_first _ _ {F = F} signed_eat (λ n. done))) (mapped _ names) (mapped_starts _ name_starts) (mapped _ signed_numbers)

  position_starts : Starts position F
  unfolding position
  position_starts = comes_starts (lexeme.Symbol symbol.Colon) by_colon refl (mapped_starts _ name_starts)

-- a word of an orientation does not come
pub record NoWord (ts : Tokens) : Type 0 where
  pub plain : first_of orientation_of ts ≡ None
  pub absolute : sees (lexeme.Word word.Absolute) ts ≡ false
  pub relative : sees (lexeme.Word word.Relative) ts ≡ false

orientations : Viable orientation orientation NoWord
unfolding orientation
orientations = if_one orientation_of by_orientation_word by_orientation_word (inl (λ other i. i.plain)) (λ o. done) (λ o. done_starts)
    (if_comes (lexeme.Word word.Absolute) by_absolute by_absolute (inl (λ other i. i.absolute)) (mapped _ positions) (mapped_starts _ position_starts)
    (if_comes (lexeme.Word word.Relative) by_relative by_relative (inl (λ other i. i.relative)) (mapped _ positions) (mapped_starts _ position_starts) done))

orientation_blank : Blank orientation NoWord
unfolding orientation
orientation_blank = blanks (unmet_starts orientation_of by_orientation_word (not_starts (lexeme.Word word.Absolute) by_absolute (not_starts (lexeme.Word word.Relative) by_relative done_starts (λ other i. i.relative)) (λ other i. i.absolute)) (λ other i. i.plain)) refl

by_froms : (o : Option Orientation) → Viable (by_orientation o) (by_orientation o) (Begins a_name)
by_froms None = if_comes (lexeme.Word word.From) by_from by_from (inl (not_begun a_name (lexeme.Word word.From) (λ ts. refl))) done done_starts done
by_froms (Some o) = must (lexeme.Word word.From) (λ ts. refl) done done_starts

by_from_starts : (o : Option Orientation) → Starts (by_orientation o) (Begins a_name)
by_from_starts None = comes_starts (lexeme.Word word.From) by_from refl done_starts
by_from_starts (Some o) = must_starts (lexeme.Word word.From) (λ ts. refl) done_starts

no_word_at : (t : Lexeme) → first_of orientation_of (t ∷ []) ≡ None → ((ts : Tokens) → sees (lexeme.Word word.Absolute) (t ∷ ts) ≡ false) → ((ts : Tokens) → sees (lexeme.Word word.Relative) (t ∷ ts) ≡ false) → (ts : Tokens) → NoWord (t ∷ ts)
no_word_at t e a r ts = record { plain = e; absolute = a ts; relative = r ts }

from_joins : (o : Option Orientation) (other : Tokens) → Begins a_name other → NoWord ((by_from_starts o).more ++ other)
unfolding by_from_starts
from_joins None other i = no_word_at (lexeme.Word word.From) refl (λ ts. refl) (λ ts. refl) other
from_joins (Some o) other i = no_word_at (lexeme.Word word.From) refl (λ ts. refl) (λ ts. refl) other

fetch_froms : Viable fetch_from fetch_from (Begins a_name)
unfolding fetch_from
fetch_froms = then_part {G = NoWord} _ _ orientations by_froms by_from_starts from_joins (if_begun NoWord a_name (no_word_at a_name refl (λ ts. refl) (λ ts. refl)))

fetch_from_starts : Starts fetch_from (Begins a_name)
unfolding fetch_from
fetch_from_starts = starts_with {G = NoWord} _ (blank orientation_blank) (by_from_starts orientation_blank.value) (from_joins orientation_blank.value)

module _ {F : Tokens → Type 0} (no_word : Not F (lexeme.Word word.Indicator)) (no_colon : Not F (lexeme.Symbol symbol.Colon)) (no_comma : Not F comma) where
  parameter_lists : Viable (comma_separated parameter) (comma_separated parameter) F
  parameter_lists = commas (parameters no_word no_colon) (from (parameter_begun no_word no_colon)) no_comma

  abbrev parameter_starts : Starts (comma_separated parameter) F
  parameter_starts = commas_start (parameters no_word no_colon) (from (parameter_begun no_word no_colon)) no_comma

semi_parameters : Viable (comma_separated parameter) (comma_separated parameter) Semi
semi_parameters = parameter_lists (semi_not (lexeme.Word word.Indicator) (λ ts. refl)) (semi_not (lexeme.Symbol symbol.Colon) (λ ts. refl)) (semi_not comma (λ ts. refl))

semi_parameter_starts : Starts (comma_separated parameter) Semi
semi_parameter_starts = parameter_starts (semi_not (lexeme.Word word.Indicator) (λ ts. refl)) (semi_not (lexeme.Symbol symbol.Colon) (λ ts. refl)) (semi_not comma (λ ts. refl))

fetches : Viable fetch fetch Semi
unfolding fetch
fetches = then_some {G = Begins a_name} _ _ fetch_froms
    (λ f. then_part {G = Any} _ _ names (λ c. must (lexeme.Word word.Into) (λ ts. refl) (mapped _ semi_parameters) (mapped_starts _ semi_parameter_starts)) (λ c. must_starts (lexeme.Word word.Into) (λ ts. refl) (mapped_starts _ semi_parameter_starts)) (λ c other i. tt) (λ other i. tt))
    (λ f. starts_with {G = Any} _ name_starts (must_starts (lexeme.Word word.Into) (λ ts. refl) (mapped_starts _ semi_parameter_starts)) (λ other i. tt))
    (λ f other i. (_, refl))
    (λ f. eats_first _ _ {F = Semi} (eats_one name_of) (λ c. must (lexeme.Word word.Into) (λ ts. refl) (mapped _ semi_parameters) (mapped_starts _ semi_parameter_starts)))

fetch_starts : Starts fetch Semi
unfolding fetch
fetch_starts = starts_with {G = Begins a_name} _ fetch_from_starts (starts_with {G = Any} _ name_starts (must_starts (lexeme.Word word.Into) (λ ts. refl) (mapped_starts _ semi_parameter_starts)) (λ other i. tt)) (λ other i. (_, refl))

-- ---- values and conditions

module _ {exprs exprs' : Parser Expr} {F : Tokens → Type 0} (h : Viable exprs exprs' F) (k : Begun exprs' F one_digit) (eats : Eats exprs) where
  new_values : Viable (new_value exprs) (new_value exprs') F
  unfolding new_value
  new_values = if_comes (lexeme.Word word.Null) (by_null exprs) (by_null exprs') (inr (eats_first _ _ {F = F} eats (λ e. done))) done done_starts (mapped _ h)

  new_value_begun : Begun (new_value exprs') F one_digit
  unfolding new_value
  new_value_begun = begun one_digit _ (not_starts (lexeme.Word word.Null) (by_null exprs') (mapped_starts _ (from k)) (λ other i. refl)) refl

module _ (left : ℕ) where
  currents : Viable (eat (lexeme.Word word.Current) >>= by_current left) (eat (lexeme.Word word.Current) >>= by_current (suc left)) Semi
  currents = if_comes (lexeme.Word word.Current) (by_current left) (by_current (suc left)) (inl (semi_not (lexeme.Word word.Current) (λ ts. refl)))
      (must (lexeme.Word word.Of) (λ ts. refl) (mapped _ names) (mapped_starts _ name_starts)) (must_starts (lexeme.Word word.Of) (λ ts. refl) (mapped_starts _ name_starts)) (mapped _ (conds left semi_closes))

  targets : Viable (target left) (target (suc left)) Semi
  unfolding target
  targets = if_comes (lexeme.Word word.Where) (by_where left) (by_where (suc left)) (inl (semi_not (lexeme.Word word.Where) (λ ts. refl))) currents
      (comes_starts (lexeme.Word word.Current) (by_current (suc left)) refl (must_starts (lexeme.Word word.Of) (λ ts. refl) (mapped_starts _ name_starts))) done

  target_blank : Blank (target (suc left)) Semi
  unfolding target
  target_blank = blanks (not_starts (lexeme.Word word.Where) (by_where (suc left)) done_starts (semi_not (lexeme.Word word.Where) (λ ts. refl))) refl

into_after : AfterExpr (Begins (lexeme.Word word.Into))
into_after = if_begun EndsExpr (lexeme.Word word.Into) (λ ts. ends_expr _ refl)

into_no_comma : Not (Begins (lexeme.Word word.Into)) comma
into_no_comma = not_begun (lexeme.Word word.Into) comma (λ ts. refl)

digit_quantifiers : Viable quantifier_if_any quantifier_if_any (Begins one_digit)
digit_quantifiers = quantifiers (not_begun one_digit (lexeme.Word word.All) (λ ts. refl)) (not_begun one_digit (lexeme.Word word.Distinct) (λ ts. refl))

digit_quantifier_blank : Blank quantifier_if_any (Begins one_digit)
digit_quantifier_blank = quantifier_blank (not_begun one_digit (lexeme.Word word.All) (λ ts. refl)) (not_begun one_digit (lexeme.Word word.Distinct) (λ ts. refl))

from_parameters : Viable (comma_separated parameter) (comma_separated parameter) (Begins (lexeme.Word word.From))
from_parameters = parameter_lists (not_begun (lexeme.Word word.From) (lexeme.Word word.Indicator) (λ ts. refl)) (not_begun (lexeme.Word word.From) (lexeme.Symbol symbol.Colon) (λ ts. refl)) (not_begun (lexeme.Word word.From) comma (λ ts. refl))

from_parameter_starts : Starts (comma_separated parameter) (Begins (lexeme.Word word.From))
from_parameter_starts = parameter_starts (not_begun (lexeme.Word word.From) (lexeme.Word word.Indicator) (λ ts. refl)) (not_begun (lexeme.Word word.From) (lexeme.Symbol symbol.Colon) (λ ts. refl)) (not_begun (lexeme.Word word.From) comma (λ ts. refl))

module _ (left : ℕ) where
  tables_of : Viable (table_expression (condition left)) (table_expression (condition (suc left))) Semi
  tables_of = table_expressions semi_table (conds left semi_closes) (from (cond_begun (suc left) semi_closes))

  abbrev tables_of_start : Starts (table_expression (condition (suc left))) Semi
  tables_of_start = from (table_expression_begun semi_table (conds left semi_closes) (from (cond_begun (suc left) semi_closes)))

  tables_of_eat : Eats (table_expression (condition left))
  tables_of_eat = table_expressions_eat semi_table (conds left semi_closes) (from (cond_begun (suc left) semi_closes))

  lists : Viable (select_list (expr left)) (select_list (expr (suc left))) (Begins (lexeme.Word word.Into))
  lists = select_lists (exprs left into_after) (expr_begun (suc left) into_after) (exprs_eat left) into_no_comma

  abbrev list_start : Starts (select_list (expr (suc left))) (Begins (lexeme.Word word.Into))
  list_start = from (select_list_begun (exprs left into_after) (expr_begun (suc left) into_after) (exprs_eat left) into_no_comma)

  lists_eat : Eats (select_list (expr left))
  lists_eat = select_lists_eat (exprs left into_after) (expr_begun (suc left) into_after) (exprs_eat left) into_no_comma

  selects : Viable (select left) (select (suc left)) Semi
  unfolding select
  selects = then_some {G = Begins one_digit} _ _ digit_quantifiers
      (λ q. then_some {G = Begins (lexeme.Word word.Into)} _ _ lists
      (λ l. must (lexeme.Word word.Into) (λ ts. refl)
      (then_some {G = Begins (lexeme.Word word.From)} _ _ from_parameters (λ ps. mapped _ tables_of) (λ ps. mapped_starts _ tables_of_start) (λ ps other i. (_, refl)) (λ ps. eats_first _ _ {F = Semi} tables_of_eat (λ t. done)))
      (starts_with {G = Begins (lexeme.Word word.From)} _ from_parameter_starts (mapped_starts _ tables_of_start) (λ other i. (_, refl))))
      (λ l. must_starts (lexeme.Word word.Into) (λ ts. refl) (starts_with {G = Begins (lexeme.Word word.From)} _ from_parameter_starts (mapped_starts _ tables_of_start) (λ other i. (_, refl))))
      (λ l other i. (_, refl))
      (λ l. eats_first _ _ {F = Semi} (eats_expect (lexeme.Word word.Into)) (λ u. then_some {G = Begins (lexeme.Word word.From)} _ _ from_parameters (λ ps. mapped _ tables_of) (λ ps. mapped_starts _ tables_of_start) (λ ps other i. (_, refl)) (λ ps. eats_first _ _ {F = Semi} tables_of_eat (λ t. done)))))
      (λ q. starts_with {G = Begins (lexeme.Word word.Into)} _ list_start (must_starts (lexeme.Word word.Into) (λ ts. refl) (starts_with {G = Begins (lexeme.Word word.From)} _ from_parameter_starts (mapped_starts _ tables_of_start) (λ other i. (_, refl)))) (λ other i. (_, refl)))
      (λ q other i. (_, refl))
      (λ q. eats_next _ lists (λ l. eats_first _ _ {F = Semi} (eats_expect (lexeme.Word word.Into)) (λ u. then_some {G = Begins (lexeme.Word word.From)} _ _ from_parameters (λ ps. mapped _ tables_of) (λ ps. mapped_starts _ tables_of_start) (λ ps other i. (_, refl)) (λ ps. eats_first _ _ {F = Semi} tables_of_eat (λ t. done)))))

  select_starts : Starts (select (suc left)) Semi
  unfolding select
  select_starts = starts_with {G = Begins one_digit} _ (blank digit_quantifier_blank)
      (starts_with {G = Begins (lexeme.Word word.Into)} _ list_start (must_starts (lexeme.Word word.Into) (λ ts. refl) (starts_with {G = Begins (lexeme.Word word.From)} _ from_parameter_starts (mapped_starts _ tables_of_start) (λ other i. (_, refl)))) (λ other i. (_, refl))) (λ other i. (_, refl))

  -- ---- changes

  inner_values : Viable (comma_separated (new_value (expressions.inside left))) (comma_separated (new_value (expressions.inside (suc left)))) (Begins closing)
  inner_values = commas (new_values (inner_exprs left close_after) (inner_begun left close_after) (inner_exprs_eat left)) (from (new_value_begun (inner_exprs left close_after) (inner_begun left close_after) (inner_exprs_eat left))) (not_begun closing comma (λ ts. refl))

  abbrev inner_values_start : Starts (comma_separated (new_value (expressions.inside (suc left)))) (Begins closing)
  inner_values_start = commas_start (new_values (inner_exprs left close_after) (inner_begun left close_after) (inner_exprs_eat left)) (from (new_value_begun (inner_exprs left close_after) (inner_begun left close_after) (inner_exprs_eat left))) (not_begun closing comma (λ ts. refl))

  value_lists : Viable (by_values left true) (by_values (suc left) true) Semi
  value_lists = must (lexeme.Symbol symbol.Open) (λ ts. refl)
      (then_some {G = Begins closing} _ _ inner_values (λ vs. must closing (λ ts. refl) done done_starts) (λ vs. must_starts closing (λ ts. refl) done_starts) (λ vs other i. (_, refl)) (λ vs. eats_first _ _ {F = Semi} (eats_expect closing) (λ u. done)))
      (starts_with {G = Begins closing} _ inner_values_start (must_starts closing (λ ts. refl) done_starts) (λ other i. (_, refl)))

  value_lists_start : Starts (by_values (suc left) true) Semi
  value_lists_start = must_starts (lexeme.Symbol symbol.Open) (λ ts. refl) (starts_with {G = Begins closing} _ inner_values_start (must_starts closing (λ ts. refl) done_starts) (λ other i. (_, refl)))

  queries_eat : Eats (by_values left false)
  queries_eat = eats_first _ _ {F = Semi} (query_specifications_eat left semi_closes) (λ s. done)

  sources : Viable (insert_source left) (insert_source (suc left)) Semi
  unfolding insert_source
  sources = if_comes (lexeme.Word word.Values) (by_values left) (by_values (suc left)) (inr queries_eat) value_lists value_lists_start (mapped _ (query_specifications left semi_closes))

  source_begun : Begun (insert_source (suc left)) Semi (lexeme.Word word.Values)
  unfolding insert_source
  source_begun = begun (lexeme.Word word.Values) _ (comes_starts (lexeme.Word word.Values) (by_values (suc left)) refl value_lists_start) refl

  sources_eat : Eats (insert_source left)
  unfolding insert_source
  sources_eat = eats_if_comes (lexeme.Word word.Values) (by_values left) (by_values (suc left)) queries_eat value_lists

  columns_there : Viable columns_if_any columns_if_any (Begins (lexeme.Word word.Values))
  columns_there = columns_or_none (not_begun (lexeme.Word word.Values) (lexeme.Symbol symbol.Open) (λ ts. refl))

  abbrev columns_start : Starts columns_if_any (Begins (lexeme.Word word.Values))
  columns_start = blank (columns_blank (not_begun (lexeme.Word word.Values) (lexeme.Symbol symbol.Open) (λ ts. refl)))

  inserts : Viable (insert left) (insert (suc left)) Semi
  unfolding insert
  inserts = must (lexeme.Word word.Into) (λ ts. refl)
      (then_some {G = Begins (lexeme.Word word.Values)} _ _ (tables (not_begun (lexeme.Word word.Values) dot (λ ts. refl)))
      (λ t. then_some {G = Begins (lexeme.Word word.Values)} _ _ columns_there (λ cs. mapped _ sources) (λ cs. mapped_starts _ (from source_begun)) (λ cs other i. (_, refl)) (λ cs. eats_first _ _ {F = Semi} sources_eat (λ s. done)))
      (λ t. starts_with {G = Begins (lexeme.Word word.Values)} _ columns_start (mapped_starts _ (from source_begun)) (λ other i. (_, refl)))
      (λ t other i. (_, refl))
      (λ t. eats_next _ columns_there (λ cs. eats_first _ _ {F = Semi} sources_eat (λ s. done))))
      (starts_with {G = Begins (lexeme.Word word.Values)} _ (from (tables_begun (not_begun (lexeme.Word word.Values) dot (λ ts. refl))))
      (starts_with {G = Begins (lexeme.Word word.Values)} _ columns_start (mapped_starts _ (from source_begun)) (λ other i. (_, refl))) (λ other i. (_, refl)))

  insert_starts : Starts (insert (suc left)) Semi
  unfolding insert
  insert_starts = must_starts (lexeme.Word word.Into) (λ ts. refl)
      (starts_with {G = Begins (lexeme.Word word.Values)} _ (from (tables_begun (not_begun (lexeme.Word word.Values) dot (λ ts. refl))))
      (starts_with {G = Begins (lexeme.Word word.Values)} _ columns_start (mapped_starts _ (from source_begun)) (λ other i. (_, refl))) (λ other i. (_, refl)))

  plain_values : Viable (new_value (expr left)) (new_value (expr (suc left))) Semi
  plain_values = new_values (exprs left semi_after) (expr_begun (suc left) semi_after) (exprs_eat left)

  plain_value_starts : Starts (new_value (expr (suc left))) Semi
  plain_value_starts = from (new_value_begun (exprs left semi_after) (expr_begun (suc left) semi_after) (exprs_eat left))

  assignments : Viable (assignment left) (assignment (suc left)) Semi
  unfolding assignment
  assignments = then_part {G = Any} _ _ names (λ c. must (lexeme.Symbol symbol.Equal) (λ ts. refl) (mapped _ plain_values) (mapped_starts _ plain_value_starts)) (λ c. must_starts (lexeme.Symbol symbol.Equal) (λ ts. refl) (mapped_starts _ plain_value_starts)) (λ c other i. tt) (λ other i. tt)

  assignment_starts : Starts (assignment (suc left)) Semi
  unfolding assignment
  assignment_starts = starts_with {G = Any} _ name_starts (must_starts (lexeme.Symbol symbol.Equal) (λ ts. refl) (mapped_starts _ plain_value_starts)) (λ other i. tt)

  sets : Viable (comma_separated (assignment left)) (comma_separated (assignment (suc left))) Semi
  sets = commas assignments assignment_starts (semi_not comma (λ ts. refl))

  sets_start : Starts (comma_separated (assignment (suc left))) Semi
  sets_start = commas_start assignments assignment_starts (semi_not comma (λ ts. refl))

  set_no_dot : Not (Begins (lexeme.Word word.Set)) dot
  set_no_dot = not_begun (lexeme.Word word.Set) dot (λ ts. refl)

  updates : Viable (update left) (update (suc left)) Semi
  unfolding update
  updates = then_some {G = Begins (lexeme.Word word.Set)} _ _ (tables set_no_dot)
      (λ t. must (lexeme.Word word.Set) (λ ts. refl) (then_part {G = Semi} _ _ sets (λ xs. mapped _ (targets left)) (λ xs. mapped_starts _ (blank (target_blank left))) (λ xs other i. i) (λ other i. i)) (starts_with {G = Semi} _ sets_start (mapped_starts _ (blank (target_blank left))) (λ other i. i)))
      (λ t. must_starts (lexeme.Word word.Set) (λ ts. refl) (starts_with {G = Semi} _ sets_start (mapped_starts _ (blank (target_blank left))) (λ other i. i)))
      (λ t other i. (_, refl))
      (λ t. eats_first _ _ {F = Semi} (eats_expect (lexeme.Word word.Set)) (λ u. then_part {G = Semi} _ _ sets (λ xs. mapped _ (targets left)) (λ xs. mapped_starts _ (blank (target_blank left))) (λ xs other i. i) (λ other i. i)))

  update_starts : Starts (update (suc left)) Semi
  unfolding update
  update_starts = starts_with {G = Begins (lexeme.Word word.Set)} _ (from (tables_begun set_no_dot)) (must_starts (lexeme.Word word.Set) (λ ts. refl) (starts_with {G = Semi} _ sets_start (mapped_starts _ (blank (target_blank left))) (λ other i. i))) (λ other i. (_, refl))

  semi_no_dot : Not Semi dot
  semi_no_dot = semi_not dot (λ ts. refl)

  deletes : Viable (delete left) (delete (suc left)) Semi
  unfolding delete
  deletes = must (lexeme.Word word.From) (λ ts. refl) (then_part {G = Semi} _ _ (tables semi_no_dot) (λ t. mapped _ (targets left)) (λ t. mapped_starts _ (blank (target_blank left))) (λ t other i. i) (λ other i. i))
      (starts_with {G = Semi} _ (from (tables_begun semi_no_dot)) (mapped_starts _ (blank (target_blank left))) (λ other i. i))

  delete_starts : Starts (delete (suc left)) Semi
  unfolding delete
  delete_starts = must_starts (lexeme.Word word.From) (λ ts. refl) (starts_with {G = Semi} _ (from (tables_begun semi_no_dot)) (mapped_starts _ (blank (target_blank left))) (λ other i. i))

  works : Viable (eat (lexeme.Word word.Work)) (eat (lexeme.Word word.Work)) Semi
  works = eaten (lexeme.Word word.Work) (semi_not (lexeme.Word word.Work) (λ ts. refl))

  abbrev work_starts : Starts (eat (lexeme.Word word.Work)) Semi
  work_starts = uneaten (lexeme.Word word.Work) (semi_not (lexeme.Word word.Work) (λ ts. refl))

  by_verbs : (v : Verb) → Viable (by_verb left (Some v)) (by_verb (suc left) (Some v)) Semi
  by_verbs verb.Open = mapped _ names
  by_verbs verb.Fetch = mapped _ fetches
  by_verbs verb.Close = mapped _ names
  by_verbs verb.Select = mapped _ selects
  by_verbs verb.Insert = mapped _ inserts
  by_verbs verb.Update = mapped _ updates
  by_verbs verb.Delete = mapped _ deletes
  by_verbs verb.Commit = mapped _ works
  by_verbs verb.Rollback = mapped _ works

  verb_starts : (v : Verb) → Starts (by_verb (suc left) (Some v)) Semi
  verb_starts verb.Open = mapped_starts _ name_starts
  verb_starts verb.Fetch = mapped_starts _ fetch_starts
  verb_starts verb.Close = mapped_starts _ name_starts
  verb_starts verb.Select = mapped_starts _ select_starts
  verb_starts verb.Insert = mapped_starts _ insert_starts
  verb_starts verb.Update = mapped_starts _ update_starts
  verb_starts verb.Delete = mapped_starts _ delete_starts
  verb_starts verb.Commit = mapped_starts _ work_starts
  verb_starts verb.Rollback = mapped_starts _ work_starts

  pub statements : Viable (statement left) (statement (suc left)) Semi
  unfolding statement
  statements = if_one verb_of (by_verb left) (by_verb (suc left)) (inr never_eats) by_verbs verb_starts never

  pub statement_starts : Starts (statement (suc left)) Semi
  unfolding statement
  statement_starts = one_starts verb_of (by_verb (suc left)) (lexeme.Word word.Commit) verb.Commit refl (verb_starts verb.Commit)
