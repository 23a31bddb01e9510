-- The first rule by which a query or a cursor is not updatable, as its text says (ISO/IEC 9075:1992, 7.9 and 13.1). An own rule is that no
-- WHERE has a subquery. They are the rules of `updatable_source` (Target of sq_meaning) and `updatable_query` (WellFormedStatement of
-- sq_meaning).
use Rattle.std.specs.Prelude.{◌≡◌, ◌==◌, Bool, true, false, not, ◌&&◌, if◌then◌else◌, List, [], ◌∷◌, ◌++◌, length, map, Option, Some, None, is_some, unwrap_or}
use Rattle.std.specs.List.{list_any}
use Rattle.sq_lex.specs.Word.{same_word}
use Rattle.sq_lex.specs.declared.lexeme.Lexeme.{Lexeme}
use Rattle.sq_lex.specs.declared.lexeme.Lexeme.TheVariants as lexeme
use Rattle.sq_lex.specs.declared.name.Name.{Name}
use Rattle.sq_lex.specs.declared.word.Word.TheVariants as word
use Rattle.sq_tree.specs.Cond.{cond_tokens}
use Rattle.sq_tree.specs.declared.cond.Cond.{Cond}
use Rattle.sq_tree.specs.declared.cond.QuerySpecification.{QuerySpecification, out-QuerySpecification}
use Rattle.sq_tree.specs.declared.cond.SelectList.{SelectList}
use Rattle.sq_tree.specs.declared.cond.SelectList.TheVariants.{Star, Items}
use Rattle.sq_tree.specs.declared.cond.TableExpression.{TableExpression, out-TableExpression}
use Rattle.sq_tree.specs.declared.expr.Expr.{Expr}
use Rattle.sq_tree.specs.declared.module.Cursor.{Cursor}
use Rattle.sq_meaning.specs.Environment.{same_name}
use Rattle.sq_meaning.specs.SortKeys.{item_name}
use Rattle.sq_meaning.specs.Spelled.{Named, expr_of, is_distinct_word, listed, query_of, select_of}
use Rattle.sq_meaning.specs.Syntax.{Query, specification}
use Rattle.sq_meaning.specs.Words.{is_some_and}
use Rattle.sq_meaning.specs.WellFormedStatement.{only_specification}
use Rattle.sq_check.specs.declared.rule.Rule.{Rule}
use Rattle.sq_check.specs.declared.rule.Rule.TheVariants.{Insensitive, Scroll, OrderBy, Union, Distinct, SeveralTables, SelectItems, Subquery, GroupBy, Having, OverView}

-- ---- select lists

-- the column of a select item that is a column reference and nothing more
abbrev pub column_of : Expr → Option Name
column_of e = item_name (expr_of e)

-- each item is a column, of another name than these and the ones before it
abbrev pub are_new_columns : List Name → List (Option Name) → Bool
are_new_columns before [] = true
are_new_columns before (None ∷ items) = false
are_new_columns before (Some name ∷ items) =
    not (list_any (same_name name) before) && are_new_columns (before ++ name ∷ []) items

-- columns alone, each once
abbrev pub shows_columns : SelectList → Bool
shows_columns Star = true
shows_columns (Items list) = are_new_columns [] (map column_of (listed list))

-- ---- conditions

abbrev pub is_select : Lexeme → Bool
is_select (lexeme.Word w) = same_word w word.Select
is_select _ = false

-- the condition has the word SELECT
abbrev pub has_subquery : Cond → Bool
has_subquery c = list_any is_select (cond_tokens c)

-- ---- the first rule

-- the clauses after FROM
abbrev pub clause_rule : TableExpression → Option Rule
clause_rule t =
    let table = out-TableExpression t in
    if is_some_and has_subquery table.where_clause then Some Subquery
    else if is_some table.group_by then Some GroupBy
    else if is_some table.having then Some Having
    else None

-- no DISTINCT, one table, columns alone in the select list, each once, no subquery, no GROUP BY and no HAVING
abbrev pub text_rule : QuerySpecification → Option Rule
text_rule q =
    let query = out-QuerySpecification q in
    if is_distinct_word query.quantifier then Some Distinct
    else if not (length (out-TableExpression query.table).from.rest == 0) then Some SeveralTables
    else if not (shows_columns query.list) then Some SelectItems
    else clause_rule query.table

-- the first rule of a query that is not updatable: if its text breaks none, it is over a view that is not updatable
abbrev pub query_rule : QuerySpecification → Rule
query_rule q = unwrap_or (text_rule q) OverView

-- the query specification that a query of any user is, brackets around it or not; none of a UNION
abbrev pub IsSole : (Name → Query Named) → Option QuerySpecification → Type 0
IsSole query None = (own : Name) → only_specification (query own) ≡ None
IsSole query (Some s) = (own : Name) → query own ≡ specification (select_of own s)

abbrev pub sole_rule : Option QuerySpecification → Rule
sole_rule None = Union
sole_rule (Some q) = query_rule q

-- no INSENSITIVE, SCROLL or ORDER BY, and then the rules of its query
abbrev pub cursor_rule : Cursor → Option QuerySpecification → Rule
cursor_rule c sole =
    if c.insensitive then Insensitive
    else if c.scroll then Scroll
    else if is_some c.order_by then OrderBy
    else sole_rule sole

-- the first rule of a cursor that is not updatable
pub record IsRuleOf (c : Cursor) (rule : Rule) : Type 0 where
  pub sole : Option QuerySpecification
  pub query : IsSole (λ own. query_of own c.query) sole
  pub is : rule ≡ cursor_rule c sole
