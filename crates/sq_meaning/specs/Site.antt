-- The sites: the places of a statement at which a syntax or access rule asks something. One walk through a tree finds
-- them all; the rules themselves are in Binding.
use Rattle.std.specs.List.{sum, zip}
use Rattle.std.specs.Prelude.{ℕ, Bool, true, false, List, [], ◌∷◌, ◌++◌, map, length, if◌then◌else◌, filter, flat_map, Option, unwrap_or, option_map, Some, None, Ok}
use Rattle.std.specs.Result.{result_ok}
use Rattle.sq_lex.specs.declared.name.Name.{Name}
use Rattle.sq_value.specs.declared.domain.Kind.{Kind}
use Rattle.sq_tree.specs.declared.expr.SetFunction.{SetFunction}
use Rattle.sq_tree.specs.declared.expr.SetFunction.TheVariants as set_function_word
use Rattle.sq_tree.specs.declared.expr.TimesSign.{TimesSign}
use Rattle.sq_tree.specs.declared.module.SortKey.{SortKey}
use Rattle.sq_tree.specs.declared.names.ColumnReference.{ColumnReference}
use Rattle.sq_tree.specs.declared.names.Parameter.{Parameter}
use Rattle.sq_tree.specs.declared.statement.Orientation.{Orientation}
use Rattle.sq_meaning.specs.Environment.{TableName, TableReference}
use Rattle.sq_meaning.specs.Kind.{kind, query_kinds, select_kinds}
use Rattle.sq_meaning.specs.Query.{grouped, is_grouped}
use Rattle.sq_meaning.specs.Spelled.{Named}
use Rattle.sq_meaning.specs.Status.{Outcome, not_well_formed}
use Rattle.sq_meaning.specs.Syntax.{Clause, Cond, Conds, Expr, Query, Select, SelectList, a_cond, added, all_columns, between, bracketed, column, compare, compare_quantified, compare_subquery, conjunction, count_rows, disjunction, exists, expressions, in_list, in_subquery, is_null, like, literal, negated, no_cond, parameter, present, scaled, select, set_function, signed, specification, union, user}
use Rattle.sq_meaning.specs.Syntax.{absent}
use Rattle.sq_meaning.specs.Tables.{Declared, Tables, descriptor_of, kinds_by_name}
use Rattle.sq_meaning.specs.Privilege.{Privilege}

-- a FROM clause around; in a select list or HAVING of a grouped query specification, with its grouping columns
pub record EnclosingQuery : Type 0 where
  pub from : List TableReference
  pub grouping : Option (List ColumnReference)

-- the surroundings of an expression: the FROM clauses, the nearest first; whether a set function may occur here; whether
-- this is the operand of one
pub record Around : Type 0 where
  pub queries : List EnclosingQuery
  pub functions_allowed : Bool
  pub in_function : Bool

pub data Site : Type 0 where
  -- a table named in FROM
  table_read : TableReference → Site
  -- a FROM clause
  from_whole : List TableReference → Site
  column_read : Around → ColumnReference → Site
  parameter_read : Parameter → Site
  -- a set function, with its operand if it has one
  function_called : Around → Option (Expr Named) → Site
  -- two operands of an arithmetic operator, or one that has a sign or is summed
  number_wanted : Outcome Kind → Site
  text_wanted : Outcome Kind → Site
  alike_wanted : Outcome Kind → Outcome Kind → Site
  -- the operands of `*` or `/`
  product_scale : TimesSign → Outcome Kind → Outcome Kind → Site
  -- two counts that have to be equal
  counts : ℕ → ℕ → Site
  -- the columns of a select list or of an insert column list
  column_count : ℕ → Site
  star_of_groups : Site
  -- a read of USER and a subquery, which a CHECK may not have
  user_read : Site
  subquery_read : Site
  -- the table that a statement changes, and a column of it
  table_changed : TableName → Site
  column_changed : TableName → Name → Site
  -- an insert column list, or the columns of the set clauses
  column_list : List Name → Site
  -- the targets of INTO
  targets : List Parameter → Site
  sort_by : List (Option Name) → SortKey → Site
  -- the cursor that a statement names
  cursor_used : Name → Site
  -- the table that a positioned statement changes, and its cursor
  positioned : TableName → Name → Site
  orientation_used : (scrolls : Bool) → Option Orientation → Site
  privilege_used : TableName → Privilege → Site

-- a known cursor: whether its query has no fault, and the table that its FROM clause names, if it is updatable
pub record KnownCursor : Type 0 where
  pub name : Name
  pub sound : Bool
  pub table : Option TableName

-- the names that are looked up: the tables, the parameters and the cursors
pub record Known : Type 0 where
  pub tables : Tables
  pub parameters : List Declared
  pub cursors : List KnownCursor

-- in a query or a condition that no module has around it
abbrev pub known_tables : Tables → Known
known_tables tables = record { tables = tables; parameters = []; cursors = [] }

-- ---- value expressions (6.2, 6.5, 6.11 to 6.13)

abbrev pub from_clauses : Around → List (List TableReference)
from_clauses a = map (λ query. query.from) a.queries

abbrev pub kind_here : Known → Around → Expr Named → Outcome Kind
kind_here k a e = kind (kinds_by_name k.tables k.parameters) (from_clauses a) e

abbrev pub operand_of : Around → Around
operand_of a = record { queries = a.queries; functions_allowed = false; in_function = true }

-- SUM and AVG are of numbers
abbrev pub summed_sites : SetFunction → Outcome Kind → List Site
summed_sites set_function_word.Sum k = Site.number_wanted k ∷ []
summed_sites set_function_word.Avg k = Site.number_wanted k ∷ []
summed_sites _ k = []

abbrev pub parameter_sites : Parameter → List Site
parameter_sites p = Site.parameter_read p ∷ []

abbrev pub expr_sites : Known → Around → Expr Named → List Site
expr_sites k a (literal v) = []
expr_sites k a (parameter p) = parameter_sites p
expr_sites k a user = Site.user_read ∷ []
expr_sites k a (column c) = Site.column_read a c ∷ []
expr_sites k a count_rows = Site.function_called a None ∷ []
expr_sites k a (set_function function distinct e) =
    Site.function_called a (Some e) ∷ summed_sites function (kind_here k a e) ++ expr_sites k (operand_of a) e
expr_sites k a (signed sign e) = Site.number_wanted (kind_here k a e) ∷ expr_sites k a e
expr_sites k a (added sign e f) =
    Site.number_wanted (kind_here k a e) ∷ Site.number_wanted (kind_here k a f) ∷ expr_sites k a e
    ++ expr_sites k a f
expr_sites k a (scaled sign e f) =
    Site.number_wanted (kind_here k a e) ∷ Site.number_wanted (kind_here k a f) ∷ Site.product_scale sign
    (kind_here k a e) (kind_here k a f)
    ∷ expr_sites k a e ++ expr_sites k a f
expr_sites k a (bracketed e) = expr_sites k a e

-- ---- search conditions and query specifications (7.3 to 7.9, clause 8)

-- two values that are compared
abbrev pub compared_sites : Known → Around → Expr Named → Expr Named → List Site
compared_sites k a e f =
    Site.alike_wanted (kind_here k a e) (kind_here k a f) ∷ expr_sites k a e ++ expr_sites k a f

abbrev pub first_kind : Outcome (List Kind) → Outcome Kind
first_kind (Ok (k ∷ ks)) = Ok k
first_kind _ = not_well_formed

abbrev pub kinds_here : Known → Around → Select Named → Outcome (List Kind)
kinds_here k a q = select_kinds (kinds_by_name k.tables k.parameters) (from_clauses a) q

abbrev pub count_in : Tables → TableReference → ℕ
count_in tables r =
    unwrap_or (option_map (λ d. length d.columns) (result_ok (descriptor_of tables r.table))) 0

-- the number of columns of a select list: `*` counts as all columns
abbrev pub list_count : Tables → List TableReference → SelectList Named → ℕ
list_count tables from all_columns = sum (map (count_in tables) from)
list_count tables from (expressions es) = length es

abbrev pub select_count : Tables → Select Named → ℕ
select_count tables (select distinct list from filter by having) = list_count tables from list

-- a value beside a subquery of one column
abbrev pub beside_subquery : Known → Around → Expr Named → Select Named → List Site
beside_subquery k a e q =
    Site.alike_wanted (kind_here k a e) (first_kind (kinds_here k a q)) ∷ Site.counts
    (select_count k.tables q) 1 ∷ Site.subquery_read ∷ expr_sites k a e

abbrev pub text_sites : Known → Around → Expr Named → List Site
text_sites k a e = Site.text_wanted (kind_here k a e) ∷ expr_sites k a e

abbrev pub escape_sites : Known → Around → Option (Expr Named) → List Site
escape_sites k a None = []
escape_sites k a (Some e) = text_sites k a e

abbrev pub inside_query : Around → EnclosingQuery → (functions_allowed : Bool) → Around
inside_query a query allowed = record {
  queries = query ∷ a.queries;
  functions_allowed = allowed;
  in_function = false;
}

abbrev pub plain_query : List TableReference → EnclosingQuery
plain_query from = record { from = from; grouping = None }

-- the query of a select list and of HAVING
abbrev pub shown_query : List TableReference → SelectList Named → List ColumnReference → Clause Named
    → EnclosingQuery
shown_query from list by having = record {
  from = from;
  grouping = if is_grouped list by having then Some by else None;
}

abbrev pub list_sites : Known → Around → SelectList Named → (grouped : Bool) → List Site
list_sites k a all_columns grouped = if grouped then Site.star_of_groups ∷ [] else []
list_sites k a (expressions es) grouped = flat_map (expr_sites k a) es

abbrev mutual
  pub cond_sites : Known → Around → Cond Named → List Site
  cond_sites k a (compare op e f) = compared_sites k a e f
  cond_sites k a (compare_subquery op e q) = beside_subquery k a e q ++ select_sites k a q
  cond_sites k a (compare_quantified op quantifier e q) = beside_subquery k a e q ++ select_sites k a q
  cond_sites k a (between e low high) = compared_sites k a e low ++ compared_sites k a e high
  cond_sites k a (in_subquery e q) = beside_subquery k a e q ++ select_sites k a q
  cond_sites k a (in_list e es) = expr_sites k a e ++ flat_map (compared_sites k a e) es
  cond_sites k a (like text pattern escape) =
      text_sites k a text ++ text_sites k a pattern ++ escape_sites k a escape
  cond_sites k a (is_null e) = expr_sites k a e
  cond_sites k a (exists q) = Site.subquery_read ∷ select_sites k a q
  cond_sites k a (negated c) = cond_sites k a c
  cond_sites k a (conjunction cs) = conds_sites k a cs
  cond_sites k a (disjunction cs) = conds_sites k a cs

  pub conds_sites : Known → Around → Conds Named → List Site
  conds_sites k a no_cond = []
  conds_sites k a (a_cond c cs) = cond_sites k a c ++ conds_sites k a cs

  pub clause_sites : Known → Around → Clause Named → List Site
  clause_sites k a absent = []
  clause_sites k a (present c) = cond_sites k a c

  pub select_sites : Known → Around → Select Named → List Site
  select_sites k a (select distinct list from filter by having) =
      map Site.table_read from ++ Site.from_whole from ∷ Site.column_count (list_count k.tables from list) ∷
      list_sites k (inside_query a (shown_query from list by having) true) list (is_grouped list by having)
      ++ clause_sites k (inside_query a (plain_query from) false) filter
      ++ map (Site.column_read (inside_query a (plain_query from) false)) by
      ++ clause_sites k (inside_query a (shown_query from list by having) true) having

-- outside every query
abbrev pub outside : Around
outside = record { queries = []; functions_allowed = false; in_function = false }

-- ---- query expressions (7.10)

abbrev pub alike_pairs : Outcome (List Kind) → Outcome (List Kind) → List Site
alike_pairs (Ok ks) (Ok ls) = map (λ p. Site.alike_wanted (Ok p.0) (Ok p.1)) (zip ks ls)
alike_pairs _ _ = []

abbrev pub query_count : Tables → Query Named → ℕ
query_count tables (specification q) = select_count tables q
query_count tables (union all left right) = query_count tables left

abbrev pub query_kinds_of : Known → Query Named → Outcome (List Kind)
query_kinds_of k q = query_kinds (kinds_by_name k.tables k.parameters) q

abbrev pub query_sites : Known → Query Named → List Site
query_sites k (specification q) = select_sites k outside q
query_sites k (union all left right) =
    Site.counts (query_count k.tables left) (query_count k.tables right) ∷ alike_pairs
    (query_kinds_of k left) (query_kinds_of k right)
    ++ query_sites k left ++ query_sites k right
