-- What value expressions, search conditions and queries mean as trees that are evaluated: an equation for each production
-- (ISO/IEC 9075:1992, 6.11, 7.9, 7.10 and clause 8). One reading of texts meets all of them, and no other does.
use Rattle.std.specs.Prelude.{◌≡◌, ℕ, Bool, true, false, List, [], ◌∷◌, ◌++◌, map, Option, None, Some}
use Rattle.std.specs.Option.{option_map}
use Rattle.sq_lex.specs.declared.name.Name.{Name}
use Rattle.sq_lex.specs.declared.number.Number.{Number}
use Rattle.sq_value.specs.declared.value.Value.TheVariants as value
use Rattle.sq_tree.specs.declared.list.CommaList.{CommaList}
use Rattle.sq_tree.specs.declared.names.ColumnReference.{ColumnReference}
use Rattle.sq_tree.specs.declared.names.Parameter.{Parameter}
use Rattle.sq_tree.specs.declared.expr.Sign.{Sign}
use Rattle.sq_tree.specs.declared.expr.TimesSign.{TimesSign}
use Rattle.sq_tree.specs.declared.expr.SetFunction.{SetFunction}
use Rattle.sq_tree.specs.declared.expr.SetQuantifier.{SetQuantifier}
use Rattle.sq_tree.specs.declared.expr.Expr.{Expr as SpelledExpr, roll-Expr}
use Rattle.sq_tree.specs.declared.expr.Added.{Added, roll-Added}
use Rattle.sq_tree.specs.declared.expr.Term.{Term, roll-Term}
use Rattle.sq_tree.specs.declared.expr.Scaled.{Scaled}
use Rattle.sq_tree.specs.declared.expr.Factor.{Factor}
use Rattle.sq_tree.specs.declared.expr.Primary.{Primary}
use Rattle.sq_tree.specs.declared.expr.Primary.TheVariants as primary
use Rattle.sq_tree.specs.declared.cond.Comparison.{Comparison}
use Rattle.sq_tree.specs.declared.cond.Quantifier.{Quantifier}
use Rattle.sq_tree.specs.declared.cond.TableReference.{TableReference as SpelledReference}
use Rattle.sq_tree.specs.declared.cond.SelectList.{SelectList as SpelledList}
use Rattle.sq_tree.specs.declared.cond.SelectList.TheVariants as list
use Rattle.sq_tree.specs.declared.cond.Cond.{Cond as SpelledCond, roll-Cond}
use Rattle.sq_tree.specs.declared.cond.Conj.{Conj, roll-Conj}
use Rattle.sq_tree.specs.declared.cond.Test.{Test}
use Rattle.sq_tree.specs.declared.cond.Body.{Body}
use Rattle.sq_tree.specs.declared.cond.Body.TheVariants as body
use Rattle.sq_tree.specs.declared.cond.Tail.TheVariants as tail
use Rattle.sq_tree.specs.declared.cond.TableExpression.{TableExpression, roll-TableExpression}
use Rattle.sq_tree.specs.declared.cond.QuerySpecification.{QuerySpecification, roll-QuerySpecification}
use Rattle.sq_tree.specs.declared.query.Query.{Query as SpelledQuery, roll-Query}
use Rattle.sq_tree.specs.declared.query.QueryTerm.{QueryTerm}
use Rattle.sq_tree.specs.declared.query.QueryTerm.TheVariants as query_term
use Rattle.sq_tree.specs.declared.query.UnionTerm.{UnionTerm}
use Rattle.sq_meaning.specs.Syntax.{Expr, literal, parameter, user, column, count_rows, set_function, signed, added, scaled, bracketed, SelectList, all_columns, expressions, Cond, Select, compare, compare_subquery, compare_quantified, between, in_subquery, in_list, like, is_null, exists, negated, conjunction, disjunction, select, conds, Query, specification, union}
use Rattle.sq_meaning.specs.Spelled.{Named, spelled_number, is_distinct_word, reference_of, listed, listed_if_any, not_if, clause, expr_of, term_of, factor_of, primary_of, list_of, cond_of, conj_of, test_of, body_of, select_of, select_of_parts, query_of, query_term_of}

-- ---- what is read

-- what each part of a text means
pub record Reading : Type 0 where
  -- value expressions and their parts (6.11)
  pub expression : SpelledExpr → Expr Named
  pub term : Term → Expr Named
  pub factor : Factor → Expr Named
  pub primary : Primary → Expr Named
  -- search conditions and their parts (8.12)
  pub condition : SpelledCond → Cond Named
  pub boolean_term : Conj → Cond Named
  pub boolean_factor : Test → Cond Named
  pub boolean_primary : Body → Cond Named
  -- select lists and query specifications (7.9), and a query by its parts, as SELECT INTO has them (13.5)
  pub select_list : SpelledList → SelectList Named
  pub selection : Option SetQuantifier → SpelledList → TableExpression → Select Named
  pub query_specification : QuerySpecification → Select Named
  -- query expressions and their parts (7.10)
  pub query_expression : SpelledQuery → Query Named
  pub query_term : QueryTerm → Query Named

-- ---- value expressions (6.11)

-- a term, and further terms with a sign before each
abbrev pub sum : Term → List Added → SpelledExpr
sum first rest = roll-Expr (record { first = first; rest = rest })

abbrev pub with_sign : Sign → Term → Added
with_sign sign t = roll-Added (record { sign = sign; term = t })

-- a factor, and further factors with `*` or `/` before each
abbrev pub product : Factor → List Scaled → Term
product first rest = roll-Term (record { first = first; rest = rest })

pub record ReadsExpressions (r : Reading) : Type 0 where
  -- an expression of one term means the term
  pub one_term : (t : Term) → r.expression (sum t []) ≡ r.term t
  -- one that ends in a sign and a term adds the term to what stands before the sign, or subtracts it
  pub last_term : (t : Term) (before : List Added) (sign : Sign) (last : Term)
      → r.expression (sum t (before ++ with_sign sign last ∷ []))
      ≡ added sign (r.expression (sum t before)) (r.term last)
  -- a term of one factor means the factor
  pub one_factor : (f : Factor) → r.term (product f []) ≡ r.factor f
  -- one that ends in `*` or `/` and a factor multiplies or divides what stands before that by the factor
  pub last_factor : (f : Factor) (before : List Scaled) (sign : TimesSign) (last : Factor)
      → r.term (product f (before ++ record { sign = sign; factor = last } ∷ []))
      ≡ scaled sign (r.term (product f before)) (r.factor last)
  -- a factor is a primary, with or without a sign
  pub unsigned : (p : Primary) → r.factor (record { sign = None; primary = p }) ≡ r.primary p
  pub with_a_sign : (sign : Sign) (p : Primary)
      → r.factor (record { sign = Some sign; primary = p }) ≡ signed sign (r.primary p)
  -- literals (5.3), parameters, USER (6.2) and columns (6.4) mean themselves
  pub numbers : (n : Number) → r.primary (primary.Number n) ≡ literal (value.Num (spelled_number n))
  pub texts : (characters : List ℕ) → r.primary (primary.Text characters) ≡ literal (value.Chars characters)
  pub parameters : (p : Parameter) → r.primary (primary.Parameter p) ≡ parameter p
  pub users : r.primary primary.User ≡ user
  pub columns : (c : ColumnReference) → r.primary (primary.Column c) ≡ column c
  -- set functions (6.5)
  pub rows_counted : r.primary primary.CountRows ≡ count_rows
  pub set_functions : (function : SetFunction) (quantifier : Option SetQuantifier) (e : SpelledExpr)
      → r.primary (primary.SetFunction function quantifier e)
      ≡ set_function function (is_distinct_word quantifier) (r.expression e)
  -- brackets mean what is inside; that they were there stays to be seen
  pub brackets : (e : SpelledExpr) → r.primary (primary.Bracketed e) ≡ bracketed (r.expression e)

-- ---- search conditions (8.12)

-- boolean terms with OR between each two
abbrev pub or_between : Conj → List Conj → SpelledCond
or_between first rest = roll-Cond (record { first = first; rest = rest })

-- boolean factors with AND between each two
abbrev pub and_between : Test → List Test → Conj
and_between first rest = roll-Conj (record { first = first; rest = rest })

pub record ReadsConditions (r : Reading) : Type 0 where
  pub ors : (t : Conj) (ts : List Conj)
      → r.condition (or_between t ts) ≡ disjunction (conds (map r.boolean_term (t ∷ ts)))
  pub ands : (f : Test) (fs : List Test)
      → r.boolean_term (and_between f fs) ≡ conjunction (conds (map r.boolean_factor (f ∷ fs)))
  -- a boolean factor is a boolean primary, with or without NOT
  pub without_not : (b : Body) → r.boolean_factor (record { negated = false; body = b }) ≡ r.boolean_primary b
  pub with_not : (b : Body)
      → r.boolean_factor (record { negated = true; body = b }) ≡ negated (r.boolean_primary b)
  -- brackets mean what is inside
  pub brackets : (c : SpelledCond) → r.boolean_primary (body.Bracketed c) ≡ r.condition c

-- ---- predicates (clause 8)

-- A predicate with NOT inside is the negation of the one without it.
pub record ReadsPredicates (r : Reading) : Type 0 where
  -- comparison, also with a subquery (8.2)
  pub comparisons : (left : SpelledExpr) (op : Comparison) (right : SpelledExpr)
      → r.boolean_primary (body.Predicate left (tail.Compare op right))
      ≡ compare op (r.expression left) (r.expression right)
  pub subqueries : (left : SpelledExpr) (op : Comparison) (q : QuerySpecification)
      → r.boolean_primary (body.Predicate left (tail.CompareQuery op None q))
      ≡ compare_subquery op (r.expression left) (r.query_specification q)
  -- ALL, ANY and SOME (8.7)
  pub quantified : (left : SpelledExpr) (op : Comparison) (k : Quantifier) (q : QuerySpecification)
      → r.boolean_primary (body.Predicate left (tail.CompareQuery op (Some k) q))
      ≡ compare_quantified op k (r.expression left) (r.query_specification q)
  -- BETWEEN (8.3)
  pub betweens : (left : SpelledExpr) (not : Bool) (low high : SpelledExpr)
      → r.boolean_primary (body.Predicate left (tail.Between not low high))
      ≡ not_if not (between (r.expression left) (r.expression low) (r.expression high))
  -- IN (8.4)
  pub in_subqueries : (left : SpelledExpr) (not : Bool) (q : QuerySpecification)
      → r.boolean_primary (body.Predicate left (tail.InQuery not q))
      ≡ not_if not (in_subquery (r.expression left) (r.query_specification q))
  pub in_lists : (left : SpelledExpr) (not : Bool) (values : CommaList SpelledExpr)
      → r.boolean_primary (body.Predicate left (tail.InList not values))
      ≡ not_if not (in_list (r.expression left) (map r.expression (listed values)))
  -- LIKE (8.5)
  pub likes : (left : SpelledExpr) (not : Bool) (pattern : SpelledExpr) (escape : Option SpelledExpr)
      → r.boolean_primary (body.Predicate left (tail.Like not pattern escape))
      ≡ not_if not (like (r.expression left) (r.expression pattern) (option_map r.expression escape))
  -- NULL (8.6)
  pub nulls : (left : SpelledExpr) (not : Bool)
      → r.boolean_primary (body.Predicate left (tail.Null not)) ≡ not_if not (is_null (r.expression left))
  -- EXISTS (8.8)
  pub existence : (q : QuerySpecification)
      → r.boolean_primary (body.Exists q) ≡ exists (r.query_specification q)

-- ---- queries (7.9 and 7.10)

-- FROM, and the clauses behind it (7.3 to 7.8)
abbrev pub table_expression : CommaList SpelledReference → Option SpelledCond
    → Option (CommaList ColumnReference) → Option SpelledCond → TableExpression
table_expression from searched grouped having =
    roll-TableExpression
    (record { from = from; where_clause = searched; group_by = grouped; having = having })

-- `SELECT [ ALL | DISTINCT ] list` before a table expression
abbrev pub select_from : Option SetQuantifier → SpelledList → TableExpression → QuerySpecification
select_from quantifier list table =
    roll-QuerySpecification (record { quantifier = quantifier; list = list; table = table })

-- a query term, and further ones with UNION or UNION ALL before each
abbrev pub union_of : QueryTerm → List UnionTerm → SpelledQuery
union_of first rest = roll-Query (record { first = first; rest = rest })

-- a user's texts: the user's own is the table that an unqualified name means (5.4)
pub record ReadsQueries (own : Name) (r : Reading) : Type 0 where
  -- a select list: `*`, or value expressions
  pub stars : r.select_list list.Star ≡ all_columns
  pub items : (l : CommaList SpelledExpr)
      → r.select_list (list.Items l) ≡ expressions (map r.expression (listed l))
  -- a query by its parts; a clause that is not written is absent
  pub selections : (quantifier : Option SetQuantifier) (list : SpelledList)
      (from : CommaList SpelledReference) (searched : Option SpelledCond)
      (grouped : Option (CommaList ColumnReference)) (having : Option SpelledCond)
      → r.selection quantifier list (table_expression from searched grouped having)
      ≡ select (is_distinct_word quantifier) (r.select_list list) (map (reference_of own) (listed from))
      (clause (option_map r.condition searched)) (listed_if_any grouped)
      (clause (option_map r.condition having))
  pub specifications : (quantifier : Option SetQuantifier) (list : SpelledList) (table : TableExpression)
      → r.query_specification (select_from quantifier list table) ≡ r.selection quantifier list table
  -- a query expression of one query term means the query term
  pub one_query_term : (t : QueryTerm) → r.query_expression (union_of t []) ≡ r.query_term t
  -- one that ends in UNION and a query term unites what stands before UNION with the query term
  pub last_query_term : (t : QueryTerm) (before : List UnionTerm) (all : Bool) (last : QueryTerm)
      → r.query_expression (union_of t (before ++ record { all = all; term = last } ∷ []))
      ≡ union all (r.query_expression (union_of t before)) (r.query_term last)
  -- a query term is a query specification, or what is inside its brackets
  pub alone : (q : QuerySpecification)
      → r.query_term (query_term.Specification q) ≡ specification (r.query_specification q)
  pub brackets : (q : SpelledQuery) → r.query_term (query_term.Bracketed q) ≡ r.query_expression q

-- ---- all of it

pub record Reads (own : Name) (r : Reading) : Type 0 where
  pub expressions : ReadsExpressions r
  pub conditions : ReadsConditions r
  pub predicates : ReadsPredicates r
  pub queries : ReadsQueries own r

-- how the definitions read a user's texts
abbrev pub reading_of : Name → Reading
reading_of own = record {
  expression = expr_of;
  term = term_of;
  factor = factor_of;
  primary = primary_of;
  condition = cond_of own;
  boolean_term = conj_of own;
  boolean_factor = test_of own;
  boolean_primary = body_of own;
  select_list = list_of;
  selection = select_of_parts own;
  query_specification = select_of own;
  query_expression = query_of own;
  query_term = query_term_of own;
}

-- The definitions read texts by these equations, and nothing else meets them.
pub record SpelledIsSpelling : Type 0 where
  pub meets : (own : Name) → Reads own (reading_of own)
  pub only : (own : Name) (r : Reading) → Reads own r → r ≡ reading_of own
