-- The bound forms of search conditions and query specifications, each defined by the other, since conditions have
-- subqueries (ISO/IEC 9075:1992, 7.3 to 7.9, 7.11 and clause 8).
use Rattle.std.specs.Prelude.{◌+◌, List, [], ◌∷◌, nat_eq, if◌then◌else◌, Option, Some, None, Ok}
use Rattle.sq_value.specs.declared.domain.Kind.{Kind}
use Rattle.sq_tree.specs.declared.cond.Quantifier.{Quantifier}
use Rattle.sq_tree.specs.declared.cond.Quantifier.TheVariants as quantifier
use Rattle.sq_meaning.specs.Spelled.{Named}
use Rattle.sq_meaning.specs.Syntax.{Expr, Cond, Conds, Clause, Select, compare, compare_subquery, compare_quantified, between, in_subquery, in_list, like, is_null, exists, negated, conjunction, disjunction, no_cond, a_cond, absent, present, select}
use Rattle.sq_meaning.specs.WellFormed.{is_comparable, is_text}
use Rattle.sq_meaning.specs.declared.fault.BindingFault.TheVariants as fault
use Rattle.sq_bound.specs.declared.condition.Compared.{Compared}
use Rattle.sq_bound.specs.declared.condition.Compared.TheVariants.{Scalar, All, Any}
use Rattle.sq_binding.specs.Found.{Binding, Found, ◌>>◌, ◌>>=◌, each, from_first, has_found, must, pure, refused}
use Rattle.sq_binding.specs.From.{from_bound, items_of, tables_of}
use Rattle.sq_binding.specs.Numbered.{Numbered}
use Rattle.sq_binding.specs.NumberedCondition.{NumberedClause, NumberedCond, NumberedConds, NumberedSelect, ResultColumn, columns_of, with_number}
use Rattle.sq_binding.specs.Outcome.{and_then}
use Rattle.sq_binding.specs.QueryFindings.{a_status, of_subquery}
use Rattle.sq_binding.specs.Select.{Surroundings, grouping_column, is_star, list_bound, of_groups, of_lines, specification, value}

-- ---- values that are compared (8.2 to 8.5)

-- both are numbers, or both are texts
abbrev pub must_agree : Kind → Kind → Binding (Unit {0})
must_agree k l = must (is_comparable k l) fault.KindMismatch

abbrev pub agreeing : Surroundings → Kind → Expr Named → Binding Numbered
agreeing a k e = do
  x ← value a e
  must_agree k x.kind
  pure x.tree

abbrev pub text : Surroundings → Expr Named → Binding Numbered
text a e = do
  x ← value a e
  must (is_text x.kind) fault.KindMismatch
  pure x.tree

-- with an escape character a pattern may be none, which is a status
abbrev pub escape_bound : Surroundings → Option (Expr Named) → Binding (Option Numbered)
escape_bound a None = pure None
escape_bound a (Some e) = do
  x ← text a e
  has_found a_status
  pure (Some x)

-- ---- subqueries (7.11)

-- a number for one that reads no column of a query around it
abbrev pub as_subquery : Found NumberedSelect → Found NumberedSelect
as_subquery x =
    if nat_eq x.findings.values.reach 0
    then record x {
      part = with_number (Some x.subqueries) x.part;
      findings = of_subquery x.findings;
      subqueries = x.subqueries + 1;
    }
    else record x { findings = of_subquery x.findings }

abbrev pub subquery : Binding NumberedSelect → Binding NumberedSelect
subquery q = λ counts. and_then (q counts) (λ x. Ok (as_subquery x))

-- a subquery that is compared with a value has one column, of a kind that agrees
abbrev pub must_be_beside : Kind → List ResultColumn → Binding (Unit {0})
must_be_beside k (column ∷ []) = must_agree k column.kind
must_be_beside k _ = refused fault.CountMismatch

abbrev pub beside : Kind → Binding NumberedSelect → Binding NumberedSelect
beside k q = do
  x ← subquery q
  must_be_beside k (columns_of x)
  pure x

-- a scalar subquery may have more than one row, which is a status
abbrev pub scalar : Kind → Binding NumberedSelect → Binding NumberedSelect
scalar k q = do
  x ← beside k q
  has_found a_status
  pure x

-- how a comparison has the values of its subquery: SOME and ANY are one (8.7)
abbrev pub compared_as : Quantifier → Compared
compared_as quantifier.All = All
compared_as quantifier.Any = Any
compared_as quantifier.Some = Any

-- ---- tests (8.12)

abbrev pub noted : Found NumberedCond → Found NumberedCond
noted x = record x { part = NumberedCond.noted x.findings.values.items x.findings.values.can_fail x.part }

abbrev pub test : Binding NumberedCond → Binding NumberedCond
test c = λ counts. and_then (c counts) (λ x. Ok (noted x))

-- ---- search conditions and query specifications

abbrev mutual
  pub cond_bound : Surroundings → Cond Named → Binding NumberedCond
  cond_bound a (compare op e f) = do
    x ← value a e
    y ← agreeing a x.kind f
    pure (NumberedCond.compare op x.tree y)
  cond_bound a (compare_subquery op e q) = do
    x ← value a e
    y ← scalar x.kind (select_bound a q)
    pure (NumberedCond.compare_query Scalar op x.tree y)
  cond_bound a (compare_quantified op k e q) = do
    x ← value a e
    y ← beside x.kind (select_bound a q)
    pure (NumberedCond.compare_query (compared_as k) op x.tree y)
  cond_bound a (between e low high) = do
    x ← value a e
    y ← agreeing a x.kind low
    z ← agreeing a x.kind high
    pure (NumberedCond.between x.tree y z)
  cond_bound a (in_subquery e q) = do
    x ← value a e
    y ← beside x.kind (select_bound a q)
    pure (NumberedCond.in_query x.tree y)
  cond_bound a (in_list e es) = do
    x ← value a e
    ys ← each (agreeing a x.kind) es
    pure (NumberedCond.in_list x.tree ys)
  cond_bound a (like e pattern escape) = do
    x ← text a e
    y ← text a pattern
    z ← escape_bound a escape
    pure (NumberedCond.like x y z)
  cond_bound a (is_null e) = value a e >>= λ x. pure (NumberedCond.is_null x.tree)
  cond_bound a (exists q) = subquery (select_bound a q) >>= λ y. pure (NumberedCond.exists y)
  cond_bound a (negated c) = cond_bound a c >>= λ x. pure (NumberedCond.negated x)
  cond_bound a (conjunction cs) = tests_bound a cs >>= λ xs. pure (NumberedCond.conjunction xs)
  cond_bound a (disjunction cs) = terms_bound a cs >>= λ xs. pure (NumberedCond.disjunction xs)

  -- each test of a term
  pub tests_bound : Surroundings → Conds Named → Binding NumberedConds
  tests_bound a no_cond = pure NumberedConds.no_cond
  tests_bound a (a_cond c cs) = do
    x ← test (cond_bound a c)
    xs ← tests_bound a cs
    pure (NumberedConds.a_cond x xs)

  -- each term of a condition
  pub terms_bound : Surroundings → Conds Named → Binding NumberedConds
  terms_bound a no_cond = pure NumberedConds.no_cond
  terms_bound a (a_cond c cs) = do
    x ← cond_bound a c
    xs ← terms_bound a cs
    pure (NumberedConds.a_cond x xs)

  pub clause_bound : Surroundings → Clause Named → Binding NumberedClause
  clause_bound a absent = pure NumberedClause.absent
  clause_bound a (present c) = cond_bound a c >>= λ x. pure (NumberedClause.present x)

  -- all parts are read in this order
  pub select_bound : Surroundings → Select Named → Binding NumberedSelect
  select_bound a (select distinct list from filter by having) = specification (is_star list) do
    items ← from_bound a.names from
    kept ← from_first (clause_bound (of_lines (items_of items) a) filter)
    columns ← each (grouping_column (of_lines (items_of items) a)) by
    shown ← list_bound (of_groups (items_of items) columns a) (items_of items) list
    groups ← clause_bound (of_groups (items_of items) columns a) having
    pure (record {
      distinct = distinct;
      from = tables_of items;
      filter = kept;
      by = columns;
      shown = shown;
      having = groups;
    })
