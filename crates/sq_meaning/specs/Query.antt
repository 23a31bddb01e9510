-- The truth of a search condition (ISO/IEC 9075:1992, clause 8) and the rows of a query specification (7.9), each by
-- the other: conditions have subqueries. Each phase of a query is whole before the next, and the first status met is
-- the outcome.
use Rattle.std.specs.Prelude.{Bool, true, false, if◌then◌else◌, ◌||◌, List, [], ◌∷◌, ◌++◌, map, fold, Option, Some, None, Ok, Err}
use Rattle.std.specs.List.{flat_map}
use Rattle.std.specs.declared.cmp.Ordering.{Ordering}
use Rattle.std.specs.Ordering.{is_eq, is_ne, is_lt, is_gt, is_le, is_ge}
use Rattle.sq_value.specs.Comparison.{values_compared}
use Rattle.sq_value.specs.SetFunctions.{is_null as is_null_value}
use Rattle.sq_value.specs.Pattern.{liked}
use Rattle.sq_value.specs.Truth.{both, either, negation, known}
use Rattle.sq_value.specs.declared.truth.Truth.{Truth}
use Rattle.sq_value.specs.declared.truth.Truth.TheVariants.{False, Unknown, True}
use Rattle.sq_value.specs.declared.value.Value.{Value}
use Rattle.sq_value.specs.declared.value.Value.TheVariants.{Null}
use Rattle.sq_tree.specs.declared.cond.Comparison.{Comparison}
use Rattle.sq_tree.specs.declared.cond.Comparison.TheVariants.{Equal, NotEqual, Less, Greater, LessOrEqual, GreaterOrEqual}
use Rattle.sq_tree.specs.declared.cond.Quantifier.{Quantifier}
use Rattle.sq_tree.specs.declared.cond.Quantifier.TheVariants as quantifier
use Rattle.sq_meaning.specs.Status.{Outcome, ◌>>=◌, each, kept, with_status, like_status}
use Rattle.sq_meaning.specs.declared.status.Status.TheVariants.{CardinalityViolation}
use Rattle.sq_meaning.specs.Syntax.{Naming, Expr, SelectList, all_columns, expressions, Cond, Conds, Clause, Select, compare, compare_subquery, compare_quantified, between, in_subquery, in_list, like, is_null, exists, negated, conjunction, disjunction, no_cond, a_cond, absent, present, select}
use Rattle.sq_meaning.specs.Environment.{Row, Line, Scope, Env, within, alone, items_in, value_at}
use Rattle.sq_meaning.specs.Expression.{Reading, value, set_functions, of_nearest}
use Rattle.sq_meaning.specs.Rows.{product, firsts, classes, same_row}

-- ---- comparison (8.2)

abbrev pub comparison_holds : Comparison → Ordering → Bool
comparison_holds Equal = is_eq
comparison_holds NotEqual = is_ne
comparison_holds Less = is_lt
comparison_holds Greater = is_gt
comparison_holds LessOrEqual = is_le
comparison_holds GreaterOrEqual = is_ge

-- unknown if a value is null
abbrev pub truth_of_ordering : Comparison → Option Ordering → Truth
truth_of_ordering op None = Unknown
truth_of_ordering op (Some o) = known (comparison_holds op o)

abbrev pub comparison : Comparison → Value → Value → Truth
comparison op x y = truth_of_ordering op (values_compared x y)

abbrev pub compared : {N : Naming} → Reading N → Comparison → Expr N → Expr N → Env N.Item → Outcome Truth
compared m op a b env = value m a env >>= λ x. value m b env >>= λ y. Ok (comparison op x y)

-- ---- AND and OR (8.12): AND stops at false, OR at true (own rule)

abbrev pub and_also : Outcome Truth → Outcome Truth → Outcome Truth
and_also (Err status) right = Err status
and_also (Ok False) right = Ok False
and_also (Ok left) right = right >>= λ t. Ok (both left t)

abbrev pub or_else : Outcome Truth → Outcome Truth → Outcome Truth
or_else (Err status) right = Err status
or_else (Ok True) right = Ok True
or_else (Ok left) right = right >>= λ t. Ok (either left t)

-- a list after IN is as if its comparisons were joined by OR (8.4)
abbrev pub any_in_turn : {A : Type 0} → (A → Outcome Truth) → List A → Outcome Truth
any_in_turn test [] = Ok False
any_in_turn test (x ∷ xs) = or_else (test x) (any_in_turn test xs)

-- ---- subqueries (7.11, 8.7)

-- the value in a row of one column
abbrev pub first_value : Row → Value
first_value [] = Null
first_value (v ∷ vs) = v

-- a scalar subquery is null if it has no row
abbrev pub only_value : List Row → Outcome Value
only_value [] = Ok Null
only_value (r ∷ []) = Ok (first_value r)
only_value (r ∷ s ∷ rows) = Err CardinalityViolation

-- ALL is true on no rows, ANY and SOME are false
abbrev pub quantified : Quantifier → List Truth → Truth
quantified quantifier.All truths = fold both True truths
quantified quantifier.Any truths = fold either False truths
quantified quantifier.Some truths = fold either False truths

abbrev pub compared_with_rows : Comparison → Quantifier → Value → List Row → Truth
compared_with_rows op q x rows = quantified q (map (λ row. comparison op x (first_value row)) rows)

abbrev pub has_rows : List Row → Bool
has_rows [] = false
has_rows (r ∷ rows) = true

-- ---- LIKE (8.5)

abbrev pub like_truth : {N : Naming} → Reading N → Expr N → Expr N → Option (Expr N) → Env N.Item
    → Outcome Truth
like_truth m text pattern None env =
    value m text env >>= λ t. value m pattern env >>= λ p. with_status like_status (liked t p None)
like_truth m text pattern (Some escape) env =
    value m text env
    >>= λ t. value m pattern env
    >>= λ p. value m escape env
    >>= λ e. with_status like_status (liked t p (Some e))

-- ---- the set functions of a condition, in the order of the text; a subquery's are its own

abbrev pub escape_functions : {N : Naming} → Option (Expr N) → List (Expr N)
escape_functions None = []
escape_functions (Some e) = set_functions e

abbrev mutual
  pub cond_functions : {N : Naming} → Cond N → List (Expr N)
  cond_functions (compare op a b) = set_functions a ++ set_functions b
  cond_functions (compare_subquery op a q) = set_functions a
  cond_functions (compare_quantified op k a q) = set_functions a
  cond_functions (between a low high) = set_functions a ++ set_functions low ++ set_functions high
  cond_functions (in_subquery a q) = set_functions a
  cond_functions (in_list a es) = set_functions a ++ flat_map set_functions es
  cond_functions (like text pattern escape) =
      set_functions text ++ set_functions pattern ++ escape_functions escape
  cond_functions (is_null a) = set_functions a
  cond_functions (exists q) = []
  cond_functions (negated c) = cond_functions c
  cond_functions (conjunction cs) = conds_functions cs
  cond_functions (disjunction cs) = conds_functions cs

  pub conds_functions : {N : Naming} → Conds N → List (Expr N)
  conds_functions no_cond = []
  conds_functions (a_cond c cs) = cond_functions c ++ conds_functions cs

abbrev pub list_functions : {N : Naming} → SelectList N → List (Expr N)
list_functions all_columns = []
list_functions (expressions es) = flat_map set_functions es

abbrev pub clause_functions : {N : Naming} → Clause N → List (Expr N)
clause_functions absent = []
clause_functions (present c) = cond_functions c

-- ---- grouping (7.7)

abbrev pub is_some_of : {A : Type 0} → List A → Bool
is_some_of [] = false
is_some_of (x ∷ xs) = true

abbrev pub is_present : {N : Naming} → Clause N → Bool
is_present absent = false
is_present (present c) = true

-- a query specification is grouped by GROUP BY, by HAVING, or by a set function in its select list
abbrev pub is_grouped : {N : Naming} → SelectList N → List N.Column → Clause N → Bool
is_grouped list by having = is_some_of by || is_present having || is_some_of (list_functions list)

abbrev pub first_line : List Line → Line
first_line [] = []
first_line (line ∷ lines) = line

abbrev pub group_scope : {H : Type 0} → List H → List Line → Scope H
group_scope items group = record { items = items; line = first_line group; group = group }

-- the values of the grouping columns in a line
abbrev pub grouping_values : {N : Naming} → Reading N → List N.Column → Env N.Item → Outcome Row
grouping_values m by env = each (λ c. m.place c (items_in env) >>= value_at env) by

-- the groups by first occurrence; without GROUP BY there is one, even of no rows
abbrev pub grouped : List (Row × Line) → List (List Line)
grouped keyed = map (map (λ k. k.1)) (classes (λ a b. same_row a.0 b.0) keyed)

abbrev pub groups_by : {N : Naming} → Reading N → List N.Column → List N.Item → List Line → Env N.Item
    → Outcome (List (List Line))
groups_by m [] heads lines env = Ok (lines ∷ [])
groups_by m (c ∷ by) heads lines env = do
  keyed ← each (λ line. grouping_values m (c ∷ by) (within (alone heads line) env)
      >>= λ key. Ok (key, line)) lines
  Ok (grouped keyed)

-- the groups, with all set functions computed once, group by group, for their statuses
abbrev pub group_scopes : {N : Naming} → Reading N → List (Expr N) → List N.Column → List N.Item → List Line
    → Env N.Item → Outcome (List (Scope N.Item))
group_scopes m functions by heads lines env = do
  groups ← groups_by m by heads lines env
  _ ← each (λ group. each (λ f. value m f (within (group_scope heads group) env)) functions) groups
  Ok (map (group_scope heads) groups)

-- the scopes of the select list: each line or, in a grouped query specification, each group
abbrev pub scopes_of : {N : Naming} → Reading N → SelectList N → List N.Column → Clause N → List N.Item
    → List Line → Env N.Item → Outcome (List (Scope N.Item))
scopes_of m list by having heads lines env =
    if is_grouped list by having
    then group_scopes m (list_functions list ++ clause_functions having) by heads lines env
    else Ok (map (alone heads) lines)

-- ---- the select list (7.9)

-- `*` means all columns of all items
abbrev pub listed_values : {N : Naming} → Reading N → SelectList N → Env N.Item → Outcome Row
listed_values m all_columns env = of_nearest env (λ scope outer. Ok (flat_map (λ row. row) scope.line))
listed_values m (expressions es) env = each (λ e. value m e env) es

-- ---- conditions and query specifications

abbrev pub is_true : Outcome Truth → Outcome Bool
is_true (Ok True) = Ok true
is_true (Ok Unknown) = Ok false
is_true (Ok False) = Ok false
is_true (Err status) = Err status

abbrev mutual
  pub truth : {N : Naming} → Reading N → Cond N → Env N.Item → Outcome Truth
  truth m (compare op a b) env = compared m op a b env
  truth m (compare_subquery op a q) env =
      value m a env >>= λ x. rows m q env >>= λ rs. only_value rs >>= λ y. Ok (comparison op x y)
  truth m (compare_quantified op k a q) env =
      value m a env >>= λ x. rows m q env >>= λ rs. Ok (compared_with_rows op k x rs)
  truth m (between a low high) env =
      and_also (compared m GreaterOrEqual a low env) (compared m LessOrEqual a high env)
  truth m (in_subquery a q) env =
      value m a env >>= λ x. rows m q env >>= λ rs. Ok (compared_with_rows Equal quantifier.Any x rs)
  truth m (in_list a es) env = any_in_turn (λ e. compared m Equal a e env) es
  truth m (like text pattern escape) env = like_truth m text pattern escape env
  truth m (is_null a) env = value m a env >>= λ x. Ok (known (is_null_value x))
  truth m (exists q) env = rows m q env >>= λ rs. Ok (known (has_rows rs))
  truth m (negated c) env = truth m c env >>= λ t. Ok (negation t)
  truth m (conjunction cs) env = all_truth m cs env
  truth m (disjunction cs) env = any_truth m cs env

  pub all_truth : {N : Naming} → Reading N → Conds N → Env N.Item → Outcome Truth
  all_truth m no_cond env = Ok True
  all_truth m (a_cond c cs) env = and_also (truth m c env) (all_truth m cs env)

  pub any_truth : {N : Naming} → Reading N → Conds N → Env N.Item → Outcome Truth
  any_truth m no_cond env = Ok False
  any_truth m (a_cond c cs) env = or_else (truth m c env) (any_truth m cs env)

  -- a clause that is not written keeps all
  pub clause_truth : {N : Naming} → Reading N → Clause N → Env N.Item → Outcome Truth
  clause_truth m absent env = Ok True
  clause_truth m (present c) env = truth m c env

  -- The rows of each item of FROM, their product, WHERE over all lines, and grouping with all set functions. Then
  -- HAVING over all groups, the select list over all that is left, and with DISTINCT each row at its first
  -- occurrence.
  pub rows : {N : Naming} → Reading N → Select N → Env N.Item → Outcome (List Row)
  rows m (select distinct list from filter by having) env = do
    heads ← each m.item from
    tables ← each m.rows from
    lines ← kept (λ line. is_true (clause_truth m filter (within (alone heads line) env))) (product tables)
    scopes ← scopes_of m list by having heads lines env
    left ← kept (λ scope. is_true (clause_truth m having (within scope env))) scopes
    shown ← each (λ scope. listed_values m list (within scope env)) left
    Ok (if distinct then firsts same_row shown else shown)
