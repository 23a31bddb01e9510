-- Query expressions are bound to the same with their columns, parameters and tables placed (ISO/IEC 9075:1992, 7.10), in the order that
-- the sort specifications name (13.1). So are the conditions on the rows of a table that is changed.
use Rattle.std.proofs.Common.{◌≡◌, ℕ, Bool, List, [], ◌∷◌, length, Option, Ok, Err, ap, ◌∙◌}
use Rattle.std.specs.List.{zip}
use Rattle.std.specs.Prelude.{◌==◌}
use Rattle.std.specs.Result.{result_ok}
use Rattle.sq_lex.specs.declared.name.Name.{Name}
use Rattle.sq_tree.specs.declared.«module».SortSpecification.{SortSpecification}
use Rattle.sq_meaning.specs.Kind.{common_kind}
use Rattle.sq_meaning.specs.Rows.{SortColumn}
use Rattle.sq_meaning.specs.SortKeys.{common_name, goes_down, key_column, sort_columns}
use Rattle.sq_meaning.specs.Spelled.{Named}
use Rattle.sq_meaning.specs.Status as status
use Rattle.sq_meaning.specs.Syntax.{Clause, Query, specification, union}
use Rattle.sq_meaning.specs.declared.fault.BindingFault.TheVariants as fault
use Rattle.sq_bound.specs.Condition.{PlacedClause}
use Rattle.sq_bound.specs.Expression.{PlacedExpr}
use Rattle.sq_bound.specs.Query.{PlacedQuery}
use Rattle.sq_binding.specs.Changeable.{ChangedTable, condition_bound, item_at_leaf}
use Rattle.sq_binding.specs.Condition.{clause_bound, select_bound}
use Rattle.sq_binding.specs.Cursor.{sorted_bound}
use Rattle.sq_binding.specs.Found.{Binding, ◌>>=◌, each, must, outcome, pure}
use Rattle.sq_binding.specs.NumberedCondition.{NumberedClause, ResultColumn, clause_of, select_of}
use Rattle.sq_binding.specs.Order.{names_of, order_bound, sort_column_bound}
use Rattle.sq_binding.specs.Outcome.{and_then, or_fault}
use Rattle.sq_binding.specs.PlacedQuery.{clause_placed, select_placed}
use Rattle.sq_binding.specs.PlacedUnion.{query_placed}
use Rattle.sq_binding.specs.QueryExpression.{NumberedQuery, columns_of_query, common_column, common_columns, query_bound, query_of}
use Rattle.sq_binding.specs.Select.{Surroundings, of_lines}
use Rattle.sq_binding.proofs.Faultless.Clean.{steps_of}
use Rattle.sq_binding.proofs.Inductions.Parts.{Anything, Binds, from_first_binds, must_binds, one_binds, outcome_binds, pure_binds, then_any, then_binds}
use Rattle.sq_binding.proofs.Placing.PlacedParts.{SelectIs, around}
use Rattle.sq_binding.proofs.Placing.PlacedQuery.{clause_is_placed, select_is_placed}
use Rattle.sq_binding.proofs.Inductions.Steps.{one_step, two_steps}

-- ---- UNION

module _ (allowed : Bool) where
  pub each_any : {A B : Type 0} (f : A → Binding B) → ((x : A) → Binds allowed Anything (f x)) → (xs : List A) → Binds allowed Anything (each f xs)
  each_any {A} {B} f h [] = pure_binds {A = List B} allowed Anything [] (λ functions. tt)
  each_any {A} {B} f h (x ∷ xs) =
      then_any allowed Anything (f x) (λ y. each f xs >>= λ ys. pure (y ∷ ys)) (h x)
      (λ y. then_any allowed Anything (each f xs) (λ ys. pure (y ∷ ys)) (each_any f h xs) (λ ys. pure_binds {A = List B} allowed Anything (y ∷ ys) (λ functions. tt)))

  column_binds : (c : ResultColumn × ResultColumn) → Binds allowed Anything (common_column c)
  column_binds c =
      then_any allowed Anything (outcome (or_fault fault.KindMismatch (result_ok (common_kind c.0.kind c.1.kind)))) (λ kind. pure (record { name = common_name c.0.name c.1.name; kind = kind }))
      (outcome_binds allowed Anything (or_fault fault.KindMismatch (result_ok (common_kind c.0.kind c.1.kind))) (λ kind is functions. tt))
      (λ kind. pure_binds {A = ResultColumn} allowed Anything (record { name = common_name c.0.name c.1.name; kind = kind }) (λ functions. tt))

  columns_bind : (left right : List ResultColumn) → Binds allowed Anything (common_columns left right)
  columns_bind left right =
      then_any allowed Anything (must (length left == length right) fault.CountMismatch) (λ _. each common_column (zip left right)) (must_binds allowed (length left == length right) fault.CountMismatch)
      (λ _. each_any common_column column_binds (zip left right))

abbrev pub QueryIs : status.Outcome PlacedQuery → List PlacedExpr → NumberedQuery → Type 0
QueryIs placed functions q = placed ≡ Ok (query_of q)

pub query_is_placed : (q : Query Named) (a : Surroundings) → Binds a.functions_allowed (QueryIs (query_placed (around a) q)) (query_bound a q)
query_is_placed (specification s) a =
    one_binds a.functions_allowed (SelectIs (select_placed (around a) s)) (QueryIs (query_placed (around a) (specification s))) (select_bound a s) (λ x. NumberedQuery.select x) (select_is_placed s a)
    (λ functions x p. one_step specification (select_placed (around a) s) (select_of x) p)
query_is_placed (union all left right) a =
    then_binds a.functions_allowed (QueryIs (query_placed (around a) left)) (QueryIs (query_placed (around a) (union all left right))) (query_bound a left)
    (λ x. query_bound a right >>= λ y. common_columns (columns_of_query x) (columns_of_query y) >>= λ columns. pure (NumberedQuery.joined all x y columns)) (query_is_placed left a)
    (λ x.
    then_binds a.functions_allowed (QueryIs (query_placed (around a) right)) (λ functions z. QueryIs (query_placed (around a) left) functions x → QueryIs (query_placed (around a) (union all left right)) functions z) (query_bound a right)
    (λ y. common_columns (columns_of_query x) (columns_of_query y) >>= λ columns. pure (NumberedQuery.joined all x y columns)) (query_is_placed right a)
    (λ y.
    then_any a.functions_allowed
    (λ functions z. QueryIs (query_placed (around a) right) functions y → QueryIs (query_placed (around a) left) functions x → QueryIs (query_placed (around a) (union all left right)) functions z)
    (common_columns (columns_of_query x) (columns_of_query y)) (λ columns. pure (NumberedQuery.joined all x y columns)) (columns_bind a.functions_allowed (columns_of_query x) (columns_of_query y))
    (λ columns.
    pure_binds a.functions_allowed
    (λ functions z. QueryIs (query_placed (around a) right) functions y → QueryIs (query_placed (around a) left) functions x → QueryIs (query_placed (around a) (union all left right)) functions z)
    (NumberedQuery.joined all x y columns) (λ functions p q. two_steps (union all) (query_placed (around a) left) (query_placed (around a) right) (query_of x) (query_of y) q p))))

-- ---- ORDER BY

sort_is_meant : (s : SortSpecification) (column : SortColumn) (o : status.Outcome ℕ) → and_then (or_fault fault.BadSortKey (result_ok o)) (λ k. Ok (record { column = k; descending = goes_down s.direction })) ≡ Ok column
    → status.and_then o (λ k. Ok (record { column = k; descending = goes_down s.direction })) ≡ Ok column
sort_is_meant s column (Ok k) is = let same : record { column = k; descending = goes_down s.direction } ≡ column = cc in ap Ok same
sort_is_meant s column (Err e) is = cc

pub order_is_meant : (names : List (Option Name)) (order : List SortSpecification) (columns : List SortColumn) → order_bound names order ≡ Ok columns → sort_columns names order ≡ Ok columns
order_is_meant names [] columns is = let same : [] ≡ columns = cc in ap Ok same
order_is_meant names (s ∷ order) columns is =
    let first = steps_of (sort_column_bound names s) (λ c. and_then (order_bound names order) (λ cs. Ok (c ∷ cs))) columns is in
    let rest = steps_of (order_bound names order) (λ cs. Ok (first.step ∷ cs)) columns first.second in
    let made = rest.second in
    let same : first.step ∷ rest.step ≡ columns = cc in
    two_steps (λ (c : SortColumn) cs. c ∷ cs) (status.and_then (key_column names s.key) (λ k. Ok (record { column = k; descending = goes_down s.direction }))) (sort_columns names order) first.step rest.step
    (sort_is_meant s first.step (key_column names s.key) first.first) (order_is_meant names order rest.step rest.first)
    ∙ ap Ok same

-- the query, and the columns that it is sorted by
abbrev pub SortedIs : Surroundings → Query Named → List SortSpecification → List PlacedExpr → NumberedQuery × List SortColumn → Type 0
SortedIs a q order functions x = (query_placed (around a) q ≡ Ok (query_of x.0)) × (sort_columns (names_of (columns_of_query x.0)) order ≡ Ok x.1)

pub sorted_is_placed : (a : Surroundings) (q : Query Named) (order : List SortSpecification) → Binds a.functions_allowed (SortedIs a q order) (sorted_bound a q order)
sorted_is_placed a q order =
    then_binds a.functions_allowed (QueryIs (query_placed (around a) q)) (SortedIs a q order) (query_bound a q) (λ x. outcome (order_bound (names_of (columns_of_query x)) order) >>= λ by. pure (x, by)) (query_is_placed q a)
    (λ x.
    then_binds a.functions_allowed (λ functions by. sort_columns (names_of (columns_of_query x)) order ≡ Ok by) (λ functions z. QueryIs (query_placed (around a) q) functions x → SortedIs a q order functions z)
    (outcome (order_bound (names_of (columns_of_query x)) order)) (λ by. pure (x, by))
    (outcome_binds a.functions_allowed (λ functions by. sort_columns (names_of (columns_of_query x)) order ≡ Ok by) (order_bound (names_of (columns_of_query x)) order)
    (λ by is functions. order_is_meant (names_of (columns_of_query x)) order by is))
    (λ by.
    pure_binds a.functions_allowed (λ functions z. sort_columns (names_of (columns_of_query x)) order ≡ Ok by → QueryIs (query_placed (around a) q) functions x → SortedIs a q order functions z) (x, by)
    (λ functions by_these placed. (placed, by_these))))

-- ---- conditions on rows of a base table

abbrev pub ConditionIs : status.Outcome PlacedClause → List PlacedExpr → NumberedClause → Type 0
ConditionIs placed functions c = placed ≡ Ok (clause_of [] c)

pub condition_is_placed : (a : Surroundings) (allowed : Bool) (t : ChangedTable) (c : Clause Named) → Binds allowed (ConditionIs (clause_placed (around (of_lines (item_at_leaf t ∷ []) a)) c)) (condition_bound a t c)
condition_is_placed a allowed t c =
    from_first_binds allowed (λ functions x. clause_placed (around (of_lines (item_at_leaf t ∷ []) a)) c ≡ Ok (clause_of functions x)) (clause_bound (of_lines (item_at_leaf t ∷ []) a) c)
    (clause_is_placed c (of_lines (item_at_leaf t ∷ []) a))
