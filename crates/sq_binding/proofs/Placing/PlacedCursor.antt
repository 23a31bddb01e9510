-- A cursor is bound to its query with columns, parameters and tables placed, in the order of its ORDER BY. An updatable one has the rows of
-- a base table that meet its condition (ISO/IEC 9075:1992, 7.9 and 13.1).
use Rattle.std.proofs.Common.{◌≡◌, ℕ, Bool, true, false, not, List, [], ◌∷◌, Option, Some, None, Ok, refl, ap, subst, ◌∙◌}
use Rattle.std.specs.Option.{option_and_then}
use Rattle.std.specs.Prelude.{⊤, ◌&&◌, is_none, if◌then◌else◌}
use Rattle.sq_tree.specs.declared.list.CommaList.{CommaList}
use Rattle.sq_tree.specs.declared.«module».Cursor.{Cursor}
use Rattle.sq_tree.specs.declared.«module».SortSpecification.{SortSpecification}
use Rattle.sq_meaning.specs.Rows.{SortColumn}
use Rattle.sq_meaning.specs.SortKeys.{sort_columns}
use Rattle.sq_meaning.specs.Spelled as spelled
use Rattle.sq_meaning.specs.Spelled.{Named, listed_if_any}
use Rattle.sq_meaning.specs.Syntax.{Query, Select, specification, union}
use Rattle.sq_meaning.specs.Tables.{Declared}
use Rattle.sq_meaning.specs.WellFormedStatement.{is_plain, only_specification}
use Rattle.sq_meaning.specs.declared.fault.BindingFault.TheVariants as fault
use Rattle.sq_binding.specs.Changeable.{ChangedTable, NumberedUpdatable, UserNames, columns_shown, condition_bound, filter_of, from_of, has_plain_rows, item_at_leaf, list_of, made, may_be_changed, only_one, only_table, outside, shown_of, target_over, updatable_bound, updatable_over, updatable_where}
use Rattle.sq_binding.specs.Condition.{select_bound}
use Rattle.sq_binding.specs.Cursor.{NumberedCursor, NumberedRows, behind, cursor_bound, cursor_of, cursor_over, select_cursor, sorted_bound, sorted_cursor}
use Rattle.sq_binding.specs.Found.{Counts, Found}
use Rattle.sq_binding.specs.NumberedCondition.{NumberedClause, NumberedSelect, clause_of, columns_of, select_of}
use Rattle.sq_binding.specs.Order.{names_of}
use Rattle.sq_binding.specs.Outcome.{and_then}
use Rattle.sq_binding.specs.PlacedQuery.{clause_placed, select_placed}
use Rattle.sq_binding.specs.PlacedUnion.{query_placed}
use Rattle.sq_binding.specs.QueryExpression.{NumberedQuery, columns_of_query, query_of}
use Rattle.sq_binding.specs.QueryFindings.{nothing}
use Rattle.sq_binding.specs.Select.{Surroundings, of_lines}
use Rattle.sq_binding.specs.Whole.{at_first, permitted, whole}
use Rattle.sq_binding.proofs.Faultless.Clean.{steps_of}
use Rattle.sq_binding.proofs.Faultless.CleanExprs.{if_ok}
use Rattle.sq_binding.proofs.Inductions.Parts.{IfFound, IsPart, whole_part}
use Rattle.sq_binding.proofs.Placing.PlacedParts.{SelectIs, around}
use Rattle.sq_binding.proofs.Placing.PlacedQuery.{select_is_placed}
use Rattle.sq_binding.proofs.Placing.PlacedUnion.{ConditionIs, SortedIs, condition_is_placed, sorted_is_placed}
use Rattle.sq_binding.proofs.Inductions.Steps.{one_step}

permitted_is : {A : Type 0} (x : Found A) (y : A) → permitted x ≡ Ok y → x.part ≡ y
permitted_is x y is = let e = (if_ok x.findings.lacks_privilege fault.PrivilegeMissing (Ok x.part) y is).1 in let same : x.part ≡ y = cc in same

if_some : {A : Type 0} (test : Bool) (o : Option A) (x : A) → (if test then o else None) ≡ Some x → (test ≡ true) × (o ≡ Some x)
if_some true o x e = (refl, e)
if_some false o x e = cc

-- The query specification, placed, is that of one table that may be changed, and shows columns of it; its rows are those of the base table
-- that meet its condition.
pub record IsUpdatable (names : UserNames) (a : Surroundings) (q : Select Named) (s : NumberedSelect) (u : NumberedUpdatable) : Type 0 where
  pub changed : ChangedTable
  pub is_only : option_and_then (may_be_changed names) (only_one (from_of q)) ≡ Some changed
  pub table : u.table ≡ changed.reference.table
  pub place : u.target.table ≡ changed.table.place
  pub leaf : u.target.leaf ≡ changed.under.leaf
  pub condition : clause_placed (around (of_lines (item_at_leaf changed ∷ []) a)) (filter_of q) ≡ Ok (clause_of [] u.target.condition)
  pub columns : columns_shown changed.under (list_of q) (shown_of s) ≡ Some u.columns

pub record HasRowsUnder (names : UserNames) (a : Surroundings) (query : Query Named) (u : NumberedUpdatable) : Type 0 where
  pub text : Select Named
  pub is_text : query ≡ specification text
  pub shown : NumberedSelect
  pub is_placed : select_placed (around a) text ≡ Ok (select_of shown)
  pub rows : IsUpdatable names a text shown u

abbrev pub HasRows : UserNames → Surroundings → Cursor → Query Named → NumberedRows → Type 0
HasRows names a c query (NumberedRows.sorted q order) = (query_placed (around a) query ≡ Ok (query_of q)) × (sort_columns (names_of (columns_of_query q)) (listed_if_any c.order_by) ≡ Ok order)
HasRows names a c query (NumberedRows.updatable u) = HasRowsUnder names a query u

-- ---- updatable query specifications

abbrev pub IfAny : UserNames → Surroundings → Select Named → NumberedSelect → Option NumberedUpdatable → Type 0
IfAny names a q s (Some u) = IsUpdatable names a q s u
IfAny names a q s None = ⊤

module _ (names : UserNames) (a : Surroundings) (q : Select Named) (s : NumberedSelect) where
  shown_or_not : (t : ChangedTable) → option_and_then (may_be_changed names) (only_one (from_of q)) ≡ Some t → (x : Found NumberedClause)
      → clause_placed (around (of_lines (item_at_leaf t ∷ []) a)) (filter_of q) ≡ Ok (clause_of [] x.part) → (columns : Option (List ℕ)) → columns_shown t.under (list_of q) (shown_of s) ≡ columns → IfAny names a q s (updatable_where t columns x)
  shown_or_not t only x placed None is = tt
  shown_or_not t only x placed (Some columns) is = by x.findings.has_subquery
    where
      by : (b : Bool) → IfAny names a q s (if b then None else Some (record { table = t.reference.table; target = target_over t x.part; columns = columns }))
      by true = tt
      by false = record { changed = t; is_only = only; table = refl; place = refl; leaf = refl; condition = placed; columns = is }

  pub over_placed : (o : Option ChangedTable) → only_table names q s ≡ o → (n : ℕ) (z : Found (Option NumberedUpdatable)) → updatable_over a q s o (record { functions = 0; subqueries = n }) ≡ Ok z → IfAny names a q s z.part
  over_placed None e n z is =
      let plain : Found (Option NumberedUpdatable) = record { part = None; calls = []; calls_can_fail = false; findings = nothing; subqueries = n } in
      let same : plain ≡ z = cc in
      subst (λ (z : Found (Option NumberedUpdatable)). IfAny names a q s z.part) same tt
  over_placed (Some t) e n z is =
      let counts : Counts = record { functions = 0; subqueries = n } in
      let placed = clause_placed (around (of_lines (item_at_leaf t ∷ []) a)) (filter_of q) in
      let st = steps_of (condition_bound a t (filter_of q) counts) (λ x. Ok (made (updatable_where t (columns_shown t.under (list_of q) (shown_of s))) x)) z is in
      let part = subst (IfFound (IsPart true counts (ConditionIs placed))) st.first (condition_is_placed a true t (filter_of q) counts) in
      let over = st.second in
      let same : made (updatable_where t (columns_shown t.under (list_of q) (shown_of s))) st.step ≡ z = cc in
      subst (λ (z : Found (Option NumberedUpdatable)). IfAny names a q s z.part) same
      (shown_or_not t (if_some (has_plain_rows s) (option_and_then (may_be_changed names) (only_one (from_of q))) t e).1 st.step (whole_part true counts (ConditionIs placed) st.step part) (columns_shown t.under (list_of q) (shown_of s)) refl)

-- ---- cursors

order_none : (insensitive scroll : Bool) (order : Option (CommaList SortSpecification)) → (not insensitive && not scroll && is_none order) ≡ true → listed_if_any order ≡ []
order_none true scroll order e = cc
order_none false true order e = cc
order_none false false None e = refl
order_none false false (Some order) e = cc

module _ (names : UserNames) (a : Surroundings) (c : Cursor) where
  over_has : (q : Select Named) (s : NumberedSelect) (o : Option NumberedUpdatable) → listed_if_any c.order_by ≡ [] → select_placed (around a) q ≡ Ok (select_of s) → IfAny names a q s o → HasRows names a c (specification q) (cursor_over c s o).rows
  over_has q s None none placed h = (one_step specification (select_placed (around a) q) (select_of s) placed, ap (sort_columns (names_of (columns_of s))) none)
  over_has q s (Some u) none placed h = record { text = q; is_text = refl; shown = s; is_placed = placed; rows = h }

  select_has : (q : Select Named) → is_plain c ≡ true → (n : NumberedCursor) → cursor_of names a c (specification q) (Some q) ≡ Ok n → HasRows names a c (specification q) n.rows
  select_has q plain n is =
      let s = steps_of (select_bound a q at_first) (select_cursor names a c q) n is in
      let t = steps_of (permitted s.step) (λ x. and_then (updatable_bound names a q x (behind s.step)) (λ y. Ok (cursor_over c x y.part))) n s.second in
      let u = steps_of (updatable_bound names a q t.step (behind s.step)) (λ y. Ok (cursor_over c t.step y.part)) n t.second in
      let part = subst (IfFound (IsPart a.functions_allowed at_first (SelectIs (select_placed (around a) q)))) s.first (select_is_placed q a at_first) in
      let made = u.second in
      let same : cursor_over c t.step u.step.part ≡ n = cc in
      subst (λ (n : NumberedCursor). HasRows names a c (specification q) n.rows) same
      (over_has q t.step u.step.part (order_none c.insensitive c.scroll c.order_by plain)
      (whole_part a.functions_allowed at_first (SelectIs (select_placed (around a) q)) s.step part ∙ ap (λ s. Ok (select_of s)) (permitted_is s.step t.step t.first))
      (over_placed names a q t.step (only_table names q t.step) refl s.step.subqueries u.step u.first))

  sorted_has : (query : Query Named) (n : NumberedCursor) → cursor_of names a c query None ≡ Ok n → HasRows names a c query n.rows
  sorted_has query n is =
      let s = steps_of (whole (sorted_bound a query (listed_if_any c.order_by))) (λ x. Ok (sorted_cursor c x.0 x.1)) n is in
      let t = steps_of (sorted_bound a query (listed_if_any c.order_by) at_first) permitted s.step s.first in
      let part = subst (IfFound (IsPart a.functions_allowed at_first (SortedIs a query (listed_if_any c.order_by)))) t.first (sorted_is_placed a query (listed_if_any c.order_by) at_first) in
      let h = subst (λ (x : NumberedQuery × List SortColumn). SortedIs a query (listed_if_any c.order_by) [] x) (permitted_is t.step s.step t.second) (whole_part a.functions_allowed at_first (SortedIs a query (listed_if_any c.order_by)) t.step part) in
      let made = s.second in
      let same : sorted_cursor c s.step.0 s.step.1 ≡ n = cc in
      subst (λ (n : NumberedCursor). HasRows names a c query n.rows) same h

  any_has : (query : Query Named) (plain : Bool) → is_plain c ≡ plain → (n : NumberedCursor) → cursor_of names a c query (if plain then only_specification query else None) ≡ Ok n → HasRows names a c query n.rows
  any_has query false e n is = sorted_has query n is
  any_has (union all left right) true e n is = sorted_has (union all left right) n is
  any_has (specification q) true e n is = select_has q e n is

-- a cursor has the rows of the query that is written, in the order that is written
pub cursor_is_placed : (names : UserNames) (parameters : List Declared) (c : Cursor) (n : NumberedCursor) → cursor_bound names parameters c ≡ Ok n → HasRows names (outside names parameters) c (spelled.query_of names.user c.query) n.rows
cursor_is_placed names parameters c n is = any_has names (outside names parameters) c (spelled.query_of names.user c.query) (is_plain c) refl n is
