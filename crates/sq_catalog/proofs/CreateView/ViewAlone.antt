-- A view is bound alike where the conditions of the views under a table are left out: binding passes them on, and looks at none of them.
use Rattle.std.proofs.Common.{◌≡◌, ℕ, Bool, true, false, List, [], Option, Some, None, Result, Ok, Err, refl, sym, ap, subst, ◌∙◌}
use Rattle.std.specs.Option.{option_and_then, option_map}
use Rattle.std.specs.Prelude.{if◌then◌else◌}
use Rattle.sq_meaning.specs.Environment.{TableReference}
use Rattle.sq_meaning.specs.Spelled.{Named}
use Rattle.sq_meaning.specs.Syntax.{Select}
use Rattle.sq_binding.specs.Changeable.{ChangedTable, NumberedUpdatable, UnderTable, UserNames, columns_shown, condition_bound, filter_of, from_of, has_plain_rows, list_of, made, may_be_changed, only_one, only_table, outside, shown_of, table_over, updatable_over, updatable_where}
use Rattle.sq_binding.specs.Condition.{select_bound}
use Rattle.sq_binding.specs.Cursor.{behind}
use Rattle.sq_binding.specs.Found.{Counts, Found}
use Rattle.sq_binding.specs.From.{NamedTable}
use Rattle.sq_binding.specs.NumberedCondition.{NumberedClause, NumberedSelect}
use Rattle.sq_binding.specs.Outcome as binding
use Rattle.sq_binding.specs.Select.{Surroundings}
use Rattle.sq_binding.specs.View.{NumberedView, view_bound, view_of}
use Rattle.sq_binding.specs.Whole.{at_first}
use Rattle.sq_binding.specs.ElementOutcome.{and_then}
use Rattle.sq_binding.specs.CreateView.{or_bad_view}
use Rattle.sq_binder.specs.View.{view_seen}
use Rattle.sq_binder.specs.declared.view.BoundView.{BoundView}
use Rattle.sq_catalog.specs.Fault.{Makes, Stops}
use Rattle.sq_catalog.specs.UserTables.{without_conditions, without_conditions_under}
use Rattle.sq_catalog.specs.ViewMade.{over_alone, view_alone, view_found}
use Rattle.sq_catalog.specs.declared.fault.ElementFault.{ElementFault}
use Rattle.sq_catalog.proofs.OneByOne.Turns.{stops_then}

abbrev pub map_bound : {A B : Type 0} → (A → B) → binding.Outcome A → binding.Outcome B
map_bound f o = binding.and_then o (λ x. Ok (f x))

abbrev pub table_alone : ChangedTable → ChangedTable
table_alone t = table_over t.reference t.table (without_conditions_under t.under)

-- an updatable query, with what is found beside it
abbrev pub found_over : Found (Option NumberedUpdatable) → Found (Option NumberedUpdatable)
found_over y = record { part = option_map over_alone y.part; calls = y.calls; calls_can_fail = y.calls_can_fail; findings = y.findings; subqueries = y.subqueries }

may_alone : (r : TableReference) (t : Option NamedTable) (u : Option UnderTable)
    → option_and_then (λ t. option_map (table_over r t) (option_map without_conditions_under u)) t ≡ option_map table_alone (option_and_then (λ t. option_map (table_over r t) u) t)
may_alone r None u = refl
may_alone r (Some t) None = refl
may_alone r (Some t) (Some u) = refl

abbrev shown_over : ChangedTable → List ℕ → Found NumberedClause → NumberedUpdatable
shown_over t columns x = record { table = t.reference.table; target = record { table = t.table.place; leaf = t.under.leaf; condition = x.part }; columns = columns }

where_alone : (t : ChangedTable) (columns : Option (List ℕ)) (x : Found NumberedClause) → updatable_where (table_alone t) columns x ≡ option_map over_alone (updatable_where t columns x)
where_alone t None x = refl
where_alone t (Some columns) x = by x.findings.has_subquery
  where
    by : (b : Bool) → (if b then None else Some (shown_over (table_alone t) columns x)) ≡ option_map over_alone (if b then None else Some (shown_over t columns x))
    by true = refl
    by false = refl

condition_alone : (t : ChangedTable) (columns : Option (List ℕ)) (o : binding.Outcome (Found NumberedClause))
    → binding.and_then o (λ x. Ok (made (updatable_where (table_alone t) columns) x)) ≡ map_bound found_over (binding.and_then o (λ x. Ok (made (updatable_where t columns) x)))
condition_alone t columns (Err f) = refl
condition_alone t columns (Ok x) =
    ap (λ (p : Option NumberedUpdatable). Ok (record { part = p; calls = x.calls; calls_can_fail = x.calls_can_fail; findings = x.findings; subqueries = x.subqueries })) (where_alone t columns x)

pub over_is_alone : (a : Surroundings) (q : Select Named) (s : NumberedSelect) (o : Option ChangedTable) (counts : Counts) → updatable_over a q s (option_map table_alone o) counts ≡ map_bound found_over (updatable_over a q s o counts)
over_is_alone a q s None counts = refl
over_is_alone a q s (Some t) counts = condition_alone t (columns_shown t.under (list_of q) (shown_of s)) (condition_bound a t (filter_of q) counts)

module _ (names : UserNames) where
  only_alone : (q : Select Named) (s : NumberedSelect) → only_table (without_conditions names) q s ≡ option_map table_alone (only_table names q s)
  only_alone q s = by (has_plain_rows s) (only_one (from_of q))
    where
      by : (b : Bool) (r : Option TableReference) → (if b then option_and_then (may_be_changed (without_conditions names)) r else None) ≡ option_map table_alone (if b then option_and_then (may_be_changed names) r else None)
      by true None = refl
      by true (Some r) = may_alone r (names.tables r.table) (names.under r.table)
      by false None = refl
      by false (Some r) = refl

  pub view_is_alone : (q : Select Named) → view_bound (without_conditions names) q ≡ map_bound view_alone (view_bound names q)
  view_is_alone q = by (select_bound (outside names []) q at_first)
    where
      last : (x : Found NumberedSelect) (o : binding.Outcome (Found (Option NumberedUpdatable)))
          → binding.and_then (map_bound found_over o) (λ y. Ok (view_of x y)) ≡ map_bound view_alone (binding.and_then o (λ y. Ok (view_of x y)))
      last x (Ok y) = refl
      last x (Err f) = refl

      by : (o : binding.Outcome (Found NumberedSelect))
          → binding.and_then o (λ x. binding.and_then (updatable_over (outside names []) q x.part (only_table (without_conditions names) q x.part) (behind x)) (λ y. Ok (view_of x y)))
          ≡ map_bound view_alone (binding.and_then o (λ x. binding.and_then (updatable_over (outside names []) q x.part (only_table names q x.part) (behind x)) (λ y. Ok (view_of x y))))
      by (Err f) = refl
      by (Ok x) =
          ap (λ (t : Option ChangedTable). binding.and_then (updatable_over (outside names []) q x.part t (behind x)) (λ y. Ok (view_of x y))) (only_alone q x.part)
          ∙ ap (λ o. binding.and_then o (λ y. Ok (view_of x y))) (over_is_alone (outside names []) q x.part (only_table names q x.part) (behind x))
          ∙ last x (updatable_over (outside names []) q x.part (only_table names q x.part) (behind x))

-- ---- as it is answered

turned : (o : binding.Outcome NumberedView) → or_bad_view (map_bound view_alone o) ≡ and_then (or_bad_view o) (λ v. Ok (view_alone v))
turned (Ok v) = refl
turned (Err f) = refl

pub found_alone : (o : binding.Outcome NumberedView) (r : Result BoundView ElementFault) → Makes view_seen (or_bad_view o) r → Makes view_found (or_bad_view (map_bound view_alone o)) r
found_alone o (Ok v) h = turned o ∙ ap (λ p. and_then p (λ v. Ok (view_alone v))) h
found_alone o (Err stop) h = subst (λ p. Stops p stop) (sym (turned o)) (stops_then (or_bad_view o) (λ v. Ok (view_alone v)) stop h)
