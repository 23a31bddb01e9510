-- The parts of a query specification, and the values and subqueries of predicates, are bound to the same with columns, parameters and
-- tables placed (ISO/IEC 9075:1992, 6.3, 6.4, 7.7 to 7.9 and 7.11).
use Rattle.std.proofs.Common.{◌≡◌, ℕ, zero, suc, ◌+◌, Bool, true, false, List, [], ◌∷◌, ◌++◌, length, map, Option, Some, None, Ok, Err, refl, sym, ap, ◌∙◌}
use Rattle.std.proofs.lemmas.List.{map-append, map-id}
use Rattle.std.proofs.lemmas.Simd.{map-map}
use Rattle.std.specs.Prelude.{nat_eq, not, ◌||◌, slice_get, if◌then◌else◌}
use Rattle.std.specs.List.{enumerate_from, flat_map}
use Rattle.std.specs.Option.{option_map, option_and_then}
use Rattle.sq_value.specs.declared.domain.Kind.{Kind}
use Rattle.sq_tree.specs.declared.names.ColumnReference.{ColumnReference}
use Rattle.sq_meaning.specs.Environment.{Place, TableReference, place_of}
use Rattle.sq_meaning.specs.SortKeys.{item_name}
use Rattle.sq_meaning.specs.Spelled.{Named}
use Rattle.sq_meaning.specs.Status as status
use Rattle.sq_meaning.specs.Syntax.{Expr, literal, parameter, user, column, count_rows, set_function, signed, added, scaled, bracketed, SelectList, all_columns, expressions, select}
use Rattle.sq_meaning.specs.Tables.{Declared}
use Rattle.sq_meaning.specs.WellFormed.{is_comparable, is_text}
use Rattle.sq_bound.specs.Condition.{PlacedSelect}
use Rattle.sq_bound.specs.Expression.{PlacedExpr}
use Rattle.sq_bound.specs.declared.condition.TablePlace.{TablePlace}
use Rattle.sq_meaning.specs.Binding.{has_item_twice}
use Rattle.sq_meaning.specs.declared.fault.BindingFault.{BindingFault}
use Rattle.sq_meaning.specs.declared.fault.BindingFault.TheVariants as fault
use Rattle.sq_binding.specs.Condition.{agreeing, as_subquery, beside, escape_bound, must_be_beside, scalar, subquery, text}
use Rattle.sq_binding.specs.Expression.{Bound, bound, column_findings, place_of_found}
use Rattle.sq_binding.specs.Found.{Binding, Counts, Found, ◌>>=◌, ◌>>◌, each, has_found, must, outcome, pure}
use Rattle.sq_binding.specs.From.{NamedItem, NamedTable, NamedTables, from_bound, item_bound, item_over, table_findings}
use Rattle.sq_binding.specs.Numbered.{Numbered, tree_of}
use Rattle.sq_binding.specs.NumberedCondition.{NumberedClause, NumberedGroups, NumberedSelect, ResultColumn, clause_of, columns_of, select_of, trees_of, with_number}
use Rattle.sq_binding.specs.Outcome as bound_outcome
use Rattle.sq_binding.specs.Outcome.{Outcome, or_fault}
use Rattle.sq_binding.specs.Placed.{column_at, heads_of, placed, placed_column}
use Rattle.sq_binding.specs.PlacedQuery.{columns_placed, escape_placed, expr_placed, item_placed, list_placed}
use Rattle.sq_binding.specs.QueryFindings.{a_status, most_items, of_subquery, of_values}
use Rattle.sq_binding.specs.Scope.{FromItem, Scope, column_meant, column_numbered, item_named}
use Rattle.sq_binding.specs.Select.{Parts, ShownColumn, Surroundings, Typed, column_of_item, columns_of_item, columns_of_items, grouping_column, grouping_place, groups_by, groups_of, list_bound, most_columns, rightly_grouped, select_found, shown_column, specification, value, value_found}
use Rattle.sq_binding.proofs.Inductions.Parts.{Anything, AreMeant, Binds, IfFound, IsMeant, IsPart, at_most_binds, each_binds, has_found_binds, more_binds, must_binds, one_binds, outcome_binds, pure_binds, then_any, then_binds, whole_part}
use Rattle.sq_binding.proofs.Placing.Placed.{bound_placed, column_placed}
use Rattle.sq_binding.proofs.Inductions.Steps.{one_step}

-- ---- which columns may be read has no bearing on what a text becomes

abbrev alone : Scope → Scope
alone scope = record { items = scope.items; grouping = None }

-- the surroundings of a part, as placing sees them
abbrev pub around : Surroundings → Surroundings
around a = record a { scopes = map alone a.scopes; functions_allowed = false }

heads_alone : (scopes : List Scope) → heads_of (map alone scopes) ≡ heads_of scopes
heads_alone [] = refl
heads_alone (scope ∷ scopes) = ap (λ heads. map item_named scope.items ∷ heads) (heads_alone scopes)

column_alone : (scopes : List Scope) (depth : ℕ) (at : ℕ × ℕ)
    → option_and_then (λ scope. column_numbered scope at) (slice_get (map alone scopes) depth) ≡ option_and_then (λ scope. column_numbered scope at) (slice_get scopes depth)
column_alone [] zero at = refl
column_alone [] (suc depth) at = refl
column_alone (scope ∷ scopes) zero at = refl
column_alone (scope ∷ scopes) (suc depth) at = column_alone scopes depth at

pub placed_alone : (scopes : List Scope) (c : ColumnReference) → placed_column (map alone scopes) c ≡ placed_column scopes c
placed_alone scopes c =
    ap (λ heads. status.and_then (place_of c heads) (λ p. status.well_formed (option_map (λ k. record p { column = k.position }) (column_at (map alone scopes) p)))) (heads_alone scopes)
    ∙ (λ i. status.and_then (place_of c (heads_of scopes)) (λ p. status.well_formed (option_map (λ k. record p { column = k.position }) (column_alone scopes p.depth (p.item, p.column) i))))

pub expr_alone : (scopes : List Scope) (parameters : List Declared) (e : Expr Named) → placed (map alone scopes) parameters e ≡ placed scopes parameters e
expr_alone scopes parameters (literal v) = refl
expr_alone scopes parameters (parameter p) = refl
expr_alone scopes parameters user = refl
expr_alone scopes parameters (column c) = ap (λ (o : status.Outcome Place). status.and_then o (λ p. Ok (column p))) (placed_alone scopes c)
expr_alone scopes parameters count_rows = refl
expr_alone scopes parameters (set_function f distinct e) = ap (λ (o : status.Outcome PlacedExpr). status.and_then o (λ x. Ok (set_function f distinct x))) (expr_alone scopes parameters e)
expr_alone scopes parameters (signed sign e) = ap (λ (o : status.Outcome PlacedExpr). status.and_then o (λ x. Ok (signed sign x))) (expr_alone scopes parameters e)
expr_alone scopes parameters (added sign a b) = λ i. status.and_then (expr_alone scopes parameters a i) (λ x. status.and_then (expr_alone scopes parameters b i) (λ y. Ok (added sign x y)))
expr_alone scopes parameters (scaled sign a b) = λ i. status.and_then (expr_alone scopes parameters a i) (λ x. status.and_then (expr_alone scopes parameters b i) (λ y. Ok (scaled sign x y)))
expr_alone scopes parameters (bracketed e) = expr_alone scopes parameters e

-- ---- value expressions

abbrev pub ExprIs : Surroundings → Expr Named → List PlacedExpr → Numbered → Type 0
ExprIs a e functions x = expr_placed (around a) e ≡ Ok (tree_of functions x)

abbrev pub TypedIs : Surroundings → Expr Named → List PlacedExpr → Typed → Type 0
TypedIs a e functions x = ExprIs a e functions x.tree

value_part : (a : Surroundings) (e : Expr Named) (counts : Counts) (o : Outcome Bound) → bound a.scopes a.parameters a.functions_allowed false e counts.functions ≡ o
    → IfFound (IsPart a.functions_allowed counts (TypedIs a e)) (bound_outcome.and_then o (λ b. Ok (value_found counts b)))
value_part a e counts (Err f) is = tt
value_part a e counts (Ok b) is =
    let p = bound_placed a.scopes a.parameters a.functions_allowed false e counts.functions b is in
    record {
      is_so = λ before later size. expr_alone a.scopes a.parameters e ∙ p.is_placed ∙ ap Ok (sym (p.is_tree before later size));
      none_forbidden = p.none_forbidden;
    }

pub value_binds : (a : Surroundings) (e : Expr Named) → Binds a.functions_allowed (TypedIs a e) (value a e)
value_binds a e counts = value_part a e counts (bound a.scopes a.parameters a.functions_allowed false e counts.functions) refl

-- a value of which something is asked
value_must : (a : Surroundings) (e : Expr Named) (asked : Typed → Bool) (f : BindingFault) → Binds a.functions_allowed (ExprIs a e) (value a e >>= λ x. must (asked x) f >> pure x.tree)
value_must a e asked f =
    then_binds a.functions_allowed (TypedIs a e) (ExprIs a e) (value a e) (λ x. must (asked x) f >> pure x.tree) (value_binds a e)
    (λ x. then_any a.functions_allowed (λ functions y. TypedIs a e functions x → ExprIs a e functions y) (must (asked x) f) (λ _. pure x.tree) (must_binds a.functions_allowed (asked x) f)
    (λ _. pure_binds a.functions_allowed (λ functions y. TypedIs a e functions x → ExprIs a e functions y) x.tree (λ functions h. h)))

pub agreeing_binds : (a : Surroundings) (k : Kind) (e : Expr Named) → Binds a.functions_allowed (ExprIs a e) (agreeing a k e)
agreeing_binds a k e = value_must a e (λ x. is_comparable k x.kind) fault.KindMismatch

pub text_binds : (a : Surroundings) (e : Expr Named) → Binds a.functions_allowed (ExprIs a e) (text a e)
text_binds a e = value_must a e (λ x. is_text x.kind) fault.KindMismatch

abbrev pub EscapeIs : Surroundings → Option (Expr Named) → List PlacedExpr → Option Numbered → Type 0
EscapeIs a escape functions x = escape_placed (around a) escape ≡ Ok (option_map (tree_of functions) x)

pub escape_binds : (a : Surroundings) (escape : Option (Expr Named)) → Binds a.functions_allowed (EscapeIs a escape) (escape_bound a escape)
escape_binds a None = pure_binds a.functions_allowed (EscapeIs a None) None (λ functions. refl)
escape_binds a (Some e) =
    then_binds a.functions_allowed (ExprIs a e) (EscapeIs a (Some e)) (text a e) (λ x. has_found a_status >> pure (Some x)) (text_binds a e)
    (λ x. then_any a.functions_allowed (λ functions y. ExprIs a e functions x → EscapeIs a (Some e) functions y) (has_found a_status) (λ _. pure (Some x)) (has_found_binds a.functions_allowed a_status)
    (λ _. pure_binds a.functions_allowed (λ functions y. ExprIs a e functions x → EscapeIs a (Some e) functions y) (Some x)
    (λ functions h. one_step (λ (y : PlacedExpr). Some y) (expr_placed (around a) e) (tree_of functions x) h)))

-- ---- subqueries

abbrev pub SelectIs : status.Outcome PlacedSelect → List PlacedExpr → NumberedSelect → Type 0
SelectIs placed functions q = placed ≡ Ok (select_of q)

pub same_select : (number : Option ℕ) (q : NumberedSelect) → select_of (with_number number q) ≡ select_of q
same_select number (NumberedSelect.select distinct list from filter groups columns can_fail unnumbered) = refl

module _ (allowed : Bool) (counts : Counts) (placed : status.Outcome PlacedSelect) where
  numbered_part : (x : Found NumberedSelect) (closed : Bool) → IsPart allowed counts (SelectIs placed) x
      → IsPart allowed counts (SelectIs placed)
      (if closed then record x { part = with_number (Some x.subqueries) x.part; findings = of_subquery x.findings; subqueries = x.subqueries + 1 } else record x { findings = of_subquery x.findings })
  numbered_part x true h = record { is_so = λ before later size. h.is_so before later size ∙ ap Ok (sym (same_select (Some x.subqueries) x.part)); none_forbidden = h.none_forbidden }
  numbered_part x false h = record { is_so = h.is_so; none_forbidden = h.none_forbidden }

  subquery_part : (o : Outcome (Found NumberedSelect)) → IfFound (IsPart allowed counts (SelectIs placed)) o → IfFound (IsPart allowed counts (SelectIs placed)) (bound_outcome.and_then o (λ x. Ok (as_subquery x)))
  subquery_part (Ok x) h = numbered_part x (nat_eq x.findings.values.reach 0) h
  subquery_part (Err f) h = tt

module _ (allowed : Bool) (placed : status.Outcome PlacedSelect) (q : Binding NumberedSelect) (is : Binds allowed (SelectIs placed) q) where
  pub subquery_binds : Binds allowed (SelectIs placed) (subquery q)
  subquery_binds counts = subquery_part allowed counts placed (q counts) (is counts)

  beside_must : (k : Kind) (columns : List ResultColumn) → Binds allowed Anything (must_be_beside k columns)
  beside_must k [] counts = tt
  beside_must k (c ∷ []) counts = must_binds allowed (is_comparable k c.kind) fault.KindMismatch counts
  beside_must k (c ∷ d ∷ others) counts = tt

  pub beside_binds : (k : Kind) → Binds allowed (SelectIs placed) (beside k q)
  beside_binds k =
      then_binds allowed (SelectIs placed) (SelectIs placed) (subquery q) (λ x. must_be_beside k (columns_of x) >> pure x) subquery_binds
      (λ x. then_any allowed (λ functions y. SelectIs placed functions x → SelectIs placed functions y) (must_be_beside k (columns_of x)) (λ _. pure x) (beside_must k (columns_of x))
      (λ _. pure_binds allowed (λ functions y. SelectIs placed functions x → SelectIs placed functions y) x (λ functions h. h)))

  pub scalar_binds : (k : Kind) → Binds allowed (SelectIs placed) (scalar k q)
  scalar_binds k =
      then_binds allowed (SelectIs placed) (SelectIs placed) (beside k q) (λ x. has_found a_status >> pure x) (beside_binds k)
      (λ x. then_any allowed (λ functions y. SelectIs placed functions x → SelectIs placed functions y) (has_found a_status) (λ _. pure x) (has_found_binds allowed a_status)
      (λ _. pure_binds allowed (λ functions y. SelectIs placed functions x → SelectIs placed functions y) x (λ functions h. h)))

-- ---- the parts of a query specification

abbrev pub ItemsAre : NamedTables → List TableReference → List PlacedExpr → List NamedItem → Type 0
ItemsAre names from functions items = status.each (item_placed names) from ≡ Ok items

table_there : (f : BindingFault) (r : TableReference) (o : Option NamedTable) (t : NamedTable) → or_fault f o ≡ Ok t → status.well_formed (option_map (item_over r) o) ≡ Ok (item_over r t)
table_there f r None t e = cc
table_there f r (Some u) t e = let same : u ≡ t = cc in ap (λ t. Ok (item_over r t)) same

module _ (names : NamedTables) where
  item_binds : (r : TableReference) → Binds true (IsMeant (item_placed names) (λ functions i. i) r) (item_bound names r)
  item_binds r =
      then_binds true (λ functions t. item_placed names r ≡ Ok (item_over r t)) (IsMeant (item_placed names) (λ functions i. i) r) (outcome (or_fault fault.UnknownTable (names r.table)))
      (λ t. has_found (table_findings t) >> pure (item_over r t))
      (outcome_binds true (λ functions t. item_placed names r ≡ Ok (item_over r t)) (or_fault fault.UnknownTable (names r.table)) (λ t is functions. table_there fault.UnknownTable r (names r.table) t is))
      (λ t. then_any true (λ functions i. item_placed names r ≡ Ok (item_over r t) → item_placed names r ≡ Ok i) (has_found (table_findings t)) (λ _. pure (item_over r t)) (has_found_binds true (table_findings t))
      (λ _. pure_binds true (λ functions i. item_placed names r ≡ Ok (item_over r t) → item_placed names r ≡ Ok i) (item_over r t) (λ functions h. h)))

  items_bind : (from : List TableReference) → Binds true (ItemsAre names from) (each (item_bound names) from)
  items_bind from =
      more_binds true (AreMeant (item_placed names) (λ functions i. i) from) (ItemsAre names from) (each (item_bound names) from) (λ functions items h. h ∙ ap Ok (map-id items))
      (each_binds true (item_bound names) (item_placed names) (λ functions i. i) item_binds from)

  pub from_binds : (from : List TableReference) → Binds true (ItemsAre names from) (from_bound names from)
  from_binds from =
      at_most_binds true (ItemsAre names from) most_items (length from) (each (item_bound names) from >>= λ items. must (not (has_item_twice from)) fault.AmbiguousName >> pure items)
      (then_binds true (ItemsAre names from) (ItemsAre names from) (each (item_bound names) from) (λ items. must (not (has_item_twice from)) fault.AmbiguousName >> pure items) (items_bind from)
      (λ items. then_any true (λ functions is. ItemsAre names from functions items → ItemsAre names from functions is) (must (not (has_item_twice from)) fault.AmbiguousName) (λ _. pure items)
      (must_binds true (not (has_item_twice from)) fault.AmbiguousName)
      (λ _. pure_binds true (λ functions is. ItemsAre names from functions items → ItemsAre names from functions is) items (λ functions h. h))))

-- grouping columns

abbrev pub ColumnsAre : Surroundings → List ColumnReference → List PlacedExpr → List Place → Type 0
ColumnsAre a by functions places = status.each (placed_column (around a).scopes) by ≡ Ok places

module _ (a : Surroundings) where
  grouping_binds : (c : ColumnReference) → Binds true (IsMeant (placed_column (around a).scopes) (λ functions p. p) c) (grouping_column a c)
  grouping_binds c =
      then_binds true (λ functions found. placed_column (around a).scopes c ≡ Ok (place_of_found found)) (IsMeant (placed_column (around a).scopes) (λ functions p. p) c) (outcome (column_meant c a.scopes)) grouping_place
      (outcome_binds true (λ functions found. placed_column (around a).scopes c ≡ Ok (place_of_found found)) (column_meant c a.scopes) (λ found is functions. placed_alone a.scopes c ∙ column_placed c a.scopes found is))
      (λ found.
      then_any true (λ functions p. placed_column (around a).scopes c ≡ Ok (place_of_found found) → placed_column (around a).scopes c ≡ Ok p) (must found.is_grouped fault.UngroupedColumn)
      (λ _. has_found (of_values (column_findings found)) >> pure (place_of_found found)) (must_binds true found.is_grouped fault.UngroupedColumn)
      (λ _. then_any true (λ functions p. placed_column (around a).scopes c ≡ Ok (place_of_found found) → placed_column (around a).scopes c ≡ Ok p) (has_found (of_values (column_findings found)))
      (λ _. pure (place_of_found found)) (has_found_binds true (of_values (column_findings found)))
      (λ _. pure_binds true (λ functions p. placed_column (around a).scopes c ≡ Ok (place_of_found found) → placed_column (around a).scopes c ≡ Ok p) (place_of_found found) (λ functions h. h))))

  pub columns_bind : (by : List ColumnReference) → Binds true (ColumnsAre a by) (each (grouping_column a) by)
  columns_bind by =
      more_binds true (AreMeant (placed_column (around a).scopes) (λ functions p. p) by) (ColumnsAre a by) (each (grouping_column a) by) (λ functions places h. h ∙ ap Ok (map-id places))
      (each_binds true (grouping_column a) (placed_column (around a).scopes) (λ functions p. p) grouping_binds by)

-- select lists

abbrev pub shown_trees : List PlacedExpr → List ShownColumn → List PlacedExpr
shown_trees functions shown = trees_of functions (map (λ c. c.tree) shown)

star_of : (functions : List PlacedExpr) (items : List (ℕ × FromItem)) → map (λ c. tree_of functions c.tree) (flat_map columns_of_item items) ≡ flat_map columns_placed items
star_of functions [] = refl
star_of functions (i ∷ items) =
    map-append (λ (c : ShownColumn). tree_of functions c.tree) (columns_of_item i) (flat_map columns_of_item items)
    ∙ (λ j. map-map (λ (c : ShownColumn). tree_of functions c.tree) (column_of_item i.0) i.1.columns j ++ star_of functions items j)

star_trees : (functions : List PlacedExpr) (items : List FromItem) → flat_map columns_placed (enumerate_from 0 items) ≡ shown_trees functions (columns_of_items items)
star_trees functions items = sym (star_of functions (enumerate_from 0 items)) ∙ sym (map-map (tree_of functions) (λ (c : ShownColumn). c.tree) (columns_of_items items))

abbrev ListIs : Surroundings → List FromItem → SelectList Named → List PlacedExpr → List ShownColumn → Type 0
ListIs a items list functions shown = list_placed (around a) items list ≡ Ok (shown_trees functions shown)

shown_binds : (a : Surroundings) (e : Expr Named) → Binds a.functions_allowed (IsMeant (expr_placed (around a)) (λ functions c. tree_of functions c.tree) e) (shown_column a e)
shown_binds a e =
    one_binds a.functions_allowed (TypedIs a e) (IsMeant (expr_placed (around a)) (λ functions c. tree_of functions c.tree) e) (value a e)
    (λ x. record { tree = x.tree; column = record { name = item_name e; kind = x.kind } }) (value_binds a e) (λ functions x h. h)

pub list_binds : (a : Surroundings) (items : List FromItem) (list : SelectList Named) → Binds a.functions_allowed (ListIs a items list) (list_bound a items list)
list_binds a items all_columns =
    at_most_binds a.functions_allowed (ListIs a items all_columns) most_columns (length (columns_of_items items)) (pure (columns_of_items items))
    (pure_binds a.functions_allowed (ListIs a items all_columns) (columns_of_items items) (λ functions. ap Ok (star_trees functions items)))
list_binds a items (expressions es) =
    at_most_binds a.functions_allowed (ListIs a items (expressions es)) most_columns (length es) (each (shown_column a) es)
    (more_binds a.functions_allowed (AreMeant (expr_placed (around a)) (λ functions c. tree_of functions c.tree) es) (ListIs a items (expressions es)) (each (shown_column a) es)
    (λ functions shown h. h ∙ ap Ok (sym (map-map (tree_of functions) (λ (c : ShownColumn). c.tree) shown)))
    (each_binds a.functions_allowed (shown_column a) (expr_placed (around a)) (λ functions c. tree_of functions c.tree) (shown_binds a) es))

-- ---- the whole

-- a query specification of these parts, where these are its set functions
abbrev pub parts_of : List PlacedExpr → Parts → PlacedSelect
parts_of functions p = select p.distinct (expressions (shown_trees functions p.shown)) p.from (clause_of [] p.filter) p.by (clause_of functions p.having)

abbrev pub PartsAre : status.Outcome PlacedSelect → List PlacedExpr → Parts → Type 0
PartsAre placed functions p = placed ≡ Ok (parts_of functions p)

-- without groups there are no set functions
pub groups_same : (distinct : Bool) (shown : List ShownColumn) (from : List TablePlace) (filter : NumberedClause) (by : List Place) (having : NumberedClause) (functions : List PlacedExpr) (columns : List ResultColumn) (can_fail : Bool)
    → select_of (NumberedSelect.select distinct (map (λ c. c.tree) shown) from filter (groups_by by having functions) columns can_fail None)
    ≡ select distinct (expressions (shown_trees functions shown)) from (clause_of [] filter) by (clause_of functions having)
groups_same distinct shown from filter [] NumberedClause.absent [] columns can_fail = refl
groups_same distinct shown from filter [] NumberedClause.absent (f ∷ functions) columns can_fail = refl
groups_same distinct shown from filter [] (NumberedClause.present c) functions columns can_fail = refl
groups_same distinct shown from filter (p ∷ by) having functions columns can_fail = refl

module _ (allowed : Bool) (counts : Counts) (placed : status.Outcome PlacedSelect) where
  rightly_part : (star : Bool) (groups : NumberedGroups) (x : Found Parts) → IsPart allowed counts (SelectIs placed) (select_found x) → IfFound (IsPart allowed counts (SelectIs placed)) (rightly_grouped star groups x)
  rightly_part star NumberedGroups.not_grouped x h = h
  rightly_part true (NumberedGroups.grouped by functions having) x h = tt
  rightly_part false (NumberedGroups.grouped by functions having) x h = ungrouped_part x.findings.values.has_ungrouped
    where
      ungrouped_part : (ungrouped : Bool) → IfFound (IsPart allowed counts (SelectIs placed)) (if ungrouped then Err fault.UngroupedColumn else Ok (select_found x))
      ungrouped_part true = tt
      ungrouped_part false = h

  whole_select : (star : Bool) (o : Outcome (Found Parts)) → IfFound (IsPart true (record counts { functions = 0 }) (PartsAre placed)) o
      → IfFound (IsPart allowed counts (SelectIs placed)) (bound_outcome.and_then o (λ x. rightly_grouped star (groups_of x) x))
  whole_select star (Err f) h = tt
  whole_select star (Ok x) h =
      rightly_part star (groups_of x) x
      (record {
        is_so = λ before later size.
            whole_part true counts (PartsAre placed) x h
            ∙ ap Ok (sym (groups_same x.part.distinct x.part.shown x.part.from x.part.filter x.part.by x.part.having x.calls (map (λ c. c.column) x.part.shown) (x.findings.values.can_fail || x.calls_can_fail)));
        none_forbidden = λ no. refl;
      })

pub specification_binds : (allowed star : Bool) (placed : status.Outcome PlacedSelect) (parts : Binding Parts) → Binds true (PartsAre placed) parts → Binds allowed (SelectIs placed) (specification star parts)
specification_binds allowed star placed parts h counts = whole_select allowed counts placed star (parts (record counts { functions = 0 })) (h (record counts { functions = 0 }))
