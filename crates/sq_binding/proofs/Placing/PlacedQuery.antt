-- Search conditions and query specifications are bound to the same with their columns, parameters and tables placed (ISO/IEC
-- 9075:1992, 6.3, 6.4, 7.3 to 7.9, 7.11 and clause 8).
use Rattle.std.proofs.Common.{◌≡◌, Bool, true, false, List, [], Ok, Err, refl}
use Rattle.std.specs.Option.{option_map}
use Rattle.sq_tree.specs.declared.names.ColumnReference.{ColumnReference}
use Rattle.sq_meaning.specs.Environment.{Place, TableReference}
use Rattle.sq_meaning.specs.Placed.{Placed}
use Rattle.sq_meaning.specs.Spelled.{Named}
use Rattle.sq_meaning.specs.Status as status
use Rattle.sq_meaning.specs.Syntax.{SelectList, expressions, Cond, Conds, Clause, Select, compare, compare_subquery, compare_quantified, between, in_subquery, in_list, like, is_null, exists, negated, conjunction, disjunction, no_cond, a_cond, absent, present, select}
use Rattle.sq_bound.specs.Condition.{PlacedClause, PlacedCond, compared_with}
use Rattle.sq_bound.specs.Expression.{PlacedExpr}
use Rattle.sq_bound.specs.declared.condition.Compared.TheVariants.{Scalar}
use Rattle.sq_bound.specs.declared.condition.TablePlace.{TablePlace}
use Rattle.sq_binding.specs.Condition.{agreeing, beside, clause_bound, compared_as, cond_bound, escape_bound, noted, scalar, select_bound, subquery, terms_bound, test, tests_bound, text}
use Rattle.sq_binding.specs.Found.{Binding, Counts, Found, ◌>>=◌, each, from_first, pure}
use Rattle.sq_binding.specs.From.{from_bound, items_of, tables_of}
use Rattle.sq_binding.specs.Numbered.{tree_of}
use Rattle.sq_binding.specs.NumberedCondition.{NumberedClause, NumberedCond, NumberedConds, clause_of, cond_of, conds_of, select_of, trees_of}
use Rattle.sq_binding.specs.Outcome as bound_outcome
use Rattle.sq_binding.specs.Outcome.{Outcome}
use Rattle.sq_binding.specs.Placed.{placed, placed_column}
use Rattle.sq_binding.specs.PlacedQuery.{clause_placed, cond_placed, conds_placed, escape_placed, expr_placed, item_placed, list_placed, select_placed}
use Rattle.sq_binding.specs.Scope.{FromItem}
use Rattle.sq_binding.specs.Select.{Surroundings, grouping_column, is_star, list_bound, of_groups, of_lines, value}
use Rattle.sq_binding.proofs.Inductions.Parts.{AreMeant, Binds, IfFound, IsPart, each_binds, from_first_binds, five_binds, one_binds, pure_binds, three_binds, two_binds}
use Rattle.sq_binding.proofs.Inductions.Steps.{five_steps, one_step, three_steps, two_steps}
use Rattle.sq_binding.proofs.Placing.PlacedParts.{around, ExprIs, TypedIs, value_binds, agreeing_binds, text_binds, EscapeIs, escape_binds, SelectIs, subquery_binds, beside_binds, scalar_binds, ItemsAre, from_binds, ColumnsAre, columns_bind, shown_trees, list_binds, PartsAre, specification_binds}

-- ---- search conditions and query specifications

abbrev CondIs : status.Outcome PlacedCond → List PlacedExpr → NumberedCond → Type 0
CondIs placed functions c = placed ≡ Ok (cond_of functions c)

abbrev CondsAre : status.Outcome (Conds (Placed TablePlace)) → List PlacedExpr → NumberedConds → Type 0
CondsAre placed functions cs = placed ≡ Ok (conds_of functions cs)

abbrev ClauseIs : status.Outcome PlacedClause → List PlacedExpr → NumberedClause → Type 0
ClauseIs placed functions c = placed ≡ Ok (clause_of functions c)

test_part : (allowed : Bool) (counts : Counts) (placed : status.Outcome PlacedCond) (o : Outcome (Found NumberedCond)) → IfFound (IsPart allowed counts (CondIs placed)) o
    → IfFound (IsPart allowed counts (CondIs placed)) (bound_outcome.and_then o (λ x. Ok (noted x)))
test_part allowed counts placed (Ok x) h = record { is_so = h.is_so; none_forbidden = h.none_forbidden }
test_part allowed counts placed (Err f) h = tt

test_binds : (allowed : Bool) (placed : status.Outcome PlacedCond) (c : Binding NumberedCond) → Binds allowed (CondIs placed) c → Binds allowed (CondIs placed) (test c)
test_binds allowed placed c h counts = test_part allowed counts placed (c counts) (h counts)

-- a query specification is placed where its parts are
select_of_parts : (a : Surroundings) (distinct : Bool) (list : SelectList Named) (from : List TableReference) (filter : Clause Named) (by : List ColumnReference) (having : Clause Named)
    → ((items : List FromItem) → Binds false (ClauseIs (clause_placed (of_lines items (around a)) filter)) (clause_bound (of_lines items a) filter))
    → ((items : List FromItem) (columns : List Place) → Binds true (ClauseIs (clause_placed (of_lines items (around a)) having)) (clause_bound (of_groups items columns a) having))
    → Binds a.functions_allowed (SelectIs (select_placed (around a) (select distinct list from filter by having))) (select_bound a (select distinct list from filter by having))
select_of_parts a distinct list from filter by having filtered kept =
    specification_binds a.functions_allowed (is_star list) (select_placed (around a) (select distinct list from filter by having))
    (from_bound a.names from >>= λ items. from_first (clause_bound (of_lines (items_of items) a) filter) >>= λ y. each (grouping_column (of_lines (items_of items) a)) by >>= λ columns.
    list_bound (of_groups (items_of items) columns a) (items_of items) list >>= λ shown. clause_bound (of_groups (items_of items) columns a) having >>= λ groups.
    pure (record { distinct = distinct; from = tables_of items; filter = y; by = columns; shown = shown; having = groups }))
    (five_binds true (ItemsAre a.names from) (λ items functions y. ClauseIs (clause_placed (of_lines (items_of items) (around a)) filter) [] y) (λ items. ColumnsAre (of_lines (items_of items) a) by)
    (λ items functions shown. list_placed (of_lines (items_of items) (around a)) (items_of items) list ≡ Ok (shown_trees functions shown))
    (λ items. ClauseIs (clause_placed (of_lines (items_of items) (around a)) having)) (PartsAre (select_placed (around a) (select distinct list from filter by having)))
    (from_bound a.names from) (λ items. from_first (clause_bound (of_lines (items_of items) a) filter)) (λ items. each (grouping_column (of_lines (items_of items) a)) by)
    (λ items columns. list_bound (of_groups (items_of items) columns a) (items_of items) list) (λ items columns. clause_bound (of_groups (items_of items) columns a) having)
    (λ items y columns shown groups. record { distinct = distinct; from = tables_of items; filter = y; by = columns; shown = shown; having = groups })
    (from_binds a.names from)
    (λ items. from_first_binds true (ClauseIs (clause_placed (of_lines (items_of items) (around a)) filter)) (clause_bound (of_lines (items_of items) a) filter) (filtered (items_of items)))
    (λ items. columns_bind (of_lines (items_of items) a) by) (λ items columns. list_binds (of_groups (items_of items) columns a) (items_of items) list) (λ items columns. kept (items_of items) columns)
    (λ functions items y columns shown groups p q r s t.
    five_steps (λ items y columns shown groups. select distinct (expressions shown) (tables_of items) y columns groups) (status.each (item_placed a.names) from)
    (λ items. clause_placed (of_lines (items_of items) (around a)) filter) (λ items. status.each (placed_column (of_lines (items_of items) (around a)).scopes) by)
    (λ items. list_placed (of_lines (items_of items) (around a)) (items_of items) list) (λ items. clause_placed (of_lines (items_of items) (around a)) having)
    items (clause_of [] y) columns (shown_trees functions shown) (clause_of functions groups) p q r s t))

mutual
  -- a search condition is bound to its text with its names placed, whatever set functions its query has beside its own
  pub cond_is_placed : (c : Cond Named) (a : Surroundings) → Binds a.functions_allowed (CondIs (cond_placed (around a) c)) (cond_bound a c)
  cond_is_placed (compare op e f) a =
      two_binds a.functions_allowed (TypedIs a e) (ExprIs a f) (CondIs (cond_placed (around a) (compare op e f))) (value a e) (λ x. agreeing a x.kind f) (λ x y. NumberedCond.compare op x.tree y)
      (value_binds a e) (λ x. agreeing_binds a x.kind f)
      (λ functions x y p q. two_steps (compare op) (expr_placed (around a) e) (expr_placed (around a) f) (tree_of functions x.tree) (tree_of functions y) p q)
  cond_is_placed (compare_subquery op e s) a =
      two_binds a.functions_allowed (TypedIs a e) (SelectIs (select_placed (around a) s)) (CondIs (cond_placed (around a) (compare_subquery op e s))) (value a e) (λ x. scalar x.kind (select_bound a s))
      (λ x y. NumberedCond.compare_query Scalar op x.tree y) (value_binds a e) (λ x. scalar_binds a.functions_allowed (select_placed (around a) s) (select_bound a s) (select_is_placed s a) x.kind)
      (λ functions x y p q. two_steps (compared_with Scalar op) (expr_placed (around a) e) (select_placed (around a) s) (tree_of functions x.tree) (select_of y) p q)
  cond_is_placed (compare_quantified op k e s) a =
      two_binds a.functions_allowed (TypedIs a e) (SelectIs (select_placed (around a) s)) (CondIs (cond_placed (around a) (compare_quantified op k e s))) (value a e) (λ x. beside x.kind (select_bound a s))
      (λ x y. NumberedCond.compare_query (compared_as k) op x.tree y) (value_binds a e) (λ x. beside_binds a.functions_allowed (select_placed (around a) s) (select_bound a s) (select_is_placed s a) x.kind)
      (λ functions x y p q. two_steps (compared_with (compared_as k) op) (expr_placed (around a) e) (select_placed (around a) s) (tree_of functions x.tree) (select_of y) p q)
  cond_is_placed (between e low high) a =
      three_binds a.functions_allowed (TypedIs a e) (ExprIs a low) (ExprIs a high) (CondIs (cond_placed (around a) (between e low high))) (value a e) (λ x. agreeing a x.kind low) (λ x. agreeing a x.kind high)
      (λ x y z. NumberedCond.between x.tree y z) (value_binds a e) (λ x. agreeing_binds a x.kind low) (λ x. agreeing_binds a x.kind high)
      (λ functions x y z p q r. three_steps between (expr_placed (around a) e) (expr_placed (around a) low) (expr_placed (around a) high) (tree_of functions x.tree) (tree_of functions y) (tree_of functions z) p q r)
  cond_is_placed (in_subquery e s) a =
      two_binds a.functions_allowed (TypedIs a e) (SelectIs (select_placed (around a) s)) (CondIs (cond_placed (around a) (in_subquery e s))) (value a e) (λ x. beside x.kind (select_bound a s))
      (λ x y. NumberedCond.in_query x.tree y) (value_binds a e) (λ x. beside_binds a.functions_allowed (select_placed (around a) s) (select_bound a s) (select_is_placed s a) x.kind)
      (λ functions x y p q. two_steps in_subquery (expr_placed (around a) e) (select_placed (around a) s) (tree_of functions x.tree) (select_of y) p q)
  cond_is_placed (in_list e es) a =
      two_binds a.functions_allowed (TypedIs a e) (AreMeant (expr_placed (around a)) tree_of es) (CondIs (cond_placed (around a) (in_list e es))) (value a e) (λ x. each (agreeing a x.kind) es)
      (λ x ys. NumberedCond.in_list x.tree ys) (value_binds a e) (λ x. each_binds a.functions_allowed (agreeing a x.kind) (expr_placed (around a)) tree_of (agreeing_binds a x.kind) es)
      (λ functions x ys p q. two_steps in_list (expr_placed (around a) e) (status.each (expr_placed (around a)) es) (tree_of functions x.tree) (trees_of functions ys) p q)
  cond_is_placed (like e pattern escape) a =
      three_binds a.functions_allowed (ExprIs a e) (ExprIs a pattern) (EscapeIs a escape) (CondIs (cond_placed (around a) (like e pattern escape))) (text a e) (λ x. text a pattern) (λ x. escape_bound a escape)
      (λ x y z. NumberedCond.like x y z) (text_binds a e) (λ x. text_binds a pattern) (λ x. escape_binds a escape)
      (λ functions x y z p q r. three_steps like (expr_placed (around a) e) (expr_placed (around a) pattern) (escape_placed (around a) escape) (tree_of functions x) (tree_of functions y) (option_map (tree_of functions) z) p q r)
  cond_is_placed (is_null e) a =
      one_binds a.functions_allowed (TypedIs a e) (CondIs (cond_placed (around a) (is_null e))) (value a e) (λ x. NumberedCond.is_null x.tree) (value_binds a e)
      (λ functions x p. one_step is_null (expr_placed (around a) e) (tree_of functions x.tree) p)
  cond_is_placed (exists s) a =
      one_binds a.functions_allowed (SelectIs (select_placed (around a) s)) (CondIs (cond_placed (around a) (exists s))) (subquery (select_bound a s)) (λ y. NumberedCond.exists y)
      (subquery_binds a.functions_allowed (select_placed (around a) s) (select_bound a s) (select_is_placed s a))
      (λ functions y p. one_step exists (select_placed (around a) s) (select_of y) p)
  cond_is_placed (negated c) a =
      one_binds a.functions_allowed (CondIs (cond_placed (around a) c)) (CondIs (cond_placed (around a) (negated c))) (cond_bound a c) (λ x. NumberedCond.negated x) (cond_is_placed c a)
      (λ functions x p. one_step negated (cond_placed (around a) c) (cond_of functions x) p)
  cond_is_placed (conjunction cs) a =
      one_binds a.functions_allowed (CondsAre (conds_placed (around a) cs)) (CondIs (cond_placed (around a) (conjunction cs))) (tests_bound a cs) (λ xs. NumberedCond.conjunction xs) (tests_are_placed cs a)
      (λ functions xs p. one_step conjunction (conds_placed (around a) cs) (conds_of functions xs) p)
  cond_is_placed (disjunction cs) a =
      one_binds a.functions_allowed (CondsAre (conds_placed (around a) cs)) (CondIs (cond_placed (around a) (disjunction cs))) (terms_bound a cs) (λ xs. NumberedCond.disjunction xs) (terms_are_placed cs a)
      (λ functions xs p. one_step disjunction (conds_placed (around a) cs) (conds_of functions xs) p)

  tests_are_placed : (cs : Conds Named) (a : Surroundings) → Binds a.functions_allowed (CondsAre (conds_placed (around a) cs)) (tests_bound a cs)
  tests_are_placed no_cond a = pure_binds a.functions_allowed (CondsAre (conds_placed (around a) no_cond)) NumberedConds.no_cond (λ functions. refl)
  tests_are_placed (a_cond c cs) a =
      two_binds a.functions_allowed (CondIs (cond_placed (around a) c)) (CondsAre (conds_placed (around a) cs)) (CondsAre (conds_placed (around a) (a_cond c cs))) (test (cond_bound a c)) (λ x. tests_bound a cs)
      (λ x xs. NumberedConds.a_cond x xs) (test_binds a.functions_allowed (cond_placed (around a) c) (cond_bound a c) (cond_is_placed c a)) (λ x. tests_are_placed cs a)
      (λ functions x xs p q. two_steps a_cond (cond_placed (around a) c) (conds_placed (around a) cs) (cond_of functions x) (conds_of functions xs) p q)

  terms_are_placed : (cs : Conds Named) (a : Surroundings) → Binds a.functions_allowed (CondsAre (conds_placed (around a) cs)) (terms_bound a cs)
  terms_are_placed no_cond a = pure_binds a.functions_allowed (CondsAre (conds_placed (around a) no_cond)) NumberedConds.no_cond (λ functions. refl)
  terms_are_placed (a_cond c cs) a =
      two_binds a.functions_allowed (CondIs (cond_placed (around a) c)) (CondsAre (conds_placed (around a) cs)) (CondsAre (conds_placed (around a) (a_cond c cs))) (cond_bound a c) (λ x. terms_bound a cs)
      (λ x xs. NumberedConds.a_cond x xs) (cond_is_placed c a) (λ x. terms_are_placed cs a)
      (λ functions x xs p q. two_steps a_cond (cond_placed (around a) c) (conds_placed (around a) cs) (cond_of functions x) (conds_of functions xs) p q)

  pub clause_is_placed : (c : Clause Named) (a : Surroundings) → Binds a.functions_allowed (ClauseIs (clause_placed (around a) c)) (clause_bound a c)
  clause_is_placed absent a = pure_binds a.functions_allowed (ClauseIs (clause_placed (around a) absent)) NumberedClause.absent (λ functions. refl)
  clause_is_placed (present c) a =
      one_binds a.functions_allowed (CondIs (cond_placed (around a) c)) (ClauseIs (clause_placed (around a) (present c))) (cond_bound a c) (λ x. NumberedClause.present x) (cond_is_placed c a)
      (λ functions x p. one_step present (cond_placed (around a) c) (cond_of functions x) p)

  -- a query specification, whose set functions are its own, is placed
  pub select_is_placed : (q : Select Named) (a : Surroundings) → Binds a.functions_allowed (SelectIs (select_placed (around a) q)) (select_bound a q)
  select_is_placed (select distinct list from filter by having) a =
      select_of_parts a distinct list from filter by having (λ items. clause_is_placed filter (of_lines items a)) (λ items columns. clause_is_placed having (of_groups items columns a))
