-- Search conditions and query specifications are bound to trees by place that are well formed at the levels of their scopes. The
-- columns of a query specification are of the kinds that are known beforehand (ISO/IEC 9075:1992, 7.3 to 7.9, 7.11 and clause 8).
use Rattle.std.proofs.Common.{◌≡◌, ◌⊎◌, inl, inr, Bool, true, false, not, ◌||◌, List, [], ◌∷◌, ◌++◌, length, map, Ok, refl, sym, ap, subst, ◌∙◌}
use Rattle.std.proofs.lemmas.List.{append-nil}
use Rattle.std.specs.Prelude.{IsTrue}
use Rattle.std.specs.List.{AllZip}
use Rattle.sq_tree.specs.declared.names.ColumnReference.{ColumnReference}
use Rattle.sq_meaning.specs.Environment.{Place, Row, TableReference}
use Rattle.sq_meaning.specs.Kind.{select_kinds}
use Rattle.sq_meaning.specs.Placed.{Placed, by_place}
use Rattle.sq_meaning.specs.Query.{clause_functions, is_grouped, is_present, is_some_of, list_functions}
use Rattle.sq_meaning.specs.Spelled.{Named}
use Rattle.sq_meaning.specs.Status as status
use Rattle.sq_meaning.specs.Syntax.{SelectList, expressions, Cond, Conds, Clause, Select, conjunction, disjunction, exists, is_null, negated, no_cond, a_cond, absent, present, select}
use Rattle.sq_meaning.specs.WellFormed.{Has, HasValue, IsDeclaredAt, Level, WellFormedClause, WellFormedColumn, WellFormedCond, WellFormedExprs, WellFormedSelect, WellFormedTable, froms, shown_level}
use Rattle.sq_meaning.specs.WellFormed as meant
use Rattle.sq_bound.specs.Expression.{PlacedExpr}
use Rattle.sq_bound.specs.WellFormed.{Levels, TableKinds}
use Rattle.sq_bound.specs.declared.condition.TablePlace.{TablePlace}
use Rattle.sq_binding.specs.Condition.{clause_bound, cond_bound, noted, select_bound}
use Rattle.sq_binding.specs.Found.{Counts, Found, after, joined}
use Rattle.sq_binding.specs.From.{NamedItem, items_of, tables_of}
use Rattle.sq_binding.specs.NumberedCondition.{NumberedClause, NumberedCond, NumberedConds, NumberedSelect, clause_of, cond_of, select_of}
use Rattle.sq_binding.specs.PlacedQuery.{cond_placed, conds_placed, expr_placed, select_placed}
use Rattle.sq_binding.specs.QueryFindings.{nothing}
use Rattle.sq_binding.specs.Select.{Parts, ShownColumn, Surroundings, groups_of, is_star, list_bound, of_groups, of_lines, select_can_fail, select_found}
use Rattle.sq_binding.proofs.Standing.CondsStand.{ClauseStands, CondStands, CondsStand, K, SelectStands, among_stands, between_stands, calls_same, compare_stands, like_stands, list_stands, ok_same, quantified_stands_by, scalar_stands, select_there, value_stands, well_expr}
use Rattle.sq_binding.proofs.Notes.GroupsNoted.{groups_are}
use Rattle.sq_binding.proofs.Standing.Levels.{AreLevels, IsItemOver, NamesKnow, kinds_declared, may_first, may_second}
use Rattle.sq_binding.proofs.Inductions.Pieces.{kinds_shown}
use Rattle.sq_binding.proofs.Placing.PlacedParts.{around, groups_same, list_binds, shown_trees}
use Rattle.sq_binding.proofs.Placing.PlacedQuery.{clause_is_placed, cond_is_placed}
use Rattle.sq_binding.proofs.Inductions.QueryCases.{AreParts, IsGroupedRightly, QueryCases, at_first, clause_is, cond_is, select_is, whole_of}
use Rattle.sq_binding.proofs.Standing.SelectsStand.{IsShown, ListStands, by_well, from_over, grouping_stands, kinds_known, line_or_grouped, line_or_none, list_stands_by, list_well, none_left, reads_by, tables_stand}
use Rattle.sq_binding.proofs.Inductions.Steps.{one_step, two_steps}
use Rattle.sq_binding.proofs.Inductions.Turns.{it_is, put}

-- ---- of parts, what is found in one is found in all

shown_found : (a b c d e : Bool) → d ≡ true → (a || (b || (c || (d || e)))) ≡ true
shown_found true b c d e t = refl
shown_found false true c d e t = refl
shown_found false false true d e t = refl
shown_found false false false true e t = refl
shown_found false false false false e t = cc

groups_found : (a b c d e : Bool) → e ≡ true → (a || (b || (c || (d || e)))) ≡ true
groups_found true b c d e t = refl
groups_found false true c d e t = refl
groups_found false false true d e t = refl
groups_found false false false true e t = refl
groups_found false false false false e t = t

no_star : (line star v : Bool) → (line ≡ true) ⊎ ((star ≡ false) × (v ≡ false)) → (line ≡ true) ⊎ ((false ≡ false) × (v ≡ false))
no_star line star v (inl t) = inl t
no_star line star v (inr e) = inr (refl, e.1)

-- ---- a query specification by its parts

module _ (columns : TableKinds) (a : Surroundings) (counts : Counts) (distinct : Bool) (list : SelectList Named) (from : List TableReference) (filter : Clause Named) (by : List ColumnReference) (having : Clause Named)
    (items : Found (List NamedItem)) (kept : Found NumberedClause) (places : Found (List Place)) (shown : Found (List ShownColumn)) (groups : Found NumberedClause)
    (parts : AreParts (ClauseStands columns) a counts list from filter by having items kept places shown groups) where
  abbrev whole : Found Parts
  whole = whole_of distinct items kept places shown groups

  abbrev lines : Surroundings
  lines = of_lines (items_of items.part) a

  abbrev grouped_in : Surroundings
  grouped_in = of_groups (items_of items.part) places.part a

  abbrev tables : List TablePlace
  tables = tables_of items.part

  abbrev calls : List PlacedExpr
  calls = shown.calls ++ groups.calls

  abbrev L : ListStands columns a (items_of items.part) places.part list shown
  L = list_stands_by columns a (items_of items.part) places.part list (at_first kept.subqueries) shown parts.list_is

  -- the tree of WHERE is the one of its text
  kept_tree : clause_of [] kept.part ≡ parts.filter_is.1.tree
  kept_tree =
      let c = it_is _ (clause_bound lines filter (at_first counts.subqueries)) kept parts.filter_is.0 (clause_is_placed filter lines (at_first counts.subqueries)) in
      ok_same (clause_of [] kept.part) parts.filter_is.1.tree (sym (c.is_so [] [] refl ∙ ap (λ l. Ok (clause_of (l ++ []) kept.part)) (c.none_forbidden refl)) ∙ parts.filter_is.1.is_placed)

  having_tree : clause_of calls groups.part ≡ parts.having_is.1.tree
  having_tree =
      let at : Counts = record { functions = length shown.calls; subqueries = kept.subqueries } in
      let c = it_is _ (clause_bound grouped_in having at) groups parts.having_is.0 (clause_is_placed having grouped_in at) in
      ok_same (clause_of calls groups.part) parts.having_is.1.tree (sym (c.is_so shown.calls [] refl ∙ ap (λ l. Ok (clause_of (shown.calls ++ l) groups.part)) (append-nil groups.calls)) ∙ parts.having_is.1.is_placed)

  list_trees : shown_trees calls shown.part ≡ L.trees
  list_trees =
      let c = it_is _ (list_bound grouped_in (items_of items.part) list (at_first kept.subqueries)) shown parts.list_is (list_binds grouped_in (items_of items.part) list (at_first kept.subqueries)) in
      ok_same (shown_trees calls shown.part) L.trees (sym (c.is_so [] groups.calls refl) ∙ L.are_placed)

  select_tree : select_of (select_found whole).part ≡ select distinct (expressions L.trees) tables parts.filter_is.1.tree places.part parts.having_is.1.tree
  select_tree =
      groups_same distinct shown.part tables kept.part places.part groups.part calls (map (λ c. c.column) shown.part) (select_can_fail whole)
      ∙ (λ i. select distinct (expressions (list_trees i)) tables (kept_tree i) places.part (having_tree i))

  -- in order: those of the select list, and then of HAVING
  pub functions_in_order : list_functions (expressions L.trees) ++ clause_functions parts.having_is.1.tree ≡ calls
  functions_in_order = λ i. L.in_order i ++ parts.having_is.1.in_order i

  -- ---- the level of its select list

  abbrev level : Level (Placed TablePlace)
  level = shown_level (expressions L.trees) tables places.part parts.having_is.1.tree

  no_functions : calls ≡ [] → is_some_of (list_functions (expressions L.trees)) ≡ false
  no_functions none = ap is_some_of (L.in_order ∙ none_left shown.calls groups.calls none)

  no_having : groups.part ≡ NumberedClause.absent → is_present parts.having_is.1.tree ≡ false
  no_having none = ap is_present (sym having_tree ∙ ap (clause_of calls) none)

  ungrouped_line : places.part ≡ [] → groups.part ≡ NumberedClause.absent → calls ≡ [] → level.has_line ≡ true
  ungrouped_line no_place none nothing = λ i. not ((is_some_of (no_place i) || no_having none i) || no_functions nothing i) || is_some_of (no_place i)

  module _ (right : IsGroupedRightly (is_star list) (groups_of whole) whole) where
    line_is : (level.has_line ≡ true) ⊎ ((is_star list ≡ false) × (whole.findings.values.has_ungrouped ≡ false))
    line_is = line_or_grouped columns (is_star list) places.part groups.part calls whole level.has_line ungrouped_line right

    list_reads : IsTrue (level.has_line || not (is_star list || shown.findings.values.has_ungrouped))
    list_reads = reads_by columns level.has_line (is_star list) shown.findings.values.has_ungrouped whole.findings.values.has_ungrouped line_is
        (shown_found items.findings.values.has_ungrouped kept.findings.values.has_ungrouped places.findings.values.has_ungrouped shown.findings.values.has_ungrouped groups.findings.values.has_ungrouped)

    having_reads : IsTrue (level.has_line || not groups.findings.values.has_ungrouped)
    having_reads = reads_by columns level.has_line false groups.findings.values.has_ungrouped whole.findings.values.has_ungrouped (no_star level.has_line (is_star list) whole.findings.values.has_ungrouped line_is)
        (groups_found items.findings.values.has_ungrouped kept.findings.values.has_ungrouped places.findings.values.has_ungrouped shown.findings.values.has_ungrouped groups.findings.values.has_ungrouped)

    module _ (levels : Levels) (know : NamesKnow columns a.names) (are : AreLevels columns levels a.scopes) where
      over : AllZip (IsItemOver columns) tables (items_of items.part)
      over = from_over columns a.names from (at_first counts.subqueries) items parts.from_is know

      line_levels : AreLevels columns (meant.of_lines tables ∷ levels) lines.scopes
      line_levels = (record { over = over; is_read = refl }, are)

      shown_levels : AreLevels columns (level ∷ levels) grouped_in.scopes
      shown_levels = (record { over = over; is_read = line_or_none columns (not (is_grouped (expressions L.trees) places.part parts.having_is.1.tree)) places.part }, are)

      list_is : AllZip (IsShown columns a (level ∷ levels)) L.trees shown.part
      list_is = L.stand level levels (record { are_levels = shown_levels; functions = λ t. tt; reads = list_reads })

      whole_well : (rows_of : TablePlace → status.Outcome (List Row)) → WellFormedSelect (by_place rows_of) (K columns a) (IsDeclaredAt (kinds_declared a.parameters)) levels (select_of (select_found whole).part)
      whole_well rows_of = subst (WellFormedSelect (by_place rows_of) (K columns a) (IsDeclaredAt (kinds_declared a.parameters)) levels) (sym select_tree) (
        tables_stand columns a rows_of tables (items_of items.part) over,
        list_well columns a (level ∷ levels) rows_of L.trees shown.part list_is,
        parts.filter_is.1.stands (meant.of_lines tables ∷ levels) know (record { are_levels = line_levels; functions = λ no. cc; reads = refl }) rows_of,
        by_well columns a (meant.of_lines tables ∷ levels) rows_of places.part (grouping_stands columns lines by (at_first kept.subqueries) places parts.by_is (meant.of_lines tables ∷ levels) line_levels (λ u. refl)),
        parts.having_is.1.stands (level ∷ levels) know (record { are_levels = shown_levels; functions = λ t. tt; reads = having_reads }) rows_of,
      )

      whole_kinds : select_kinds (K columns a) (froms levels) (select_of (select_found whole).part) ≡ Ok (kinds_shown (map (λ c. c.column) shown.part))
      whole_kinds = ap (select_kinds (K columns a) (froms levels)) select_tree ∙ kinds_known columns a (level ∷ levels) L.trees shown.part list_is

    pub select_stands_by : SelectStands columns a counts (select distinct list from filter by having) (select_found whole)
    select_stands_by = record {
      none = refl;
      groups = groups_are (map (λ c. c.tree) shown.part) places.part groups.part calls ((λ i. list_functions (expressions (list_trees i)) ++ clause_functions (having_tree i)) ∙ functions_in_order);
      stands = λ levels know are rows_of. whole_well levels know are rows_of;
      kinds_are = λ levels know are. whole_kinds levels know are;
    }

-- ---- all of them

module _ (columns : TableKinds) where
  both_conds : (a : Surroundings) (counts : Counts) (c : Cond Named) (cs : Conds Named) (x : Found NumberedCond) (xs : Found NumberedConds) (part : NumberedConds) → CondStands columns a counts c x → CondsStand columns a (after counts x) cs xs
      → CondsStand columns a counts (a_cond c cs) (joined x (put part xs))
  both_conds a counts c cs x xs part h g = record {
    tree = a_cond h.tree g.tree;
    is_placed = two_steps a_cond (cond_placed (around a) c) (conds_placed (around a) cs) h.tree g.tree h.is_placed g.is_placed;
    in_order = λ i. h.in_order i ++ g.in_order i;
    stands = λ levels know m rows_of. (
      h.stands levels know (may_first columns levels a.scopes a.functions_allowed x.findings.values.has_ungrouped xs.findings.values.has_ungrouped m) rows_of,
      g.stands levels know (may_second columns levels a.scopes a.functions_allowed x.findings.values.has_ungrouped xs.findings.values.has_ungrouped m) rows_of,
    );
  }

  cases : QueryCases (CondStands columns) (CondsStand columns) (ClauseStands columns) (SelectStands columns)
  cases = record {
    of_compare = compare_stands columns;
    of_scalar = λ a counts op e s x q is h one. scalar_stands columns a counts e s x q is h one op;
    of_quantified = λ a counts op k e s x q is h one. quantified_stands_by columns a counts e s x q is h one op k;
    of_between = between_stands columns;
    of_among = λ a counts e s x q is h one. among_stands columns a counts e s x q is h one;
    of_list = list_stands columns;
    of_like = like_stands columns;
    of_null = λ a counts e x is.
        let v = value_stands columns a counts e x is in
        record {
          tree = is_null v.tree;
          is_placed = one_step is_null (expr_placed (around a) e) v.tree v.is_placed;
          in_order = v.in_order;
          stands = λ levels know m rows_of. well_expr columns a levels rows_of v.tree x.part.kind (v.stands levels m);
        };
    of_exists = λ a counts s q h. record {
      tree = exists (select_of q.part);
      is_placed = one_step exists (select_placed (around a) s) (select_of q.part) (select_there s a counts q h.0);
      in_order = sym (calls_same q ∙ h.1.none);
      stands = λ levels know m rows_of. h.1.stands levels know m.are_levels rows_of;
    };
    of_negated = λ a counts c x h. record {
      tree = negated h.1.tree;
      is_placed = one_step negated (cond_placed (around a) c) h.1.tree h.1.is_placed;
      in_order = h.1.in_order;
      stands = h.1.stands;
    };
    of_conjunction = λ a counts cs xs h. record { tree = conjunction h.tree; is_placed = one_step conjunction (conds_placed (around a) cs) h.tree h.is_placed; in_order = h.in_order; stands = h.stands };
    of_disjunction = λ a counts cs xs h. record { tree = disjunction h.tree; is_placed = one_step disjunction (conds_placed (around a) cs) h.tree h.is_placed; in_order = h.in_order; stands = h.stands };
    of_none = λ a counts. record { tree = no_cond; is_placed = refl; in_order = refl; stands = λ levels know m rows_of. tt };
    of_test = λ a counts c cs x xs h g. both_conds a counts c cs x xs (NumberedConds.a_cond (noted x).part xs.part) h.1 g;
    of_term = λ a counts c cs x xs h g. both_conds a counts c cs x xs (NumberedConds.a_cond x.part xs.part) h.1 g;
    of_absent = λ a counts. record { tree = absent; is_placed = refl; in_order = refl; stands = λ levels know m rows_of. tt };
    of_present = λ a counts c x h. record { tree = present h.1.tree; is_placed = one_step present (cond_placed (around a) c) h.1.tree h.1.is_placed; in_order = h.1.in_order; stands = h.1.stands };
    of_select = λ a counts distinct list from filter by having items kept places shown groups parts right. select_stands_by columns a counts distinct list from filter by having items kept places shown groups parts right;
  }

  -- what a search condition is bound to is well formed
  pub cond_stands : (c : Cond Named) (a : Surroundings) (counts : Counts) (x : Found NumberedCond) → cond_bound a c counts ≡ Ok x → CondStands columns a counts c x
  cond_stands = cond_is (CondStands columns) (CondsStand columns) (ClauseStands columns) (SelectStands columns) cases

  pub clause_stands : (c : Clause Named) (a : Surroundings) (counts : Counts) (x : Found NumberedClause) → clause_bound a c counts ≡ Ok x → ClauseStands columns a counts c x
  clause_stands = clause_is (CondStands columns) (CondsStand columns) (ClauseStands columns) (SelectStands columns) cases

  -- what a query specification is bound to is well formed
  pub select_stands : (s : Select Named) (a : Surroundings) (counts : Counts) (x : Found NumberedSelect) → select_bound a s counts ≡ Ok x → SelectStands columns a counts s x
  select_stands = select_is (CondStands columns) (CondsStand columns) (ClauseStands columns) (SelectStands columns) cases

  -- whatever set functions its query has beside its own
  pub cond_tree : (c : Cond Named) (a : Surroundings) (counts : Counts) (x : Found NumberedCond) (is : cond_bound a c counts ≡ Ok x) (before later : List PlacedExpr) → length before ≡ counts.functions
      → cond_of (before ++ (x.calls ++ later)) x.part ≡ (cond_stands c a counts x is).tree
  cond_tree c a counts x is before later size =
      ok_same (cond_of (before ++ (x.calls ++ later)) x.part) (cond_stands c a counts x is).tree
      (sym ((it_is _ (cond_bound a c counts) x is (cond_is_placed c a counts)).is_so before later size) ∙ (cond_stands c a counts x is).is_placed)
