-- Findings in search conditions and query specifications: they are made exactly if they are asked of one of their sites (ISO/IEC
-- 9075:1992, 7.3 to 7.9, 7.11 and clause 8).
use Rattle.std.proofs.Common.{◌≡◌, Bool, true, false, ◌||◌, List, [], ◌∷◌, ◌++◌, length, map, Option, Some, None, Ok, Err, refl, sym, ap, ◌∙◌}
use Rattle.std.specs.List.{AllZip, flat_map, list_any}
use Rattle.std.specs.Prelude.{⊤, if◌then◌else◌, nat_lt}
use Rattle.sq_value.proofs.Truths.{or_false as or_none, or_assoc_left}
use Rattle.sq_tree.specs.declared.cond.Comparison.{Comparison}
use Rattle.sq_tree.specs.declared.cond.Quantifier.{Quantifier}
use Rattle.sq_tree.specs.declared.names.ColumnReference.{ColumnReference}
use Rattle.sq_meaning.specs.Environment.{Place, TableReference}
use Rattle.sq_meaning.specs.Query.{is_grouped}
use Rattle.sq_meaning.specs.SortKeys.{item_name}
use Rattle.sq_meaning.specs.Spelled.{Named}
use Rattle.sq_meaning.specs.Syntax.{Expr, Cond, Conds, Clause, Select, SelectList, all_columns, expressions, compare, compare_subquery, compare_quantified, between, in_subquery, in_list, like, is_null, exists, negated, conjunction, disjunction, no_cond, a_cond, absent, present, select}
use Rattle.sq_bound.specs.declared.condition.Compared.TheVariants.{Scalar}
use Rattle.sq_meaning.specs.Binding.{Judged}
use Rattle.sq_meaning.specs.Site.{Around, EnclosingQuery, Site, clause_sites, compared_sites, cond_sites, conds_sites, escape_sites, expr_sites, list_count, list_sites, plain_query, select_sites, shown_query, text_sites}
use Rattle.sq_meaning.specs.declared.fault.BindingFault.TheVariants as fault
use Rattle.sq_binding.specs.Condition.{agreeing, beside, clause_bound, compared_as, cond_bound, escape_bound, noted, scalar, select_bound, subquery, terms_bound, test, tests_bound, text}
use Rattle.sq_binding.specs.Expression.{column_findings, place_of_found}
use Rattle.sq_binding.specs.Found.{Binding, Counts, Found, ◌>>=◌, ◌>>◌, each, from_first, has_found, must, outcome, pure}
use Rattle.sq_binding.specs.From.{NamedItem, NamedTables, from_bound, items_of, tables_of}
use Rattle.sq_binding.specs.NumberedCondition.{NumberedClause, NumberedCond, NumberedConds, NumberedGroups, NumberedSelect}
use Rattle.sq_binding.specs.QueryFindings.{QueryFindings, of_values}
use Rattle.sq_binding.specs.Scope.{FromItem, Scope, column_meant}
use Rattle.sq_binding.specs.Select.{Parts, ShownColumn, Surroundings, Typed, columns_of_items, grouping_column, grouping_place, groups_of, is_star, list_bound, most_columns, rightly_grouped, select_can_fail, select_found, shown_column, value}
use Rattle.sq_binding.proofs.Faultless.Clean.{steps_of}
use Rattle.sq_binding.proofs.Faultless.CleanConds.{known_of}
use Rattle.sq_binding.proofs.Faultless.CleanExprs.{if_ok}
use Rattle.sq_binding.proofs.Faultless.CleanQuery.{anything_known}
use Rattle.sq_binding.proofs.Faultless.CleanSelect.{at_most_ok, outcome_ok}
use Rattle.sq_binding.proofs.FaultsFound.FoundKinds.{standing}
use Rattle.sq_binding.proofs.FaultsFound.FromFaults.{AreItems, NamesFit, from_judges, one_each}
use Rattle.sq_binding.proofs.FaultsFound.Known.{IsOver}
use Rattle.sq_binding.proofs.FaultsFound.PredicateFaults.{surrounded}
use Rattle.sq_binding.proofs.AtSites.Seen.{Sees, SeenIf, agreeing_seen, any_both, beside_seen, beside_value_seen, compared_any, each_seen, escape_seen, found_seen, from_seen, is_seen, last_seen, must_seen, outcome_seen, pure_seen, scalar_seen, silent_first, subquery_is_seen, text_seen, then_seen, value_is_seen}
use Rattle.sq_binding.proofs.FaultsFound.SelectFaults.{groups_over, lines_over}

once_more : (a b c : Bool) → (a || (b || c)) ≡ ((a || b) || (a || c))
once_more true b c = refl
once_more false b c = refl

-- the parts of a query specification are bound in another order than that of its sites
reordered : (tables list filter by having : Bool) → (tables || (filter || (by || (list || having)))) ≡ ((((tables || list) || filter) || by) || having)
reordered true list filter by having = refl
reordered false true true by having = refl
reordered false true false true having = refl
reordered false true false false having = refl
reordered false false true by having = refl
reordered false false false true having = refl
reordered false false false false having = refl

module _ (names : NamedTables) (j : Judged) (fit : NamesFit names j) (test_site : Site → Bool) (seen : QueryFindings → Bool) (Good : List EnclosingQuery → Bool → Type 0) (sees : Sees names j test_site seen Good) where
  abbrev If : {A : Type 0} → List Site → Binding A → Type 0
  If sites b = SeenIf names j test_site seen Good sees sites b

  abbrev any : List Site → Bool
  any sites = list_any test_site sites

  test_seen : (sites : List Site) (c : Binding NumberedCond) → If sites c → If sites (test c)
  test_seen sites c h counts z is = let s = steps_of (c counts) (λ x. Ok (noted x)) z is in is_seen names j test_site seen Good sees (noted s.step) z s.second (any sites) (h counts s.step s.first)

  module _ (scopes : List Scope) (queries : List EnclosingQuery) (over : AllZip (IsOver j.known) scopes queries) (allowed : Bool) (good : Good queries allowed) where
    abbrev here : Around
    here = standing queries allowed false

    abbrev a : Surroundings
    a = surrounded names j scopes allowed

    abbrev pub CondSeen : Cond Named → Type 0
    CondSeen c = If (cond_sites j.known here c) (cond_bound a c)

    abbrev pub SelectSeen : Select Named → Type 0
    SelectSeen q = If (select_sites j.known here q) (select_bound a q)

    behind : (e : Expr Named) (ys zs : List Site) (f : Typed → Binding NumberedCond) → ((x : Typed) → If ys (f x)) → (any (expr_sites j.known here e) || any ys) ≡ any zs → If zs (value a e >>= f)
    behind e ys zs f h join = then_seen names j test_site seen Good sees (expr_sites j.known here e) ys zs (λ x. ⊤) (value a e) f (anything_known (value a e)) (value_is_seen names j test_site seen Good sees scopes queries over allowed good e) (λ x u. h x) join

    agree : (x : Typed) (e : Expr Named) → If (expr_sites j.known here e) (agreeing a x.kind e)
    agree x e = agreeing_seen names j test_site seen Good sees scopes queries over allowed good x.kind e

    both_any : (e f : Expr Named) → (any (expr_sites j.known here e) || any (expr_sites j.known here f)) ≡ any (compared_sites j.known here e f)
    both_any e f = sym (compared_any names j test_site seen Good sees scopes queries over allowed good e f)

    compare_seen : (op : Comparison) (e f : Expr Named) → CondSeen (compare op e f)
    compare_seen op e f =
        behind e (expr_sites j.known here f) (compared_sites j.known here e f) (λ x. agreeing a x.kind f >>= λ y. pure (NumberedCond.compare op x.tree y))
        (λ x. last_seen names j test_site seen Good sees (expr_sites j.known here f) (agreeing a x.kind f) (λ y. NumberedCond.compare op x.tree y) (agree x f)) (both_any e f)

    between_seen : (e low high : Expr Named) → CondSeen (between e low high)
    between_seen e low high =
        behind e (expr_sites j.known here low ++ expr_sites j.known here high) (compared_sites j.known here e low ++ compared_sites j.known here e high)
        (λ x. agreeing a x.kind low >>= λ y. agreeing a x.kind high >>= λ z. pure (NumberedCond.between x.tree y z))
        (λ x. then_seen names j test_site seen Good sees (expr_sites j.known here low) (expr_sites j.known here high) (expr_sites j.known here low ++ expr_sites j.known here high) (λ y. ⊤) (agreeing a x.kind low)
        (λ y. agreeing a x.kind high >>= λ z. pure (NumberedCond.between x.tree y z)) (anything_known (agreeing a x.kind low)) (agree x low)
        (λ y u. last_seen names j test_site seen Good sees (expr_sites j.known here high) (agreeing a x.kind high) (λ z. NumberedCond.between x.tree y z) (agree x high))
        (sym (any_both test_site (expr_sites j.known here low) (expr_sites j.known here high))))
        (ap (λ b. any (expr_sites j.known here e) || b) (any_both test_site (expr_sites j.known here low) (expr_sites j.known here high))
        ∙ once_more (any (expr_sites j.known here e)) (any (expr_sites j.known here low)) (any (expr_sites j.known here high)) ∙ (λ i. both_any e low i || both_any e high i)
        ∙ sym (any_both test_site (compared_sites j.known here e low) (compared_sites j.known here e high)))

    -- the value before a list is asked again with each of the list
    pairs_any : (e : Expr Named) (es : List (Expr Named)) → (any (expr_sites j.known here e) || any (flat_map (expr_sites j.known here) es)) ≡ (any (expr_sites j.known here e) || any (flat_map (compared_sites j.known here e) es))
    pairs_any e [] = refl
    pairs_any e (f ∷ es) =
        ap (λ b. first || b) (any_both test_site (expr_sites j.known here f) (flat_map (expr_sites j.known here) es))
        ∙ once_more first (any (expr_sites j.known here f)) (any (flat_map (expr_sites j.known here) es))
        ∙ ap (λ b. (first || any (expr_sites j.known here f)) || b) (pairs_any e es)
        ∙ together first (any (expr_sites j.known here f)) (any (flat_map (compared_sites j.known here e) es))
        ∙ ap (λ b. first || b) (ap (λ b. b || any (flat_map (compared_sites j.known here e) es)) (both_any e f) ∙ sym (any_both test_site (compared_sites j.known here e f) (flat_map (compared_sites j.known here e) es)))
      where
        first : Bool
        first = any (expr_sites j.known here e)

        together : (x y z : Bool) → ((x || y) || (x || z)) ≡ (x || ((x || y) || z))
        together true y z = refl
        together false y z = refl

    list_seen : (e : Expr Named) (es : List (Expr Named)) → CondSeen (in_list e es)
    list_seen e es =
        behind e (flat_map (expr_sites j.known here) es) (expr_sites j.known here e ++ flat_map (compared_sites j.known here e) es) (λ x. each (agreeing a x.kind) es >>= λ ys. pure (NumberedCond.in_list x.tree ys))
        (λ x. last_seen names j test_site seen Good sees (flat_map (expr_sites j.known here) es) (each (agreeing a x.kind) es) (λ ys. NumberedCond.in_list x.tree ys)
        (each_seen names j test_site seen Good sees (expr_sites j.known here) (agreeing a x.kind) (agree x) es))
        (pairs_any e es ∙ sym (any_both test_site (expr_sites j.known here e) (flat_map (compared_sites j.known here e) es)))

    like_seen : (e pattern : Expr Named) (escape : Option (Expr Named)) → CondSeen (like e pattern escape)
    like_seen e pattern escape =
        then_seen names j test_site seen Good sees first (second ++ third) ((first ++ second) ++ third) (λ x. ⊤) (text a e) (λ x. text a pattern >>= λ y. escape_bound a escape >>= λ z. pure (NumberedCond.like x y z)) (anything_known (text a e))
        (text_seen names j test_site seen Good sees scopes queries over allowed good e)
        (λ x u. then_seen names j test_site seen Good sees second third (second ++ third) (λ y. ⊤) (text a pattern) (λ y. escape_bound a escape >>= λ z. pure (NumberedCond.like x y z)) (anything_known (text a pattern))
        (text_seen names j test_site seen Good sees scopes queries over allowed good pattern)
        (λ y v. last_seen names j test_site seen Good sees third (escape_bound a escape) (λ z. NumberedCond.like x y z) (escape_seen names j test_site seen Good sees scopes queries over allowed good escape)) (sym (any_both test_site second third)))
        (ap (λ b. any first || b) (any_both test_site second third) ∙ or_assoc_left (any first) (any second) (any third) ∙ ap (λ b. b || any third) (sym (any_both test_site first second)) ∙ sym (any_both test_site (first ++ second) third))
      where
        first : List Site
        first = text_sites j.known here e

        second : List Site
        second = text_sites j.known here pattern

        third : List Site
        third = escape_sites j.known here escape

    module _ (q : Select Named) (h : SelectSeen q) where
      abbrev S : List Site
      S = select_sites j.known here q

      abbrev selected : Binding NumberedSelect
      selected = select_bound a q

      compare_scalar_seen : (op : Comparison) (e : Expr Named) → CondSeen (compare_subquery op e q)
      compare_scalar_seen op e =
          beside_value_seen names j test_site seen Good sees scopes queries over allowed good q selected h e (λ x. scalar x.kind selected >>= λ y. pure (NumberedCond.compare_query Scalar op x.tree y))
          (λ x. last_seen names j test_site seen Good sees S (scalar x.kind selected) (λ y. NumberedCond.compare_query Scalar op x.tree y) (scalar_seen names j test_site seen Good sees scopes queries over allowed good q selected h x.kind))

      compare_rows_seen : (op : Comparison) (k : Quantifier) (e : Expr Named) → CondSeen (compare_quantified op k e q)
      compare_rows_seen op k e =
          beside_value_seen names j test_site seen Good sees scopes queries over allowed good q selected h e (λ x. beside x.kind selected >>= λ y. pure (NumberedCond.compare_query (compared_as k) op x.tree y))
          (λ x. last_seen names j test_site seen Good sees S (beside x.kind selected) (λ y. NumberedCond.compare_query (compared_as k) op x.tree y) (beside_seen names j test_site seen Good sees scopes queries over allowed good q selected h x.kind))

      among_seen : (e : Expr Named) → CondSeen (in_subquery e q)
      among_seen e =
          beside_value_seen names j test_site seen Good sees scopes queries over allowed good q selected h e (λ x. beside x.kind selected >>= λ y. pure (NumberedCond.in_query x.tree y))
          (λ x. last_seen names j test_site seen Good sees S (beside x.kind selected) (λ y. NumberedCond.in_query x.tree y) (beside_seen names j test_site seen Good sees scopes queries over allowed good q selected h x.kind))

      exists_seen : CondSeen (exists q)
      exists_seen counts z is =
          last_seen names j test_site seen Good sees S (subquery selected) (λ y. NumberedCond.exists y) (subquery_is_seen names j test_site seen Good sees scopes queries over allowed good q selected h) counts z is
          ∙ sym (silent_first names j test_site seen Good sees Site.subquery_read S sees.subquery_silent)

    more_seen : (c : Cond Named) (cs : Conds Named) (f : Binding NumberedCond) → If (cond_sites j.known here c) f → (rest : Binding NumberedConds) → If (conds_sites j.known here cs) rest
        → If (conds_sites j.known here (a_cond c cs)) (f >>= λ x. rest >>= λ xs. pure (NumberedConds.a_cond x xs))
    more_seen c cs f h rest k =
        then_seen names j test_site seen Good sees (cond_sites j.known here c) (conds_sites j.known here cs) (cond_sites j.known here c ++ conds_sites j.known here cs) (λ x. ⊤) f (λ x. rest >>= λ xs. pure (NumberedConds.a_cond x xs))
        (anything_known f) h (λ x u. last_seen names j test_site seen Good sees (conds_sites j.known here cs) rest (λ xs. NumberedConds.a_cond x xs) k) (sym (any_both test_site (cond_sites j.known here c) (conds_sites j.known here cs)))

  -- ---- parts of a query specification

  module _ (scopes : List Scope) (queries : List EnclosingQuery) (over : AllZip (IsOver j.known) scopes queries) where
    column_is_seen : Good queries false → (c : ColumnReference) → If (Site.column_read (standing queries false false) c ∷ []) (grouping_column (surrounded names j scopes false) c)
    column_is_seen good c =
        then_seen names j test_site seen Good sees [] (read ∷ []) (read ∷ []) (λ found. column_meant c scopes ≡ Ok found) (outcome (column_meant c scopes)) grouping_place (λ counts z is. outcome_ok (column_meant c scopes) counts z is)
        (outcome_seen names j test_site seen Good sees (column_meant c scopes))
        (λ found is. then_seen names j test_site seen Good sees [] (read ∷ []) (read ∷ []) (λ u. ⊤) (must found.is_grouped fault.UngroupedColumn) (λ _. has_found (of_values (column_findings found)) >> pure (place_of_found found))
        (anything_known (must found.is_grouped fault.UngroupedColumn)) (must_seen names j test_site seen Good sees found.is_grouped fault.UngroupedColumn)
        (λ u v. last_seen names j test_site seen Good sees (read ∷ []) (has_found (of_values (column_findings found))) (λ _. place_of_found found)
        (found_seen names j test_site seen Good sees (of_values (column_findings found)) (read ∷ []) (sees.column_seen scopes queries over good c found is ∙ sym (or_none (test_site read))))) refl) refl
      where
        read : Site
        read = Site.column_read (standing queries false false) c

    star_any : (g : Bool) → any (if g then Site.star_of_groups ∷ [] else []) ≡ false
    star_any true = ap (λ b. b || false) sees.star_silent
    star_any false = refl

    list_is_seen : Good queries true → (items : List FromItem) (list : SelectList Named) (grouped : Bool) → If (list_sites j.known (standing queries true false) list grouped) (list_bound (surrounded names j scopes true) items list)
    list_is_seen good items all_columns grouped counts z is =
        pure_seen names j test_site seen Good sees (columns_of_items items) counts z (at_most_ok (nat_lt most_columns (length (columns_of_items items))) (pure (columns_of_items items)) counts z is).1 ∙ sym (star_any grouped)
    list_is_seen good items (expressions es) grouped counts z is =
        each_seen names j test_site seen Good sees (expr_sites j.known (standing queries true false)) (shown_column (surrounded names j scopes true))
        (λ e. last_seen names j test_site seen Good sees (expr_sites j.known (standing queries true false) e) (value (surrounded names j scopes true) e) (λ x. record { tree = x.tree; column = record { name = item_name e; kind = x.kind } })
        (value_is_seen names j test_site seen Good sees scopes queries over true good e)) es counts z (at_most_ok (nat_lt most_columns (length es)) (each (shown_column (surrounded names j scopes true)) es) counts z is).1

  -- ---- a query specification

  rightly_seen : (star : Bool) (groups : NumberedGroups) (x : Found Parts) (z : Found NumberedSelect) → rightly_grouped star groups x ≡ Ok z → seen z.findings ≡ seen x.findings
  rightly_seen star NumberedGroups.not_grouped x z is = is_seen names j test_site seen Good sees (select_found x) z is (seen x.findings) (sees.noted_seen x.findings (select_can_fail x))
  rightly_seen star (NumberedGroups.grouped by functions having) x z is =
      let starred = if_ok star fault.CountMismatch (if x.findings.values.has_ungrouped then Err fault.UngroupedColumn else Ok (select_found x)) z is in
      let free = if_ok x.findings.values.has_ungrouped fault.UngroupedColumn (Ok (select_found x)) z starred.1 in
      is_seen names j test_site seen Good sees (select_found x) z free.1 (seen x.findings) (sees.noted_seen x.findings (select_can_fail x))

  select_is_seen : (distinct : Bool) (list : SelectList Named) (from : List TableReference) (filter : Clause Named) (by : List ColumnReference) (having : Clause Named) (scopes : List Scope) (queries : List EnclosingQuery)
      (over : AllZip (IsOver j.known) scopes queries) (allowed : Bool) → Good queries allowed
      → ((items : List NamedItem) (are : AreItems j from items) → If (clause_sites j.known (standing (plain_query from ∷ queries) false false) filter) (clause_bound (surrounded names j (lines_over items ∷ scopes) false) filter))
      → ((items : List NamedItem) (are : AreItems j from items) (columns : List Place) → If (clause_sites j.known (standing (shown_query from list by having ∷ queries) true false) having) (clause_bound (surrounded names j (groups_over items columns ∷ scopes) true) having))
      → If (select_sites j.known (standing queries allowed false) (select distinct list from filter by having)) (select_bound (surrounded names j scopes allowed) (select distinct list from filter by having))
  select_is_seen distinct list from filter by having scopes queries over allowed good filter_is having_is counts z is =
      let steps = steps_of (parts first_counts) (λ x. rightly_grouped (is_star list) (groups_of x) x) z is in
      rightly_seen (is_star list) (groups_of steps.step) steps.step z steps.second ∙ parts_seen first_counts steps.step steps.first
    where
      first_counts : Counts
      first_counts = record counts { functions = 0 }

      plain : EnclosingQuery
      plain = plain_query from

      shown_here : EnclosingQuery
      shown_here = shown_query from list by having

      lines : List NamedItem → Surroundings
      lines items = surrounded names j (lines_over items ∷ scopes) false

      groups : List NamedItem → List Place → Surroundings
      groups items columns = surrounded names j (groups_over items columns ∷ scopes) true

      whole : List NamedItem → NumberedClause → List Place → List ShownColumn → NumberedClause → Parts
      whole items y columns shown kept = record { distinct = distinct; from = tables_of items; filter = y; by = columns; shown = shown; having = kept }

      after_list : List NamedItem → NumberedClause → List Place → List ShownColumn → Binding Parts
      after_list items y columns shown = clause_bound (groups items columns) having >>= λ kept. pure (whole items y columns shown kept)

      after_columns : List NamedItem → NumberedClause → List Place → Binding Parts
      after_columns items y columns = list_bound (groups items columns) (items_of items) list >>= after_list items y columns

      after_filter : List NamedItem → NumberedClause → Binding Parts
      after_filter items y = each (grouping_column (lines items)) by >>= after_columns items y

      after_from : List NamedItem → Binding Parts
      after_from items = from_first (clause_bound (lines items) filter) >>= after_filter items

      parts : Binding Parts
      parts = from_bound names from >>= after_from

      T : List Site
      T = flat_map (λ r. Site.table_read r ∷ []) from

      L : List Site
      L = list_sites j.known (standing (shown_here ∷ queries) true false) list (is_grouped list by having)

      W : List Site
      W = clause_sites j.known (standing (plain ∷ queries) false false) filter

      B : List Site
      B = flat_map (λ c. Site.column_read (standing (plain ∷ queries) false false) c ∷ []) by

      H : List Site
      H = clause_sites j.known (standing (shown_here ∷ queries) true false) having

      all_sites : List Site
      all_sites = select_sites j.known (standing queries allowed false) (select distinct list from filter by having)

      over_items : (items : List NamedItem) → AreItems j from items → (grouping : Option (List Place)) (columns : Option (List ColumnReference))
          → AllZip (IsOver j.known) (record { items = items_of items; grouping = grouping } ∷ scopes) (record { from = from; grouping = columns } ∷ queries)
      over_items items are grouping columns = (record { items = are.items_are; known = are.known }, over)

      front : (list_any test_site (map Site.table_read from ++ (Site.from_whole from ∷ (Site.column_count (list_count j.known.tables from list) ∷ L)))) ≡ (any T || any L)
      front =
          any_both test_site (map Site.table_read from) (Site.from_whole from ∷ (Site.column_count (list_count j.known.tables from list) ∷ L))
          ∙ (λ i. any (sym (one_each Site.table_read from) i) || silent_first names j test_site seen Good sees (Site.from_whole from) (Site.column_count (list_count j.known.tables from list) ∷ L) (sees.whole_silent from) i)
          ∙ ap (λ b. any T || b) (silent_first names j test_site seen Good sees (Site.column_count (list_count j.known.tables from list)) L (sees.width_silent (list_count j.known.tables from list)))

      together : (any T || any (W ++ (B ++ (L ++ H)))) ≡ any all_sites
      together =
          ap (λ b. any T || b) (any_both test_site W (B ++ (L ++ H)) ∙ ap (λ b. any W || b) (any_both test_site B (L ++ H) ∙ ap (λ b. any B || b) (any_both test_site L H)))
          ∙ reordered (any T) (any L) (any W) (any B) (any H)
          ∙ (λ i. (((sym front i || any W) || any (one_each (Site.column_read (standing (plain ∷ queries) false false)) by i)) || any H))
          ∙ sym (any_both test_site (((map Site.table_read from ++ (Site.from_whole from ∷ (Site.column_count (list_count j.known.tables from list) ∷ L))) ++ W) ++ map (Site.column_read (standing (plain ∷ queries) false false)) by) H
          ∙ ap (λ b. b || any H) (any_both test_site ((map Site.table_read from ++ (Site.from_whole from ∷ (Site.column_count (list_count j.known.tables from list) ∷ L))) ++ W) (map (Site.column_read (standing (plain ∷ queries) false false)) by)
          ∙ ap (λ b. b || any (map (Site.column_read (standing (plain ∷ queries) false false)) by)) (any_both test_site (map Site.table_read from ++ (Site.from_whole from ∷ (Site.column_count (list_count j.known.tables from list) ∷ L))) W)))

      parts_seen : If all_sites parts
      parts_seen =
          then_seen names j test_site seen Good sees T (W ++ (B ++ (L ++ H))) all_sites (AreItems j from) (from_bound names from) after_from
          (known_of j (map Site.table_read from ++ Site.from_whole from ∷ []) ⊤ ⊤ (AreItems j from) (from_bound names from) (from_judges names j fit ⊤ ⊤ from)) (from_seen names j test_site seen Good sees from)
          (λ items are. then_seen names j test_site seen Good sees W (B ++ (L ++ H)) (W ++ (B ++ (L ++ H))) (λ x. ⊤) (from_first (clause_bound (lines items) filter)) (after_filter items) (anything_known (from_first (clause_bound (lines items) filter)))
          (λ counts z is. filter_is items are (record counts { functions = 0 }) z is)
          (λ y u. then_seen names j test_site seen Good sees B (L ++ H) (B ++ (L ++ H)) (λ x. ⊤) (each (grouping_column (lines items)) by) (after_columns items y) (anything_known (each (grouping_column (lines items)) by))
          (each_seen names j test_site seen Good sees (λ c. Site.column_read (standing (plain ∷ queries) false false) c ∷ []) (grouping_column (lines items))
          (column_is_seen (lines_over items ∷ scopes) (plain ∷ queries) (over_items items are None None) (sees.lines_good queries allowed plain good)) by)
          (λ columns v. then_seen names j test_site seen Good sees L H (L ++ H) (λ x. ⊤) (list_bound (groups items columns) (items_of items) list) (after_list items y columns) (anything_known (list_bound (groups items columns) (items_of items) list))
          (list_is_seen (groups_over items columns ∷ scopes) (shown_here ∷ queries) (over_items items are (Some columns) (if is_grouped list by having then Some by else None)) (sees.groups_good queries allowed shown_here good) (items_of items) list (is_grouped list by having))
          (λ shown w. last_seen names j test_site seen Good sees H (clause_bound (groups items columns) having) (λ kept. whole items y columns shown kept) (having_is items are columns))
          (sym (any_both test_site L H))) (sym (any_both test_site B (L ++ H)))) (sym (any_both test_site W (B ++ (L ++ H))))) together

  mutual
    -- a property is found in a search condition exactly where it is asked of one of its sites
    pub cond_seen : (c : Cond Named) (scopes : List Scope) (queries : List EnclosingQuery) (over : AllZip (IsOver j.known) scopes queries) (allowed : Bool) (good : Good queries allowed) → CondSeen scopes queries over allowed good c
    cond_seen (compare op e f) scopes queries over allowed good = compare_seen scopes queries over allowed good op e f
    cond_seen (compare_subquery op e q) scopes queries over allowed good = compare_scalar_seen scopes queries over allowed good q (select_seen q scopes queries over allowed good) op e
    cond_seen (compare_quantified op k e q) scopes queries over allowed good = compare_rows_seen scopes queries over allowed good q (select_seen q scopes queries over allowed good) op k e
    cond_seen (between e low high) scopes queries over allowed good = between_seen scopes queries over allowed good e low high
    cond_seen (in_subquery e q) scopes queries over allowed good = among_seen scopes queries over allowed good q (select_seen q scopes queries over allowed good) e
    cond_seen (in_list e es) scopes queries over allowed good = list_seen scopes queries over allowed good e es
    cond_seen (like e pattern escape) scopes queries over allowed good = like_seen scopes queries over allowed good e pattern escape
    cond_seen (is_null e) scopes queries over allowed good =
        last_seen names j test_site seen Good sees (expr_sites j.known (standing queries allowed false) e) (value (surrounded names j scopes allowed) e) (λ x. NumberedCond.is_null x.tree) (value_is_seen names j test_site seen Good sees scopes queries over allowed good e)
    cond_seen (exists q) scopes queries over allowed good = exists_seen scopes queries over allowed good q (select_seen q scopes queries over allowed good)
    cond_seen (negated c) scopes queries over allowed good =
        last_seen names j test_site seen Good sees (cond_sites j.known (standing queries allowed false) c) (cond_bound (surrounded names j scopes allowed) c) (λ x. NumberedCond.negated x) (cond_seen c scopes queries over allowed good)
    cond_seen (conjunction cs) scopes queries over allowed good =
        last_seen names j test_site seen Good sees (conds_sites j.known (standing queries allowed false) cs) (tests_bound (surrounded names j scopes allowed) cs) (λ x. NumberedCond.conjunction x) (tests_seen cs scopes queries over allowed good)
    cond_seen (disjunction cs) scopes queries over allowed good =
        last_seen names j test_site seen Good sees (conds_sites j.known (standing queries allowed false) cs) (terms_bound (surrounded names j scopes allowed) cs) (λ x. NumberedCond.disjunction x) (terms_seen cs scopes queries over allowed good)

    tests_seen : (cs : Conds Named) (scopes : List Scope) (queries : List EnclosingQuery) (over : AllZip (IsOver j.known) scopes queries) (allowed : Bool) (good : Good queries allowed)
        → If (conds_sites j.known (standing queries allowed false) cs) (tests_bound (surrounded names j scopes allowed) cs)
    tests_seen no_cond scopes queries over allowed good = pure_seen names j test_site seen Good sees NumberedConds.no_cond
    tests_seen (a_cond c cs) scopes queries over allowed good =
        more_seen scopes queries over allowed good c cs (test (cond_bound (surrounded names j scopes allowed) c)) (test_seen (cond_sites j.known (standing queries allowed false) c) (cond_bound (surrounded names j scopes allowed) c) (cond_seen c scopes queries over allowed good))
        (tests_bound (surrounded names j scopes allowed) cs) (tests_seen cs scopes queries over allowed good)

    terms_seen : (cs : Conds Named) (scopes : List Scope) (queries : List EnclosingQuery) (over : AllZip (IsOver j.known) scopes queries) (allowed : Bool) (good : Good queries allowed)
        → If (conds_sites j.known (standing queries allowed false) cs) (terms_bound (surrounded names j scopes allowed) cs)
    terms_seen no_cond scopes queries over allowed good = pure_seen names j test_site seen Good sees NumberedConds.no_cond
    terms_seen (a_cond c cs) scopes queries over allowed good =
        more_seen scopes queries over allowed good c cs (cond_bound (surrounded names j scopes allowed) c) (cond_seen c scopes queries over allowed good) (terms_bound (surrounded names j scopes allowed) cs) (terms_seen cs scopes queries over allowed good)

    pub clause_seen : (c : Clause Named) (scopes : List Scope) (queries : List EnclosingQuery) (over : AllZip (IsOver j.known) scopes queries) (allowed : Bool) (good : Good queries allowed)
        → If (clause_sites j.known (standing queries allowed false) c) (clause_bound (surrounded names j scopes allowed) c)
    clause_seen absent scopes queries over allowed good = pure_seen names j test_site seen Good sees NumberedClause.absent
    clause_seen (present c) scopes queries over allowed good =
        last_seen names j test_site seen Good sees (cond_sites j.known (standing queries allowed false) c) (cond_bound (surrounded names j scopes allowed) c) (λ x. NumberedClause.present x) (cond_seen c scopes queries over allowed good)

    -- a property is found in a query specification exactly where it is asked of one of its sites
    pub select_seen : (q : Select Named) (scopes : List Scope) (queries : List EnclosingQuery) (over : AllZip (IsOver j.known) scopes queries) (allowed : Bool) (good : Good queries allowed) → SelectSeen scopes queries over allowed good q
    select_seen (select distinct list from filter by having) scopes queries over allowed good =
        select_is_seen distinct list from filter by having scopes queries over allowed good
        (λ items are. clause_seen filter (lines_over items ∷ scopes) (plain_query from ∷ queries) (record { items = are.items_are; known = are.known }, over) false (sees.lines_good queries allowed (plain_query from) good))
        (λ items are columns. clause_seen having (groups_over items columns ∷ scopes) (shown_query from list by having ∷ queries) (record { items = are.items_are; known = are.known }, over) true (sees.groups_good queries allowed (shown_query from list by having) good))
