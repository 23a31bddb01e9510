-- The fault that is answered of the parts of a query specification is one that the rules find there (ISO/IEC 9075:1992, 7.3 to 7.9).
use Rattle.std.proofs.Common.{◌≡◌, ℕ, zero, suc, Bool, true, false, not, ◌&&◌, ◌||◌, List, [], ◌∷◌, ◌++◌, length, map, Some, None, Ok, arith, refl, sym, ap, subst, ◌∙◌}
use Rattle.std.proofs.lemmas.Bool.Decides.{nat_tests}
use Rattle.std.specs.List.{AllByRecursion, AllZip, flat_map, list_any}
use Rattle.std.specs.Prelude.{⊤, ◌==◌, nat_eq, nat_lt, if◌then◌else◌}
use Rattle.sq_value.proofs.Truths.{and_false, or_false, or_assoc_left}
use Rattle.sq_value.specs.declared.domain.Kind.{Kind}
use Rattle.sq_tree.specs.declared.names.ColumnReference.{ColumnReference}
use Rattle.sq_meaning.specs.Environment.{Place, TableReference, fitting}
use Rattle.sq_meaning.specs.Expression.{set_functions}
use Rattle.sq_meaning.specs.Kind.{kind, list_kinds}
use Rattle.sq_meaning.specs.Query.{is_grouped, is_some_of, list_functions}
use Rattle.sq_meaning.specs.Spelled.{Named}
use Rattle.sq_meaning.specs.Status as status
use Rattle.sq_meaning.specs.Syntax.{Clause, Expr, SelectList, all_columns, expressions}
use Rattle.sq_meaning.specs.Tables.{kinds_by_name}
use Rattle.sq_meaning.specs.Binding.{Judged, fits_here, is_at, is_ungrouped_at, items_here, nearest_fits, one_further}
use Rattle.sq_meaning.specs.Binding as rules
use Rattle.sq_meaning.specs.Site.{Around, EnclosingQuery, Site, expr_sites, kind_here, list_count, list_sites, plain_query, shown_query}
use Rattle.sq_meaning.specs.declared.fault.BindingFault.TheVariants as fault
use Rattle.sq_binding.specs.Expression.{column_findings, place_of_found}
use Rattle.sq_binding.specs.Found.{◌>>◌, each, has_found, must, outcome, pure}
use Rattle.sq_binding.specs.From.{NamedItem, NamedTables, items_of}
use Rattle.sq_binding.specs.QueryFindings.{of_values}
use Rattle.sq_binding.specs.Scope.{FoundColumn, Scope, column_meant, is_here}
use Rattle.sq_binding.specs.Select.{ShownColumn, Surroundings, columns_of_items, grouping_column, grouping_place, list_bound, most_columns, shown_column}
use Rattle.sq_binding.proofs.FaultsFound.Faults.{column_breaks, ungrouped_breaks}
use Rattle.sq_binding.proofs.FaultsFound.FoundKinds.{SpellsNoNull, froms_of, meant_there, standing}
use Rattle.sq_binding.proofs.FaultsFound.FromFaults.{AreItems, every, one_each, star_count, star_kinds}
use Rattle.sq_binding.proofs.FaultsFound.Judged.{Judges, at_most_judges, each_judges, has_found_judges, more_judges, must_judges, outcome_judges, pure_judges, some_left, some_right, then_judges}
use Rattle.sq_binding.proofs.FaultsFound.Known.{GroupFits, GroupsAt, IfMeant, IsOver, Meant, column_found}
use Rattle.sq_binding.proofs.FaultsFound.PredicateFaults.{shown_judges, surrounded}
use Rattle.sq_binding.proofs.FaultsFound.Sites.{fault_here, fault_later}

-- ---- the scopes of a query specification

abbrev pub lines_over : List NamedItem → Scope
lines_over items = record { items = items_of items; grouping = None }

abbrev pub groups_over : List NamedItem → List Place → Scope
groups_over items columns = record { items = items_of items; grouping = Some columns }

-- The columns of a select list are those that the rules know.
pub record ListIs (j : Judged) (queries : List EnclosingQuery) (from : List TableReference) (list : SelectList Named) (shown : List ShownColumn) : Type 0 where
  pub kinds : list_kinds (kinds_by_name j.known.tables j.known.parameters) (froms_of queries) from list ≡ Ok (map (λ c. c.kind) (map (λ c. c.column) shown))
  pub count : list_count j.known.tables from list ≡ length shown

abbrev pub ListSpellsNoNull : SelectList Named → Type 0
ListSpellsNoNull all_columns = ⊤
ListSpellsNoNull (expressions es) = AllByRecursion SpellsNoNull es

module _ (j : Judged) (scopes : List Scope) (queries : List EnclosingQuery) (over : AllZip (IsOver j.known) scopes queries)
    (all : (depth : ℕ) → GroupsAt j.known scopes queries depth) (from : List TableReference) (items : List NamedItem) (are : AreItems j from items) where
  pub over_lines : AllZip (IsOver j.known) (lines_over items ∷ scopes) (plain_query from ∷ queries)
  over_lines = (record { items = are.items_are; known = are.known }, over)

  -- any column of a line may be read
  pub groups_of_lines : (depth : ℕ) → GroupsAt j.known (lines_over items ∷ scopes) (plain_query from ∷ queries) depth
  groups_of_lines zero = λ p free. cc
  groups_of_lines (suc depth) = all depth

  pub over_groups : (columns : List Place) (list : SelectList Named) (by : List ColumnReference) (having : Clause Named)
      → AllZip (IsOver j.known) (groups_over items columns ∷ scopes) (shown_query from list by having ∷ queries)
  over_groups columns list by having = (record { items = are.items_are; known = are.known }, over)

  pub groups_further : (columns : List Place) (query : EnclosingQuery) (depth : ℕ) → nat_lt 0 depth ≡ true → GroupsAt j.known (groups_over items columns ∷ scopes) (query ∷ queries) depth
  groups_further columns query zero far = cc
  groups_further columns query (suc depth) far = all depth

  -- ---- GROUP BY

  -- the only place that it fits
  abbrev pub PlaceIs : ColumnReference → Place → Type 0
  PlaceIs c p = rules.fits j.known c (plain_query from ∷ queries) ≡ p ∷ []

  abbrev read : ColumnReference → Site
  read c = Site.column_read (standing (plain_query from ∷ queries) false false) c

  grouped_alone : (n : ℕ) (grouped : Bool) → grouped ≡ true → (nat_eq n 0 && not grouped) ≡ false
  grouped_alone n true e = and_false (nat_eq n 0)
  grouped_alone n false e = cc

  module _ (names : NamedTables) (G C : Type 0) where
    place_judges : (c : ColumnReference) (found : FoundColumn) → Meant j.known c (lines_over items ∷ scopes) (plain_query from ∷ queries) found → Judges j (read c ∷ []) G C (PlaceIs c) (grouping_place found)
    place_judges c found m =
        then_judges j (read c ∷ []) G C (λ u. found.is_grouped ≡ true) (PlaceIs c) (must found.is_grouped fault.UngroupedColumn) (λ _. has_found (of_values (column_findings found)) >> pure (place_of_found found))
        (must_judges j (read c ∷ []) G C found.is_grouped fault.UngroupedColumn
        (λ free. fault_here j fault.UngroupedColumn (read c) [] (ungrouped_breaks j (lines_over items ∷ scopes) (plain_query from ∷ queries) over_lines false c found m (groups_of_lines found.depth) free)))
        (λ u grouped. then_judges j (read c ∷ []) G C (λ u. ⊤) (PlaceIs c) (has_found (of_values (column_findings found))) (λ _. pure (place_of_found found))
        (has_found_judges j (read c ∷ []) G C (of_values (column_findings found)) (grouped_alone found.depth found.is_grouped grouped))
        (λ v w. pure_judges j (read c ∷ []) G C (PlaceIs c) (place_of_found found) m.fits))

    grouping_judges : (c : ColumnReference) → Judges j (read c ∷ []) G C (PlaceIs c) (grouping_column (surrounded names j (lines_over items ∷ scopes) false) c)
    grouping_judges c =
        then_judges j (read c ∷ []) G C (Meant j.known c (lines_over items ∷ scopes) (plain_query from ∷ queries)) (PlaceIs c) (outcome (column_meant c (lines_over items ∷ scopes))) grouping_place
        (outcome_judges j (read c ∷ []) G C (Meant j.known c (lines_over items ∷ scopes) (plain_query from ∷ queries)) (column_meant c (lines_over items ∷ scopes))
        (meant_there j (lines_over items ∷ scopes) (plain_query from ∷ queries) over_lines c)
        (λ f is. fault_here j f (read c) []
        (column_breaks j (lines_over items ∷ scopes) (plain_query from ∷ queries) over_lines false false c f
        (subst (IfMeant j.known c (lines_over items ∷ scopes) (plain_query from ∷ queries)) is (column_found j.known c (lines_over items ∷ scopes) (plain_query from ∷ queries) over_lines)))))
        (place_judges c)

    pub columns_judge : (by : List ColumnReference) → Judges j (map read by) G C (AllZip PlaceIs by) (each (grouping_column (surrounded names j (lines_over items ∷ scopes) false)) by)
    columns_judge by =
        subst (λ sites. Judges j sites G C (AllZip PlaceIs by) (each (grouping_column (surrounded names j (lines_over items ∷ scopes) false)) by)) (one_each read by)
        (each_judges j G C (λ c. ⊤) (λ c. read c ∷ []) PlaceIs (grouping_column (surrounded names j (lines_over items ∷ scopes) false)) (λ c w. grouping_judges c) by (every by))

  -- ---- a column that is none of the grouping columns

  abbrev place_at : ℕ × ℕ → Place
  place_at at = record { depth = 0; item = at.0; column = at.1 }

  swapped : (m n : ℕ) → (m == n) ≡ (n == m)
  swapped m n = grind (arith, nat_tests)

  -- one that a reference fits here is at that place, and one further out is nowhere here
  fits_at : (p place : Place) (ats : List (ℕ × ℕ)) (further : List Place) → nearest_fits (map place_at ats) further ≡ place ∷ [] → list_any (is_at p) (map place_at ats) ≡ is_here p.item p.column place
  fits_at p place [] [] e = cc
  fits_at p place [] (q ∷ qs) e =
      let same : one_further q ≡ place = cc in
      let far : (suc q.depth == 0) ≡ false = grind (arith, nat_tests) in
      sym (ap (λ b. b && q.item == p.item && q.column == p.column) far) ∙ ap (is_here p.item p.column) same
  fits_at p place (at ∷ []) further e =
      let same : place_at at ≡ place = cc in
      or_false (p.item == at.0 && p.column == at.1) ∙ (λ i. swapped p.item at.0 i && swapped p.column at.1 i) ∙ ap (is_here p.item p.column) same
  fits_at p place (at ∷ next ∷ ats) further e = cc

  pub places_at : (p : Place) (by : List ColumnReference) (columns : List Place) → AllZip PlaceIs by columns
      → list_any (is_at p) (flat_map (λ c. fits_here j.known c (plain_query from)) by) ≡ list_any (is_here p.item p.column) columns
  places_at p [] [] h = refl
  places_at p [] (q ∷ columns) h = absurd h
  places_at p (c ∷ by) [] h = absurd h
  places_at p (c ∷ by) (q ∷ columns) h =
      any_both (is_at p) (fits_here j.known c (plain_query from)) (flat_map (λ c. fits_here j.known c (plain_query from)) by)
      ∙ (λ i. fits_at p q (fitting c (items_here j.known (plain_query from))) (rules.fits j.known c queries) h.0 i || places_at p by columns h.1 i)
    where
      any_both : (test : Place → Bool) (xs ys : List Place) → list_any test (xs ++ ys) ≡ (list_any test xs || list_any test ys)
      any_both test [] ys = refl
      any_both test (x ∷ xs) ys = ap (λ b. test x || b) (any_both test xs ys) ∙ or_assoc_left (test x) (list_any test xs) (list_any test ys)

  grouping_is : (p : Place) (by : List ColumnReference) (grouped : Bool) → grouped ≡ true → not (list_any (is_at p) (flat_map (λ c. fits_here j.known c (plain_query from)) by)) ≡ true
      → is_ungrouped_at j.known p (record { from = from; grouping = if grouped then Some by else None }) ≡ true
  grouping_is p by true e h = h
  grouping_is p by false e h = cc

  -- where the query is grouped, it is one for the rules
  pub groups_fit : (by : List ColumnReference) (columns : List Place) → AllZip PlaceIs by columns → (list : SelectList Named) (having : Clause Named) → is_grouped list by having ≡ true
      → GroupFits j.known (groups_over items columns) (shown_query from list by having)
  groups_fit by columns h list having grouped = λ p free. grouping_is p by (is_grouped list by having) grouped (ap not (places_at p by columns h ∙ free))

  -- ---- select lists

  module _ (names : NamedTables) (columns : List Place) (by : List ColumnReference) (having : Clause Named) where
    abbrev shown_here : SelectList Named → Around
    shown_here list = standing (shown_query from list by having ∷ queries) true false

    abbrev inner : Surroundings
    inner = surrounded names j (groups_over items columns ∷ scopes) true

    abbrev Own : SelectList Named → Type 0
    Own list = GroupsAt j.known (groups_over items columns ∷ scopes) (shown_query from list by having ∷ queries) 0

    abbrev IsShownBy : SelectList Named → Expr Named → ShownColumn → Type 0
    IsShownBy list e c = kind_here j.known (shown_here list) e ≡ Ok c.column.kind

    all_shown : (list : SelectList Named) (es : List (Expr Named)) (shown : List ShownColumn) → AllZip (IsShownBy list) es shown
        → (status.each (kind (kinds_by_name j.known.tables j.known.parameters) (from ∷ froms_of queries)) es ≡ Ok (map (λ c. c.kind) (map (λ c. c.column) shown))) × (length es ≡ length shown)
    all_shown list [] [] h = (refl, refl)
    all_shown list [] (c ∷ shown) h = absurd h
    all_shown list (e ∷ es) [] h = absurd h
    all_shown list (e ∷ es) (c ∷ shown) h =
        let rest = all_shown list es shown h.1 in (
          ap (λ (o : status.Outcome Kind). status.and_then o (λ k. status.and_then (status.each (kind (kinds_by_name j.known.tables j.known.parameters) (from ∷ froms_of queries)) es) (λ ks. Ok (k ∷ ks)))) h.0
              ∙ ap (λ (o : status.Outcome (List Kind)). status.and_then o (λ ks. Ok (c.column.kind ∷ ks))) rest.0,
          ap suc rest.1,
        )

    -- what follows from a set function in the list follows from one in an expression of it
    all_called : (C : Type 0) (es : List (Expr Named)) → AllByRecursion SpellsNoNull es → (is_some_of (flat_map set_functions es) ≡ true → C)
        → AllByRecursion (λ e. SpellsNoNull e × (is_some_of (set_functions e) ≡ true → C)) es
    all_called C [] null call = tt
    all_called C (e ∷ es) null call = (
      (null.0, λ t. call (some_left (set_functions e) (flat_map set_functions es) t)),
      all_called C es null.1 (λ t. call (some_right (set_functions e) (flat_map set_functions es) t)),
    )

    abbrev pub sites_of_list : SelectList Named → List Site
    sites_of_list list = Site.column_count (list_count j.known.tables from list) ∷ list_sites j.known (shown_here list) list (is_grouped list by having)

    pub list_judges : (list : SelectList Named) → ListSpellsNoNull list → Judges j (sites_of_list list) (Own list) (is_some_of (list_functions list) ≡ true) (ListIs j queries from list) (list_bound inner (items_of items) list)
    list_judges all_columns null =
        at_most_judges j (sites_of_list all_columns) (Own all_columns) (is_some_of (list_functions {N = Named} all_columns) ≡ true) (ListIs j queries from all_columns) most_columns (length (columns_of_items (items_of items))) (pure (columns_of_items (items_of items)))
        (λ many. fault_here j fault.LimitExceeded (Site.column_count (list_count j.known.tables from all_columns)) (list_sites j.known (shown_here all_columns) all_columns (is_grouped all_columns by having))
        (ap (nat_lt most_columns) (star_count j from items are) ∙ many))
        (pure_judges j (sites_of_list all_columns) (Own all_columns) (is_some_of (list_functions {N = Named} all_columns) ≡ true) (ListIs j queries from all_columns) (columns_of_items (items_of items))
        (record { kinds = star_kinds j from items are; count = star_count j from items are }))
    list_judges (expressions es) null =
        at_most_judges j (sites_of_list (expressions es)) (Own (expressions es)) (is_some_of (list_functions (expressions es)) ≡ true) (ListIs j queries from (expressions es)) most_columns (length es) (each (shown_column inner) es)
        (λ many. fault_here j fault.LimitExceeded (Site.column_count (length es)) (flat_map (expr_sites j.known (shown_here (expressions es))) es) many)
        (more_judges j (flat_map (expr_sites j.known (shown_here (expressions es))) es) (sites_of_list (expressions es))
        (λ g h. fault_later j g (Site.column_count (length es)) (flat_map (expr_sites j.known (shown_here (expressions es))) es) h) (Own (expressions es)) (Own (expressions es))
        (is_some_of (flat_map set_functions es) ≡ true) (is_some_of (flat_map set_functions es) ≡ true) (AllZip (IsShownBy (expressions es)) es) (ListIs j queries from (expressions es)) (each (shown_column inner) es) (λ g. g) (λ c. c)
        (λ shown h. let parts = all_shown (expressions es) es shown h in record { kinds = parts.0; count = parts.1 })
        (each_judges j (Own (expressions es)) (is_some_of (flat_map set_functions es) ≡ true) (λ e. SpellsNoNull e × (is_some_of (set_functions e) ≡ true → is_some_of (flat_map set_functions es) ≡ true))
        (expr_sites j.known (shown_here (expressions es))) (IsShownBy (expressions es)) (shown_column inner)
        (λ e w. shown_judges names j (groups_over items columns ∷ scopes) (shown_query from (expressions es) by having ∷ queries) (over_groups columns (expressions es) by having)
        (groups_further columns (shown_query from (expressions es) by having)) true (is_some_of (flat_map set_functions es) ≡ true) e w.0 w.1)
        es (all_called (is_some_of (flat_map set_functions es) ≡ true) es null (λ t. t))))
