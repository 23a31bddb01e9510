-- The fault that is answered of a query specification is one that the rules find there, if that is so of its WHERE and HAVING clauses
-- (ISO/IEC 9075:1992, 7.3 to 7.9).
use Rattle.std.proofs.Common.{◌≡◌, ℕ, zero, suc, Bool, true, false, ◌||◌, List, [], ◌∷◌, ◌++◌, map, Ok, Err, refl, sym, subst, ◌∙◌, append_assoc}
use Rattle.std.proofs.lemmas.List.{length-map}
use Rattle.std.specs.List.{AllZip}
use Rattle.std.specs.Prelude.{if◌then◌else◌}
use Rattle.std.proofs.lemmas.Bool.{false≢true}
use Rattle.sq_tree.specs.declared.names.ColumnReference.{ColumnReference}
use Rattle.sq_meaning.specs.Environment.{Place, TableReference}
use Rattle.sq_meaning.specs.Query.{is_grouped, is_present, is_some_of, list_functions}
use Rattle.sq_meaning.specs.Spelled.{Named}
use Rattle.sq_meaning.specs.Syntax.{SelectList, all_columns, expressions, Clause, select}
use Rattle.sq_bound.specs.Expression.{PlacedExpr}
use Rattle.sq_meaning.specs.Binding.{Judged, has_fault}
use Rattle.sq_meaning.specs.Site.{EnclosingQuery, Site, clause_sites, list_count, list_sites, plain_query, select_sites, shown_query}
use Rattle.sq_meaning.specs.declared.fault.BindingFault.TheVariants as fault
use Rattle.sq_binding.specs.Condition.{clause_bound, select_bound}
use Rattle.sq_binding.specs.Found.{Binding, Found, ◌>>=◌, each, from_first, pure}
use Rattle.sq_binding.specs.From.{NamedItem, NamedTables, from_bound, items_of, tables_of}
use Rattle.sq_binding.specs.NumberedCondition.{NumberedClause, NumberedGroups, NumberedSelect}
use Rattle.sq_binding.specs.Outcome.{Outcome, and_then}
use Rattle.sq_binding.specs.Scope.{Scope}
use Rattle.sq_binding.specs.Select.{Parts, ShownColumn, grouping_column, groups_by, groups_of, is_star, list_bound, rightly_grouped, select_found, specification}
use Rattle.sq_binding.proofs.FaultsFound.FoundKinds.{standing}
use Rattle.sq_binding.proofs.FaultsFound.FromFaults.{AreItems, NamesFit, from_judges}
use Rattle.sq_binding.proofs.FaultsFound.Judged.{Among, IfJudged, Judges, first_judged, more_judges, pure_judges, then_judges, wider_judges}
use Rattle.sq_binding.proofs.FaultsFound.Known.{GroupsAt, IsOver}
use Rattle.sq_binding.proofs.FaultsFound.PredicateFaults.{Anything, IsShown, surrounded}
use Rattle.sq_binding.proofs.FaultsFound.SelectFaults.{ListIs, ListSpellsNoNull, PlaceIs, columns_judge, groups_fit, groups_of_lines, groups_over, lines_over, list_judges, sites_of_list}
use Rattle.sq_binding.proofs.FaultsFound.Sites.{fault_later, fault_left, fault_right}

-- ---- the whole of a query specification

abbrev pub is_bound : NumberedClause → Bool
is_bound NumberedClause.absent = false
is_bound (NumberedClause.present c) = true

-- The parts of a query specification, for these of its text.
pub record ArePartsOf (j : Judged) (queries : List EnclosingQuery) (from : List TableReference) (list : SelectList Named) (by : List ColumnReference) (having : Clause Named) (p : Parts) : Type 0 where
  pub shown : ListIs j queries from list p.shown
  pub by_columns : is_some_of p.by ≡ true → is_some_of by ≡ true
  pub groups : is_bound p.having ≡ true → is_present having ≡ true

grouped_by : (a b c : Bool) → a ≡ true → (a || b || c) ≡ true
grouped_by true b c e = refl
grouped_by false b c e = cc

grouped_having : (a b c : Bool) → b ≡ true → (a || b || c) ≡ true
grouped_having true b c e = refl
grouped_having false true c e = refl
grouped_having false false c e = cc

grouped_functions : (a b c : Bool) → c ≡ true → (a || b || c) ≡ true
grouped_functions true b c e = refl
grouped_functions false true c e = refl
grouped_functions false false c e = e

module _ (j : Judged) (sites : List Site) (queries : List EnclosingQuery) (from : List TableReference) (list : SelectList Named) (by : List ColumnReference) (having : Clause Named) where
  abbrev IsGrouped : Type 0
  IsGrouped = is_grouped list by having ≡ true

  -- a query specification is grouped exactly where the rules find it so
  is_grouped_so : (columns : List Place) (kept : NumberedClause) (calls : List PlacedExpr) → (is_some_of columns ≡ true → is_some_of by ≡ true) → (is_bound kept ≡ true → is_present having ≡ true) → (is_some_of calls ≡ true → IsGrouped)
      → (named : List Place) (functions : List PlacedExpr) (clause : NumberedClause) → groups_by columns kept calls ≡ NumberedGroups.grouped named functions clause → IsGrouped
  is_grouped_so [] NumberedClause.absent [] b h c named functions clause e = cc
  is_grouped_so [] NumberedClause.absent (f ∷ calls) b h c named functions clause e = c refl
  is_grouped_so [] (NumberedClause.present d) calls b h c named functions clause e = grouped_having (is_some_of by) (is_present having) (is_some_of (list_functions list)) (h refl)
  is_grouped_so (p ∷ columns) kept calls b h c named functions clause e = grouped_by (is_some_of by) (is_present having) (is_some_of (list_functions list)) (b refl)

  module _ (Q : NumberedSelect → Type 0) (C : Type 0) (star : is_star list ≡ true → IsGrouped → has_fault j sites fault.CountMismatch ≡ true) (x : Found Parts) (free : x.findings.values.has_ungrouped ≡ true → IsGrouped → has_fault j sites fault.UngroupedColumn ≡ true)
      (whole : Q (select_found x).part) where
    rightly_judged : (groups : NumberedGroups) → ((named : List Place) (functions : List PlacedExpr) (clause : NumberedClause) → groups ≡ NumberedGroups.grouped named functions clause → IsGrouped)
        → IfJudged j sites ⊥ C Q (rightly_grouped (is_star list) groups x)
    rightly_judged NumberedGroups.not_grouped so = record { part = whole; free = λ t g. absurd g; called = λ t. cc }
    rightly_judged (NumberedGroups.grouped named functions clause) so = starred (is_star list) refl
      where
        ungrouped : (u : Bool) → x.findings.values.has_ungrouped ≡ u → IfJudged j sites ⊥ C Q (if u then Err fault.UngroupedColumn else Ok (select_found x))
        ungrouped true e = free e (so named functions clause refl)
        ungrouped false e = record { part = whole; free = λ t g. absurd g; called = λ t. cc }

        starred : (s : Bool) → is_star list ≡ s → IfJudged j sites ⊥ C Q (if s then Err fault.CountMismatch else if x.findings.values.has_ungrouped then Err fault.UngroupedColumn else Ok (select_found x))
        starred true e = star e (so named functions clause refl)
        starred false e = ungrouped x.findings.values.has_ungrouped refl

  whole_judged : (Q : NumberedSelect → Type 0) (C : Type 0) → (is_star list ≡ true → IsGrouped → has_fault j sites fault.CountMismatch ≡ true) → ((x : Found Parts) → ArePartsOf j queries from list by having x.part → Q (select_found x).part)
      → (o : Outcome (Found Parts)) → IfJudged j sites IsGrouped IsGrouped (ArePartsOf j queries from list by having) o → IfJudged j sites ⊥ C Q (and_then o (λ x. rightly_grouped (is_star list) (groups_of x) x))
  whole_judged Q C star made (Err f) h = h
  whole_judged Q C star made (Ok x) h =
      rightly_judged Q C star x h.free (made x h.part) (groups_of x) (is_grouped_so x.part.by x.part.having x.calls h.part.by_columns h.part.groups h.called)

  specification_judges : (Q : NumberedSelect → Type 0) (C : Type 0) → (is_star list ≡ true → IsGrouped → has_fault j sites fault.CountMismatch ≡ true) → ((x : Found Parts) → ArePartsOf j queries from list by having x.part → Q (select_found x).part)
      → (parts : Binding Parts) → Judges j sites IsGrouped IsGrouped (ArePartsOf j queries from list by having) parts → Judges j sites ⊥ C Q (specification (is_star list) parts)
  specification_judges Q C star made parts h counts = whole_judged Q C star made (parts (record counts { functions = 0 })) (h (record counts { functions = 0 }))

-- ---- the sites of a query specification, part by part

module _ (j : Judged) (queries : List EnclosingQuery) (list : SelectList Named) (from : List TableReference) (filter : Clause Named) (by : List ColumnReference) (having : Clause Named) where
  abbrev tables : List Site
  tables = map Site.table_read from

  abbrev listed : List Site
  listed = Site.column_count (list_count j.known.tables from list) ∷ list_sites j.known (standing (shown_query from list by having ∷ queries) true false) list (is_grouped list by having)

  abbrev filtered : List Site
  filtered = clause_sites j.known (standing (plain_query from ∷ queries) false false) filter

  abbrev columns : List Site
  columns = map (Site.column_read (standing (plain_query from ∷ queries) false false)) by

  abbrev kept : List Site
  kept = clause_sites j.known (standing (shown_query from list by having ∷ queries) true false) having

  abbrev pub whole_sites : List Site
  whole_sites = (((tables ++ (Site.from_whole from ∷ listed)) ++ filtered) ++ columns) ++ kept

  at_front : Among j (tables ++ (Site.from_whole from ∷ listed)) whole_sites
  at_front f h =
      fault_left j f (((tables ++ (Site.from_whole from ∷ listed)) ++ filtered) ++ columns) kept
      (fault_left j f ((tables ++ (Site.from_whole from ∷ listed)) ++ filtered) columns (fault_left j f (tables ++ (Site.from_whole from ∷ listed)) filtered h))

  pub of_from : Among j (tables ++ Site.from_whole from ∷ []) whole_sites
  of_from f h = at_front f (subst (λ sites. has_fault j sites f ≡ true) (append_assoc tables (Site.from_whole from ∷ []) listed) (fault_left j f (tables ++ Site.from_whole from ∷ []) listed h))

  pub of_list : Among j listed whole_sites
  of_list f h = at_front f (fault_right j f tables (Site.from_whole from ∷ listed) (fault_later j f (Site.from_whole from) listed h))

  pub of_filter : Among j filtered whole_sites
  of_filter f h =
      fault_left j f (((tables ++ (Site.from_whole from ∷ listed)) ++ filtered) ++ columns) kept
      (fault_left j f ((tables ++ (Site.from_whole from ∷ listed)) ++ filtered) columns (fault_right j f (tables ++ (Site.from_whole from ∷ listed)) filtered h))

  pub of_columns : Among j columns whole_sites
  of_columns f h =
      fault_left j f (((tables ++ (Site.from_whole from ∷ listed)) ++ filtered) ++ columns) kept (fault_right j f ((tables ++ (Site.from_whole from ∷ listed)) ++ filtered) columns h)

  pub of_having : Among j kept whole_sites
  of_having f h = fault_right j f (((tables ++ (Site.from_whole from ∷ listed)) ++ filtered) ++ columns) kept h

star_fault : (j : Judged) (queries : List EnclosingQuery) (list : SelectList Named) (from : List TableReference) (filter : Clause Named) (by : List ColumnReference) (having : Clause Named) → is_star list ≡ true → is_grouped list by having ≡ true
    → has_fault j (whole_sites j queries list from filter by having) fault.CountMismatch ≡ true
star_fault j queries (expressions es) from filter by having star grouped = cc
star_fault j queries all_columns from filter by having star grouped =
    of_list j queries all_columns from filter by having fault.CountMismatch
    (fault_later j fault.CountMismatch (Site.column_count (list_count j.known.tables from all_columns)) (list_sites j.known (standing (shown_query from all_columns by having ∷ queries) true false) all_columns (is_grouped all_columns by having))
    (starred (is_grouped all_columns by having) grouped))
  where
    starred : (g : Bool) → g ≡ true → has_fault j (if g then Site.star_of_groups ∷ [] else []) fault.CountMismatch ≡ true
    starred true e = refl
    starred false e = cc

some_by : {A B : Type 0} (R : A → B → Type 0) (xs : List A) (ys : List B) → AllZip R xs ys → is_some_of ys ≡ true → is_some_of xs ≡ true
some_by R [] [] h t = t
some_by R [] (y ∷ ys) h t = absurd h
some_by R (x ∷ xs) ys h t = refl

module _ (names : NamedTables) (j : Judged) (fit : NamesFit names j) where
  pub select_judged : (distinct : Bool) (list : SelectList Named) (from : List TableReference) (filter : Clause Named) (by : List ColumnReference) (having : Clause Named) (scopes : List Scope) (queries : List EnclosingQuery)
      → (over : AllZip (IsOver j.known) scopes queries) (all : (depth : ℕ) → GroupsAt j.known scopes queries depth) (allowed : Bool) → ListSpellsNoNull list
      → ((items : List NamedItem) (are : AreItems j from items)
      → Judges j (clause_sites j.known (standing (plain_query from ∷ queries) false false) filter) (GroupsAt j.known (lines_over items ∷ scopes) (plain_query from ∷ queries) 0) ((is_present filter ≡ true) × (false ≡ true))
      (λ x. is_bound x ≡ true → is_present filter ≡ true) (clause_bound (surrounded names j (lines_over items ∷ scopes) false) filter))
      → ((items : List NamedItem) (are : AreItems j from items) (columns : List Place) → AllZip (PlaceIs j scopes queries over all from items are) by columns
      → Judges j (clause_sites j.known (standing (shown_query from list by having ∷ queries) true false) having) (GroupsAt j.known (groups_over items columns ∷ scopes) (shown_query from list by having ∷ queries) 0) ((is_present having ≡ true) × (true ≡ true))
      (λ x. is_bound x ≡ true → is_present having ≡ true) (clause_bound (surrounded names j (groups_over items columns ∷ scopes) true) having))
      → Judges j (select_sites j.known (standing queries allowed false) (select distinct list from filter by having)) ⊥ (allowed ≡ true)
      (IsShown names j scopes queries over (λ depth far. all depth) allowed (select distinct list from filter by having)) (select_bound (surrounded names j scopes allowed) (select distinct list from filter by having))
  select_judged distinct list from filter by having scopes queries over all allowed null filter_is having_is =
      specification_judges j S queries from list by having (IsShown names j scopes queries over (λ depth far. all depth) allowed (select distinct list from filter by having)) (allowed ≡ true)
      (star_fault j queries list from filter by having)
      (λ x h. record { kinds = h.shown.kinds; count = h.shown.count ∙ sym (length-map x.part.shown (λ (c : ShownColumn). c.column)) })
      (from_bound names from >>= λ items. after_from items)
      (then_judges j S G G (AreItems j from) P (from_bound names from) after_from
      (wider_judges j (map Site.table_read from ++ Site.from_whole from ∷ []) S (of_from j queries list from filter by having) G G (AreItems j from) (from_bound names from) (from_judges names j fit G G from))
      (λ items are. then_judges j S G G Anything P (from_first (clause_bound (surrounded names j (lines_over items ∷ scopes) false) filter)) (after_filter items)
      (more_judges j (clause_sites j.known (standing (plain_query from ∷ queries) false false) filter) S (of_filter j queries list from filter by having)
      (GroupsAt j.known (lines_over items ∷ scopes) (plain_query from ∷ queries) 0) G ((is_present filter ≡ true) × (false ≡ true)) G (λ x. is_bound x ≡ true → is_present filter ≡ true) Anything
      (from_first (clause_bound (surrounded names j (lines_over items ∷ scopes) false) filter)) (λ g. groups_of_lines j scopes queries over all from items are 0) (λ c. absurd (false≢true c.1)) (λ x p. tt)
      (first_judged j (clause_sites j.known (standing (plain_query from ∷ queries) false false) filter) (GroupsAt j.known (lines_over items ∷ scopes) (plain_query from ∷ queries) 0) ((is_present filter ≡ true) × (false ≡ true))
      (λ x. is_bound x ≡ true → is_present filter ≡ true) (clause_bound (surrounded names j (lines_over items ∷ scopes) false) filter) (filter_is items are)))
      (λ y u. then_judges j S G G (AllZip (PlaceIs j scopes queries over all from items are) by) P (each (grouping_column (surrounded names j (lines_over items ∷ scopes) false)) by) (after_columns items y)
      (wider_judges j (map (Site.column_read (standing (plain_query from ∷ queries) false false)) by) S (of_columns j queries list from filter by having) G G (AllZip (PlaceIs j scopes queries over all from items are) by)
      (each (grouping_column (surrounded names j (lines_over items ∷ scopes) false)) by) (columns_judge j scopes queries over all from items are names G G by))
      (λ columns places. then_judges j S G G (ListIs j queries from list) P (list_bound (surrounded names j (groups_over items columns ∷ scopes) true) (items_of items) list) (after_list items y columns)
      (more_judges j (sites_of_list j scopes queries over all from items are names columns by having list) S (of_list j queries list from filter by having)
      (GroupsAt j.known (groups_over items columns ∷ scopes) (shown_query from list by having ∷ queries) 0) G (is_some_of (list_functions list) ≡ true) G (ListIs j queries from list) (ListIs j queries from list)
      (list_bound (surrounded names j (groups_over items columns ∷ scopes) true) (items_of items) list) (λ g. groups_fit j scopes queries over all from items are by columns places list having g)
      (λ c. grouped_functions (is_some_of by) (is_present having) (is_some_of (list_functions list)) c) (λ x p. p) (list_judges j scopes queries over all from items are names columns by having list null))
      (λ shown is. then_judges j S G G (λ x. is_bound x ≡ true → is_present having ≡ true) P (clause_bound (surrounded names j (groups_over items columns ∷ scopes) true) having) (λ groups. pure (parts_of items y columns shown groups))
      (more_judges j (clause_sites j.known (standing (shown_query from list by having ∷ queries) true false) having) S (of_having j queries list from filter by having)
      (GroupsAt j.known (groups_over items columns ∷ scopes) (shown_query from list by having ∷ queries) 0) G ((is_present having ≡ true) × (true ≡ true)) G (λ x. is_bound x ≡ true → is_present having ≡ true)
      (λ x. is_bound x ≡ true → is_present having ≡ true) (clause_bound (surrounded names j (groups_over items columns ∷ scopes) true) having) (λ g. groups_fit j scopes queries over all from items are by columns places list having g)
      (λ c. grouped_having (is_some_of by) (is_present having) (is_some_of (list_functions list)) c.0) (λ x p. p) (having_is items are columns places))
      (λ groups there. pure_judges j S G G P (parts_of items y columns shown groups)
      (record { shown = is; by_columns = some_by (PlaceIs j scopes queries over all from items are) by columns places; groups = there })))))))
    where
      S : List Site
      S = whole_sites j queries list from filter by having

      G : Type 0
      G = is_grouped list by having ≡ true

      P : Parts → Type 0
      P = ArePartsOf j queries from list by having

      parts_of : List NamedItem → NumberedClause → List Place → List ShownColumn → NumberedClause → Parts
      parts_of items y columns shown groups = record { distinct = distinct; from = tables_of items; filter = y; by = columns; shown = shown; having = groups }

      after_list : List NamedItem → NumberedClause → List Place → List ShownColumn → Binding Parts
      after_list items y columns shown = clause_bound (surrounded names j (groups_over items columns ∷ scopes) true) having >>= λ groups. pure (parts_of items y columns shown groups)

      after_columns : List NamedItem → NumberedClause → List Place → Binding Parts
      after_columns items y columns = list_bound (surrounded names j (groups_over items columns ∷ scopes) true) (items_of items) list >>= after_list items y columns

      after_filter : List NamedItem → NumberedClause → Binding Parts
      after_filter items y = each (grouping_column (surrounded names j (lines_over items ∷ scopes) false)) by >>= after_columns items y

      after_from : List NamedItem → Binding Parts
      after_from items = from_first (clause_bound (surrounded names j (lines_over items ∷ scopes) false) filter) >>= after_filter items

  -- with HAVING it is grouped
  groups_if_present : (list : SelectList Named) (by : List ColumnReference) (having : Clause Named) → is_present having ≡ true → is_grouped list by having ≡ true
  groups_if_present list by having t = grouped_having (is_some_of by) (is_present having) (is_some_of (list_functions list)) t

  pub all_groups : (scopes : List Scope) (queries : List EnclosingQuery) (over : AllZip (IsOver j.known) scopes queries) (all : (depth : ℕ) → GroupsAt j.known scopes queries depth) (from : List TableReference) (items : List NamedItem) (are : AreItems j from items)
      (by : List ColumnReference) (grouping : List Place) → AllZip (PlaceIs j scopes queries over all from items are) by grouping → (list : SelectList Named) (having : Clause Named) → is_present having ≡ true
      → (depth : ℕ) → GroupsAt j.known (groups_over items grouping ∷ scopes) (shown_query from list by having ∷ queries) depth
  all_groups scopes queries over all from items are by grouping places list having t zero = groups_fit j scopes queries over all from items are by grouping places list having (groups_if_present list by having t)
  all_groups scopes queries over all from items are by grouping places list having t (suc depth) = all depth
