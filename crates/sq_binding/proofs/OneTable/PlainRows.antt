-- A bound query specification has a row for each row of its table exactly if the rules say so. They ask for no DISTINCT, no
-- groups and no set functions (ISO/IEC 9075:1992, 7.9; own rule).
use Rattle.std.proofs.Common.{◌≡◌, Bool, true, false, not, ◌&&◌, ◌||◌, List, [], ◌∷◌, ◌++◌, map, Ok, Err, refl, sym, ap, subst, ◌∙◌}
use Rattle.std.specs.List.{AllZip}
use Rattle.std.specs.Prelude.{⊤}
use Rattle.std.proofs.lemmas.Bool.{false≢true}
use Rattle.sq_tree.specs.declared.names.ColumnReference.{ColumnReference}
use Rattle.sq_meaning.specs.Environment.{Place, TableReference}
use Rattle.sq_meaning.specs.Query.{is_grouped, is_present, is_some_of, list_functions}
use Rattle.sq_meaning.specs.Spelled.{Named}
use Rattle.sq_meaning.specs.Syntax.{Clause, SelectList, absent, present, select}
use Rattle.sq_bound.specs.Expression.{PlacedExpr}
use Rattle.sq_meaning.specs.Binding.{Judged}
use Rattle.sq_meaning.specs.Site.{Site, plain_query, shown_query}
use Rattle.sq_binding.specs.Changeable.{has_plain_rows}
use Rattle.sq_binding.specs.Changeable as changeable
use Rattle.sq_binding.specs.Condition.{clause_bound, cond_bound, select_bound}
use Rattle.sq_binding.specs.Found.{Binding, Counts, Found, ◌>>=◌, each, from_first, pure}
use Rattle.sq_binding.specs.From.{NamedItem, NamedTables, from_bound, items_of, tables_of}
use Rattle.sq_binding.specs.NumberedCondition.{NumberedClause, NumberedSelect}
use Rattle.sq_binding.specs.Outcome.{Outcome}
use Rattle.sq_binding.specs.Select.{Parts, ShownColumn, Surroundings, grouping_column, groups_by, groups_of, is_star, list_bound, rightly_grouped}
use Rattle.sq_binding.proofs.Faultless.Clean.{steps_of}
use Rattle.sq_binding.proofs.Faultless.CleanConds.{KnownIf, after_of, known_of}
use Rattle.sq_binding.proofs.Faultless.CleanQuery.{anything_known, pure_known, then_known}
use Rattle.sq_binding.proofs.Faultless.CleanSelect.{Adds, adds_first, adds_second, list_adds}
use Rattle.sq_binding.proofs.FaultsFound.CondFaults.{SelectSpellsNoNull, clause_faults}
use Rattle.sq_binding.proofs.FaultsFound.FromFaults.{AreItems, NamesFit, from_judges}
use Rattle.sq_binding.proofs.FaultsFound.Judged.{IfJudged, Judges, some_either}
use Rattle.sq_binding.proofs.FaultsFound.PredicateFaults.{surrounded}
use Rattle.sq_binding.proofs.FaultsFound.QueryFaults.{all_groups, is_bound}
use Rattle.sq_binding.proofs.Faultless.ResultNames.{rightly_is}
use Rattle.sq_binding.proofs.FaultsFound.SelectFaults.{PlaceIs, columns_judge, groups_of_lines, groups_over, lines_over, list_judges, over_groups, over_lines}

-- ---- set functions that are added

-- what follows where a set function is added
abbrev CallsIf : {A : Type 0} → (C : Type 0) → Binding A → Type 0
CallsIf {A} C b = (counts : Counts) (z : Found A) → b counts ≡ Ok z → is_some_of z.calls ≡ true → C

calls_of : {A : Type 0} (j : Judged) (sites : List Site) (G C : Type 0) (P : A → Type 0) (b : Binding A) → Judges j sites G C P b → CallsIf C b
calls_of j sites G C P b h counts z is = (subst (IfJudged j sites G C P) is (h counts)).called

then_calls : {A B : Type 0} (C : Type 0) (P : A → Type 0) (b : Binding A) (f : A → Binding B) → KnownIf P b → CallsIf C b → ((x : A) → P x → CallsIf C (f x)) → CallsIf C (b >>= f)
then_calls {A} {B} C P b f known h g counts z is t =
    let s = after_of b f counts z is in
    some_either s.first.calls s.second.calls (ap (λ (x : Found B). is_some_of x.calls) s.is_joined ∙ t) (h counts s.first s.is_first) (g s.first.part (known counts s.first s.is_first) _ s.second s.is_second)

more_calls : {A : Type 0} (C D : Type 0) (b : Binding A) → (C → D) → CallsIf C b → CallsIf D b
more_calls C D b f h counts z is t = f (h counts z is t)

calls_in : {A : Type 0} → Outcome (Found A) → Bool
calls_in (Ok x) = is_some_of x.calls
calls_in (Err f) = false

pure_calls : {A : Type 0} (C : Type 0) (x : A) → CallsIf C (pure x)
unfolding calls_in
pure_calls C x counts z is t = absurd (false≢true (ap calls_in is ∙ t))

last_calls : {A B : Type 0} (C : Type 0) (b : Binding A) (make : A → B) → CallsIf C b → CallsIf C (b >>= λ x. pure (make x))
last_calls C b make h = then_calls C (λ x. ⊤) b (λ x. pure (make x)) (anything_known b) h (λ x u. pure_calls C (make x))

-- ---- what groups a query specification

groups_are : (by : List Place) (having : NumberedClause) (calls : List PlacedExpr) → changeable.is_grouped (groups_by by having calls) ≡ (is_some_of by || is_bound having || is_some_of calls)
groups_are [] NumberedClause.absent [] = refl
groups_are [] NumberedClause.absent (f ∷ calls) = refl
groups_are [] (NumberedClause.present c) calls = refl
groups_are (p ∷ by) having calls = refl

same_groups : (b h c l : Bool) → (c ≡ true → (b || h || l) ≡ true) → (l ≡ true → c ≡ true) → (b || h || c) ≡ (b || h || l)
same_groups true h c l f g = refl
same_groups false true c l f g = refl
same_groups false false true l f g = sym (f refl)
same_groups false false false true f g = g refl
same_groups false false false false f g = refl

each_some : {A B : Type 0} (f : A → Binding B) (xs : List A) → KnownIf (λ ys. is_some_of ys ≡ is_some_of xs) (each f xs)
each_some f [] = pure_known (λ ys. is_some_of ys ≡ false) [] refl
each_some f (x ∷ xs) =
    then_known (λ y. ⊤) (λ ys. is_some_of ys ≡ true) (f x) (λ y. each f xs >>= λ ys. pure (y ∷ ys)) (anything_known (f x))
    (λ y u. then_known (λ ys. ⊤) (λ ys. is_some_of ys ≡ true) (each f xs) (λ ys. pure (y ∷ ys)) (anything_known (each f xs)) (λ ys v. pure_known (λ ys. is_some_of ys ≡ true) (y ∷ ys) refl))

clause_some : (a : Surroundings) (c : Clause Named) → KnownIf (λ x. is_bound x ≡ is_present c) (clause_bound a c)
clause_some a absent = pure_known (λ x. is_bound x ≡ false) NumberedClause.absent refl
clause_some a (present c) = then_known (λ x. ⊤) (λ x. is_bound x ≡ true) (cond_bound a c) (λ x. pure (NumberedClause.present x)) (anything_known (cond_bound a c)) (λ x u. pure_known (λ x. is_bound x ≡ true) (NumberedClause.present x) refl)

-- ---- a query specification

module _ (names : NamedTables) (j : Judged) (fit : NamesFit names j) where
  pub plain_rows : (distinct : Bool) (list : SelectList Named) (from : List TableReference) (filter : Clause Named) (by : List ColumnReference) (having : Clause Named) → SelectSpellsNoNull (select distinct list from filter by having)
      → KnownIf (λ s. has_plain_rows s ≡ (not distinct && not (is_grouped list by having))) (select_bound (surrounded names j [] false) (select distinct list from filter by having))
  plain_rows distinct list from filter by having null counts z is =
      let steps = steps_of (parts first_counts) (λ x. rightly_grouped (is_star list) (groups_of x) x) z is in
      let x = steps.step in
      let known = parts_known first_counts x steps.first in
      subst (λ (z : Found NumberedSelect). has_plain_rows z.part ≡ (not distinct && not (is_grouped list by having))) (rightly_is names j fit (is_star list) (groups_of x) x z steps.second)
      (λ i. not (known.0 i) && not ((groups_are x.part.by x.part.having x.calls ∙ (λ k. known.1 k || known.2 k || is_some_of x.calls)
      ∙ same_groups (is_some_of by) (is_present having) (is_some_of x.calls) (is_some_of (list_functions list)) (parts_call first_counts x steps.first) (parts_add first_counts x steps.first)) i))
    where
      first_counts : Counts
      first_counts = record counts { functions = 0 }

      lines : List NamedItem → Surroundings
      lines items = surrounded names j (lines_over items ∷ []) false

      groups : List NamedItem → List Place → Surroundings
      groups items columns = surrounded names j (groups_over items columns ∷ []) true

      whole : List NamedItem → NumberedClause → List Place → List ShownColumn → NumberedClause → Parts
      whole items y columns shown kept = record { distinct = distinct; from = tables_of items; filter = y; by = columns; shown = shown; having = kept }

      after_list : List NamedItem → NumberedClause → List Place → List ShownColumn → Binding Parts
      after_list items y columns shown = clause_bound (groups items columns) having >>= λ kept. pure (whole items y columns shown kept)

      after_columns : List NamedItem → NumberedClause → List Place → Binding Parts
      after_columns items y columns = list_bound (groups items columns) (items_of items) list >>= after_list items y columns

      after_filter : List NamedItem → NumberedClause → Binding Parts
      after_filter items y = each (grouping_column (lines items)) by >>= after_columns items y

      after_from : List NamedItem → Binding Parts
      after_from items = from_first (clause_bound (lines items) filter) >>= after_filter items

      parts : Binding Parts
      parts = from_bound names from >>= after_from

      Q : Parts → Type 0
      Q p = (p.distinct ≡ distinct) × (is_some_of p.by ≡ is_some_of by) × (is_bound p.having ≡ is_present having)

      C : Type 0
      C = (is_some_of by || is_present having || is_some_of (list_functions list)) ≡ true

      parts_known : KnownIf Q parts
      parts_known =
          then_known (λ items. ⊤) Q (from_bound names from) after_from (anything_known (from_bound names from))
          (λ items u. then_known (λ y. ⊤) Q (from_first (clause_bound (lines items) filter)) (after_filter items) (anything_known (from_first (clause_bound (lines items) filter)))
          (λ y v. then_known (λ columns. is_some_of columns ≡ is_some_of by) Q (each (grouping_column (lines items)) by) (after_columns items y) (each_some (grouping_column (lines items)) by)
          (λ columns some. then_known (λ shown. ⊤) Q (list_bound (groups items columns) (items_of items) list) (after_list items y columns) (anything_known (list_bound (groups items columns) (items_of items) list))
          (λ shown w. then_known (λ x. is_bound x ≡ is_present having) Q (clause_bound (groups items columns) having) (λ kept. pure (whole items y columns shown kept)) (clause_some (groups items columns) having)
          (λ kept kept_so. pure_known Q (whole items y columns shown kept) (refl, some, kept_so))))))

      parts_add : Adds (is_some_of (list_functions list)) parts
      parts_add =
          adds_second (is_some_of (list_functions list)) (from_bound names from) after_from
          (λ items. adds_second (is_some_of (list_functions list)) (from_first (clause_bound (lines items) filter)) (after_filter items)
          (λ y. adds_second (is_some_of (list_functions list)) (each (grouping_column (lines items)) by) (after_columns items y)
          (λ columns. adds_first (is_some_of (list_functions list)) (list_bound (groups items columns) (items_of items) list) (after_list items y columns) (list_adds (groups items columns) items list))))

      by_list : (b h l : Bool) → l ≡ true → (b || h || l) ≡ true
      by_list true h l e = refl
      by_list false true l e = refl
      by_list false false l e = e

      by_having : (b h l : Bool) → h ≡ true → (b || h || l) ≡ true
      by_having true h l e = refl
      by_having false true l e = refl
      by_having false false l e = cc

      items_judge : Judges j (map Site.table_read from ++ Site.from_whole from ∷ []) ⊤ ⊥ (AreItems j from) (from_bound names from)
      items_judge = from_judges names j fit ⊤ ⊥ from

      parts_call : CallsIf C parts
      parts_call =
          then_calls C (AreItems j from) (from_bound names from) after_from (known_of j (map Site.table_read from ++ Site.from_whole from ∷ []) ⊤ ⊥ (AreItems j from) (from_bound names from) items_judge)
          (more_calls ⊥ C (from_bound names from) (λ e. absurd e) (calls_of j (map Site.table_read from ++ Site.from_whole from ∷ []) ⊤ ⊥ (AreItems j from) (from_bound names from) items_judge))
          (λ items are. then_calls C (λ y. ⊤) (from_first (clause_bound (lines items) filter)) (after_filter items) (anything_known (from_first (clause_bound (lines items) filter)))
          (λ counts z is t. absurd (false≢true (calls_of j _ _ _ _ (clause_bound (lines items) filter)
          (clause_faults names j fit filter null.1 (lines_over items ∷ []) (plain_query from ∷ []) (over_lines j [] [] tt (λ depth. tt) from items are) (λ t. groups_of_lines j [] [] tt (λ depth. tt) from items are) false) (record counts { functions = 0 }) z is t).1))
          (λ y u. then_calls C (AllZip (PlaceIs j [] [] tt (λ depth. tt) from items are) by) (each (grouping_column (lines items)) by) (after_columns items y)
          (known_of j _ _ ⊥ (AllZip (PlaceIs j [] [] tt (λ depth. tt) from items are) by) (each (grouping_column (lines items)) by) (columns_judge j [] [] tt (λ depth. tt) from items are names ⊤ ⊥ by))
          (more_calls ⊥ C (each (grouping_column (lines items)) by) (λ e. absurd e) (calls_of j _ _ ⊥ (AllZip (PlaceIs j [] [] tt (λ depth. tt) from items are) by) (each (grouping_column (lines items)) by) (columns_judge j [] [] tt (λ depth. tt) from items are names ⊤ ⊥ by)))
          (λ columns places. then_calls C (λ shown. ⊤) (list_bound (groups items columns) (items_of items) list) (after_list items y columns) (anything_known (list_bound (groups items columns) (items_of items) list))
          (more_calls (is_some_of (list_functions list) ≡ true) C (list_bound (groups items columns) (items_of items) list) (by_list (is_some_of by) (is_present having) (is_some_of (list_functions list)))
          (calls_of j _ _ _ _ (list_bound (groups items columns) (items_of items) list) (list_judges j [] [] tt (λ depth. tt) from items are names columns by having list null.0)))
          (λ shown v. last_calls C (clause_bound (groups items columns) having) (λ kept. whole items y columns shown kept)
          (λ counts z is t. by_having (is_some_of by) (is_present having) (is_some_of (list_functions list)) (calls_of j _ _ _ _ (clause_bound (groups items columns) having)
          (clause_faults names j fit having null.2 (groups_over items columns ∷ []) (shown_query from list by having ∷ []) (over_groups j [] [] tt (λ depth. tt) from items are columns list by having)
          (λ t. all_groups names j fit [] [] tt (λ depth. tt) from items are by columns places list having t) true) counts z is t).0)))))
