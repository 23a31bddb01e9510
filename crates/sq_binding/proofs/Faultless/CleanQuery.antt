-- A search condition and a query specification that are bound break no rule at their sites (ISO/IEC 9075:1992, 7.3 to 7.9, 7.11 and
-- clause 8).
use Rattle.std.proofs.Common.{◌≡◌, ℕ, Bool, true, false, ◌||◌, List, [], ◌∷◌, ◌++◌, map, Some, None, Ok, Err, refl, subst}
use Rattle.std.specs.List.{AllZip}
use Rattle.std.specs.Prelude.{⊤, if◌then◌else◌}
use Rattle.sq_tree.specs.declared.names.ColumnReference.{ColumnReference}
use Rattle.sq_meaning.specs.Environment.{Place, TableReference}
use Rattle.sq_meaning.specs.Query.{is_grouped, is_present, is_some_of, list_functions}
use Rattle.sq_meaning.specs.Spelled.{Named}
use Rattle.sq_meaning.specs.Syntax.{SelectList, Clause, absent, present, select}
use Rattle.sq_bound.specs.Expression.{PlacedExpr}
use Rattle.sq_meaning.specs.Binding.{Judged, is_ungrouped_at}
use Rattle.sq_meaning.specs.Site.{EnclosingQuery, Site, clause_sites, list_count, list_sites, plain_query, select_sites, shown_query}
use Rattle.sq_meaning.specs.declared.fault.BindingFault.TheVariants as fault
use Rattle.sq_binding.specs.Condition.{clause_bound, cond_bound, select_bound}
use Rattle.sq_binding.specs.Found.{Binding, Counts, Found, ◌>>=◌, each, from_first, pure}
use Rattle.sq_binding.specs.From.{NamedItem, NamedTables, from_bound, items_of, tables_of}
use Rattle.sq_binding.specs.NumberedCondition.{NumberedClause, NumberedGroups, NumberedSelect}
use Rattle.sq_binding.specs.Outcome.{Outcome}
use Rattle.sq_binding.specs.Scope.{Scope}
use Rattle.sq_binding.specs.Select.{Parts, ShownColumn, Surroundings, grouping_column, groups_by, groups_of, is_star, list_bound, rightly_grouped, select_found}
use Rattle.sq_binding.proofs.Faultless.Clean.{AllHeld, Clean, clean_both, clean_first, clean_more, clean_parts, steps_of}
use Rattle.sq_binding.proofs.Faultless.CleanConds.{CleanIf, KnownIf, after_of, known_of, only_first, then_clean}
use Rattle.sq_binding.proofs.Faultless.CleanExprs.{Loose, TightAt, either_is, if_ok}
use Rattle.sq_binding.proofs.Faultless.CleanSelect.{Adds, adds_first, adds_second, columns_are_clean, from_is_clean, list_adds, list_is_clean}
use Rattle.sq_binding.proofs.FaultsFound.FoundKinds.{standing}
use Rattle.sq_binding.proofs.FaultsFound.FromFaults.{AreItems, NamesFit, from_judges}
use Rattle.sq_binding.proofs.FaultsFound.Known.{GroupsAt, IsOver}
use Rattle.sq_binding.proofs.FaultsFound.PredicateFaults.{surrounded}
use Rattle.sq_binding.proofs.FaultsFound.QueryFaults.{is_bound}
use Rattle.sq_binding.proofs.FaultsFound.SelectFaults.{PlaceIs, columns_judge, groups_over, lines_over}

-- ---- what is known of parts

pub then_known : {A B : Type 0} (P : A → Type 0) (Q : B → Type 0) (b : Binding A) (f : A → Binding B) → KnownIf P b → ((x : A) → P x → KnownIf Q (f x)) → KnownIf Q (b >>= f)
then_known {A} {B} P Q b f h g counts z is =
    let s = after_of b f counts z is in subst (λ (z : Found B). Q z.part) s.is_joined (g s.first.part (h counts s.first s.is_first) _ s.second s.is_second)

abbrev OkPart : {A : Type 0} → (A → Type 0) → Outcome (Found A) → Type 0
OkPart P (Ok z) = P z.part
OkPart P (Err f) = ⊤

pub pure_known : {A : Type 0} (P : A → Type 0) (x : A) → P x → KnownIf P (pure x)
pure_known P x h counts z is = subst (OkPart P) is h

pub anything_known : {A : Type 0} (b : Binding A) → KnownIf (λ x. ⊤) b
anything_known b counts z is = tt

clause_known : (a : Surroundings) (c : Clause Named) → KnownIf (λ x. is_present c ≡ true → is_bound x ≡ true) (clause_bound a c)
clause_known a absent = λ counts z is t. cc
clause_known a (present c) =
    then_known (λ x. ⊤) (λ x. true ≡ true → is_bound x ≡ true) (cond_bound a c) (λ x. pure (NumberedClause.present x)) (anything_known (cond_bound a c))
    (λ x u. pure_known (λ x. true ≡ true → is_bound x ≡ true) (NumberedClause.present x) (λ t. refl))

-- ---- the groups

is_set : NumberedGroups → Bool
is_set NumberedGroups.not_grouped = false
is_set (NumberedGroups.grouped by functions having) = true

set_by : (by : List Place) (having : NumberedClause) (calls : List PlacedExpr) → is_some_of by ≡ true → is_set (groups_by by having calls) ≡ true
unfolding is_set
set_by [] having calls t = cc
set_by (p ∷ by) having calls t = refl

set_having : (by : List Place) (having : NumberedClause) (calls : List PlacedExpr) → is_bound having ≡ true → is_set (groups_by by having calls) ≡ true
unfolding is_set
set_having [] NumberedClause.absent calls t = cc
set_having [] (NumberedClause.present c) calls t = refl
set_having (p ∷ by) having calls t = refl

set_calls : (by : List Place) (having : NumberedClause) (calls : List PlacedExpr) → is_some_of calls ≡ true → is_set (groups_by by having calls) ≡ true
unfolding is_set
set_calls [] NumberedClause.absent [] t = cc
set_calls [] NumberedClause.absent (f ∷ calls) t = refl
set_calls [] (NumberedClause.present c) calls t = refl
set_calls (p ∷ by) having calls t = refl

three : {P : Type 0} (a b c : Bool) → (a || b || c) ≡ true → (a ≡ true → P) → (b ≡ true → P) → (c ≡ true → P) → P
three true b c t p q r = p refl
three false true c t p q r = q refl
three false false c t p q r = r t

rightly_ok : (star : Bool) (groups : NumberedGroups) (x : Found Parts) (z : Found NumberedSelect) → rightly_grouped star groups x ≡ Ok z → is_set groups ≡ true → (star ≡ false) × (x.findings.values.has_ungrouped ≡ false)
unfolding is_set
rightly_ok star NumberedGroups.not_grouped x z is t = cc
rightly_ok star (NumberedGroups.grouped by functions having) x z is t =
    let starred = if_ok star fault.CountMismatch (if x.findings.values.has_ungrouped then Err fault.UngroupedColumn else Ok (select_found x)) z is in
    let free = if_ok x.findings.values.has_ungrouped fault.UngroupedColumn (Ok (select_found x)) z starred.1 in
    (starred.0, free.0)

loose_if : (j : Judged) (from : List TableReference) (by : List ColumnReference) (grouped : Bool) → grouped ≡ false → (p : Place) → is_ungrouped_at j.known p (record { from = from; grouping = if grouped then Some by else None }) ≡ false
loose_if j from by true e p = cc
loose_if j from by false e p = refl

not_both : {P : Type 0} (a : Bool) → a ≡ true → a ≡ false → P
not_both true t f = cc
not_both false t f = cc

-- ---- a query specification

module _ (names : NamedTables) (j : Judged) (fit : NamesFit names j) (held : AllHeld j) where
  pub select_is_clean : (distinct : Bool) (list : SelectList Named) (from : List TableReference) (filter : Clause Named) (by : List ColumnReference) (having : Clause Named) (scopes : List Scope) (queries : List EnclosingQuery)
      (over : AllZip (IsOver j.known) scopes queries) (all : (depth : ℕ) → GroupsAt j.known scopes queries depth) (tight : (depth : ℕ) → TightAt j.known scopes queries depth) (allowed : Bool)
      → ((items : List NamedItem) (are : AreItems j from items) → CleanIf j (Loose j.known (plain_query from ∷ queries)) (clause_sites j.known (standing (plain_query from ∷ queries) false false) filter) (clause_bound (surrounded names j (lines_over items ∷ scopes) false) filter))
      → ((items : List NamedItem) (are : AreItems j from items) (columns : List Place) (places : AllZip (PlaceIs j scopes queries over all from items are) by columns)
      → CleanIf j (Loose j.known (shown_query from list by having ∷ queries)) (clause_sites j.known (standing (shown_query from list by having ∷ queries) true false) having) (clause_bound (surrounded names j (groups_over items columns ∷ scopes) true) having))
      → (counts : Counts) (z : Found NumberedSelect) → select_bound (surrounded names j scopes allowed) (select distinct list from filter by having) counts ≡ Ok z
      → Clean j (select_sites j.known (standing queries allowed false) (select distinct list from filter by having))
  select_is_clean distinct list from filter by having scopes queries over all tight allowed filter_is having_is counts z is =
      let steps = steps_of (parts first_counts) (λ x. rightly_grouped (is_star list) (groups_of x) x) z is in
      let x = steps.step in
      let known = parts_known first_counts x steps.first in
      let calls = parts_add first_counts x steps.first in
      let right : is_grouped list by having ≡ true → (is_star list ≡ false) × (x.findings.values.has_ungrouped ≡ false) =
      λ g. rightly_ok (is_star list) (groups_of x) x z steps.second
      (three (is_some_of by) (is_present having) (is_some_of (list_functions list)) g (λ t. set_by x.part.by x.part.having x.calls (known.0 t)) (λ t. set_having x.part.by x.part.having x.calls (known.1 t)) (λ t. set_calls x.part.by x.part.having x.calls (calls t))) in
      parts_clean (λ star. either_is (is_grouped list by having) (λ g. not_both (is_star list) star (right g).0) (λ g. g)) first_counts x steps.first
      (λ t. either_is (is_grouped list by having) (λ g. not_both x.findings.values.has_ungrouped t (right g).1) (λ g p. loose_if j from by (is_grouped list by having) g p))
    where
      first_counts : Counts
      first_counts = record counts { functions = 0 }

      lines : List NamedItem → Surroundings
      lines items = surrounded names j (lines_over items ∷ scopes) false

      groups : List NamedItem → List Place → Surroundings
      groups items columns = surrounded names j (groups_over items columns ∷ scopes) true

      whole : List NamedItem → NumberedClause → List Place → List ShownColumn → NumberedClause → Parts
      whole items y columns shown kept = record { distinct = distinct; from = tables_of items; filter = y; by = columns; shown = shown; having = kept }

      after_list : List NamedItem → NumberedClause → List Place → List ShownColumn → Binding Parts
      after_list items y columns shown = clause_bound (groups items columns) having >>= λ kept. pure (whole items y columns shown kept)

      after_columns : List NamedItem → NumberedClause → List Place → Binding Parts
      after_columns items y columns = list_bound (groups items columns) (items_of items) list >>= after_list items y columns

      after_filter : List NamedItem → NumberedClause → Binding Parts
      after_filter items y = each (grouping_column (lines items)) by >>= after_columns items y

      after_from : List NamedItem → Binding Parts
      after_from items = from_first (clause_bound (lines items) filter) >>= after_filter items

      parts : Binding Parts
      parts = from_bound names from >>= after_from

      Q : Parts → Type 0
      Q p = (is_some_of by ≡ true → is_some_of p.by ≡ true) × (is_present having ≡ true → is_bound p.having ≡ true)

      items_known : KnownIf (AreItems j from) (from_bound names from)
      items_known = known_of j (map Site.table_read from ++ Site.from_whole from ∷ []) ⊤ ⊤ (AreItems j from) (from_bound names from) (from_judges names j fit ⊤ ⊤ from)

      places_known : (items : List NamedItem) (are : AreItems j from items) → KnownIf (AllZip (PlaceIs j scopes queries over all from items are) by) (each (grouping_column (lines items)) by)
      places_known items are =
          known_of j (map (Site.column_read (standing (plain_query from ∷ queries) false false)) by) ⊤ ⊤ (AllZip (PlaceIs j scopes queries over all from items are) by) (each (grouping_column (lines items)) by)
          (columns_judge j scopes queries over all from items are names ⊤ ⊤ by)

      some_by : {A B : Type 0} (R : A → B → Type 0) (xs : List A) (ys : List B) → AllZip R xs ys → is_some_of xs ≡ true → is_some_of ys ≡ true
      some_by R [] [] h t = t
      some_by R (x ∷ xs) [] h t = absurd h
      some_by R xs (y ∷ ys) h t = refl

      parts_known : KnownIf Q parts
      parts_known =
          then_known (AreItems j from) Q (from_bound names from) after_from items_known
          (λ items are. then_known (λ y. ⊤) Q (from_first (clause_bound (lines items) filter)) (after_filter items) (anything_known (from_first (clause_bound (lines items) filter)))
          (λ y u. then_known (AllZip (PlaceIs j scopes queries over all from items are) by) Q (each (grouping_column (lines items)) by) (after_columns items y) (places_known items are)
          (λ columns places. then_known (λ shown. ⊤) Q (list_bound (groups items columns) (items_of items) list) (after_list items y columns) (anything_known (list_bound (groups items columns) (items_of items) list))
          (λ shown v. then_known (λ x. is_present having ≡ true → is_bound x ≡ true) Q (clause_bound (groups items columns) having) (λ kept. pure (whole items y columns shown kept)) (clause_known (groups items columns) having)
          (λ kept t. pure_known Q (whole items y columns shown kept) (some_by (PlaceIs j scopes queries over all from items are) by columns places, t))))))

      parts_add : Adds (is_some_of (list_functions list)) parts
      parts_add =
          adds_second (is_some_of (list_functions list)) (from_bound names from) after_from
          (λ items. adds_second (is_some_of (list_functions list)) (from_first (clause_bound (lines items) filter)) (after_filter items)
          (λ y. adds_second (is_some_of (list_functions list)) (each (grouping_column (lines items)) by) (after_columns items y)
          (λ columns. adds_first (is_some_of (list_functions list)) (list_bound (groups items columns) (items_of items) list) (after_list items y columns) (list_adds (groups items columns) items list))))

      F : Type 0
      F = Loose j.known (shown_query from list by having ∷ queries)

      tables : List Site
      tables = map Site.table_read from

      listed : List Site
      listed = Site.column_count (list_count j.known.tables from list) ∷ list_sites j.known (standing (shown_query from list by having ∷ queries) true false) list (is_grouped list by having)

      filtered : List Site
      filtered = clause_sites j.known (standing (plain_query from ∷ queries) false false) filter

      read : List Site
      read = map (Site.column_read (standing (plain_query from ∷ queries) false false)) by

      kept_sites : List Site
      kept_sites = clause_sites j.known (standing (shown_query from list by having ∷ queries) true false) having

      all_sites : List Site
      all_sites = (((tables ++ (Site.from_whole from ∷ listed)) ++ filtered) ++ read) ++ kept_sites

      together : Clean j (tables ++ Site.from_whole from ∷ []) → Clean j (filtered ++ (read ++ (listed ++ kept_sites))) → Clean j all_sites
      together c d =
          let front = clean_parts j tables (Site.from_whole from ∷ []) c in
          let first = clean_parts j filtered (read ++ (listed ++ kept_sites)) d in
          let second = clean_parts j read (listed ++ kept_sites) first.1 in
          let third = clean_parts j listed kept_sites second.1 in
          clean_both j (((tables ++ (Site.from_whole from ∷ listed)) ++ filtered) ++ read) kept_sites
          (clean_both j ((tables ++ (Site.from_whole from ∷ listed)) ++ filtered) read
          (clean_both j (tables ++ (Site.from_whole from ∷ listed)) filtered
          (clean_both j tables (Site.from_whole from ∷ listed) front.0 (clean_more j (Site.from_whole from) listed (clean_first j (Site.from_whole from) [] front.1) third.0)) first.0) second.0) third.1

      parts_clean : (is_star list ≡ true → is_grouped list by having ≡ false) → CleanIf j F all_sites parts
      parts_clean star =
          then_clean j F (tables ++ Site.from_whole from ∷ []) (filtered ++ (read ++ (listed ++ kept_sites))) all_sites (AreItems j from) (from_bound names from) after_from items_known (from_is_clean names j fit held F from)
          (λ items are. then_clean j F filtered (read ++ (listed ++ kept_sites)) (filtered ++ (read ++ (listed ++ kept_sites))) (λ y. ⊤) (from_first (clause_bound (lines items) filter)) (after_filter items)
          (anything_known (from_first (clause_bound (lines items) filter))) (λ counts z is loose. filter_is items are (record counts { functions = 0 }) z is (λ t p. refl))
          (λ y u. then_clean j F read (listed ++ kept_sites) (read ++ (listed ++ kept_sites)) (AllZip (PlaceIs j scopes queries over all from items are) by) (each (grouping_column (lines items)) by) (after_columns items y) (places_known items are)
          (columns_are_clean j scopes queries over all tight from items are names F by)
          (λ columns places. then_clean j F listed kept_sites (listed ++ kept_sites) (λ shown. ⊤) (list_bound (groups items columns) (items_of items) list) (after_list items y columns) (anything_known (list_bound (groups items columns) (items_of items) list))
          (list_is_clean j scopes queries over all tight from items are names columns by places having list star)
          (λ shown v. only_first j F kept_sites (clause_bound (groups items columns) having) (λ kept. pure (whole items y columns shown kept)) (having_is items are columns places))
          (clean_both j listed kept_sites)) (clean_both j read (listed ++ kept_sites))) (clean_both j filtered (read ++ (listed ++ kept_sites)))) together
