-- The parts of a query specification that is bound break no rule at their sites (ISO/IEC 9075:1992, 6.3 and 7.4 to 7.9).
use Rattle.std.proofs.Common.{◌≡◌, ℕ, zero, suc, Bool, true, false, not, ◌||◌, List, [], ◌∷◌, ◌++◌, length, map, Some, None, Ok, Err, refl, sym, ap, subst, ◌∙◌}
use Rattle.std.specs.List.{AllZip, flat_map, list_any}
use Rattle.std.specs.Prelude.{⊤, is_ok, nat_lt, if◌then◌else◌}
use Rattle.std.proofs.lemmas.Bool.{not-true}
use Rattle.sq_tree.specs.declared.names.ColumnReference.{ColumnReference}
use Rattle.sq_meaning.specs.Environment.{Place, TableReference}
use Rattle.sq_meaning.specs.Expression.{set_functions}
use Rattle.sq_meaning.specs.Query.{is_grouped, is_some_of, list_functions}
use Rattle.sq_meaning.specs.SortKeys.{item_name}
use Rattle.sq_meaning.specs.Spelled.{Named}
use Rattle.sq_meaning.specs.Status as status
use Rattle.sq_meaning.specs.Syntax.{Clause, Expr, SelectList, all_columns, expressions}
use Rattle.sq_meaning.specs.Tables.{Declared, TableDescriptor, descriptor_of}
use Rattle.sq_meaning.specs.WellFormed.{HasValue}
use Rattle.sq_meaning.specs.Binding.{Judged, fits_here, has_item_twice, is_at, is_ungrouped, is_ungrouped_at}
use Rattle.sq_meaning.specs.Site.{Around, EnclosingQuery, Site, expr_sites, list_count, list_sites, plain_query, shown_query}
use Rattle.sq_meaning.specs.declared.fault.BindingFault.TheVariants as fault
use Rattle.sq_binding.specs.Expression.{bound, column_findings, place_of_found}
use Rattle.sq_binding.specs.Found.{Binding, Counts, Found, ◌>>=◌, ◌>>◌, each, has_found, must, outcome, pure, refused}
use Rattle.sq_binding.specs.From.{NamedItem, NamedTables, from_bound, item_bound, item_over, items_of, table_findings}
use Rattle.sq_binding.specs.Outcome.{Outcome, or_fault}
use Rattle.sq_binding.specs.QueryFindings.{of_values}
use Rattle.sq_binding.specs.Scope.{Scope, column_meant}
use Rattle.sq_binding.specs.Select.{Surroundings, columns_of_items, grouping_column, grouping_place, is_star, list_bound, shown_column, value, value_found}
use Rattle.sq_binding.proofs.Inductions.Cases.{Cases, it_holds}
use Rattle.sq_binding.proofs.Faultless.Clean.{AllHeld, Clean, clean_both, clean_more, from_clean, no_site, read_clean, steps_of, table_clean, width_clean}
use Rattle.sq_binding.proofs.Faultless.CleanConds.{CleanIf, after_of, nothing_asked, only_first, must_true, then_clean, value_clean}
use Rattle.sq_binding.proofs.Faultless.CleanExprs.{Loose, TightAt, grouped_found}
use Rattle.sq_binding.proofs.FaultsFound.Faults.{some_both}
use Rattle.sq_binding.proofs.FaultsFound.FoundKinds.{meant_there, standing}
use Rattle.sq_binding.proofs.FaultsFound.FromFaults.{AreItems, NamesFit, one_each, star_count, table_known}
use Rattle.sq_binding.proofs.FaultsFound.Known.{GroupsAt, IsOver}
use Rattle.sq_binding.proofs.FaultsFound.PredicateFaults.{surrounded}
use Rattle.sq_binding.proofs.FaultsFound.SelectFaults.{PlaceIs, groups_further, groups_over, lines_over, over_groups, over_lines, places_at}
use Rattle.sq_binding.proofs.FaultsFound.Judged.{some_either, some_left, some_right}

pub at_most_ok : {A : Type 0} (t : Bool) (b : Binding A) (counts : Counts) (z : Found A) → (if t then refused fault.LimitExceeded else b) counts ≡ Ok z → (t ≡ false) × (b counts ≡ Ok z)
at_most_ok true b counts z e = cc
at_most_ok false b counts z e = (refl, e)

part_of : {A : Type 0} → A → Outcome (Found A) → A
part_of x (Ok z) = z.part
part_of x (Err f) = x

pub outcome_ok : {A : Type 0} (o : Outcome A) (counts : Counts) (z : Found A) → outcome o counts ≡ Ok z → o ≡ Ok z.part
unfolding part_of
outcome_ok (Ok x) counts z e = ap (λ o. Ok (part_of x o)) e
outcome_ok (Err f) counts z e = cc

module _ (j : Judged) (Free : Type 0) where
  pub each_is_clean : {A B : Type 0} (sites_of : A → List Site) (f : A → Binding B) → ((x : A) → CleanIf j Free (sites_of x) (f x)) → (xs : List A) → CleanIf j Free (flat_map sites_of xs) (each f xs)
  each_is_clean sites_of f h [] = nothing_asked j Free (each f [])
  each_is_clean sites_of f h (x ∷ xs) =
      then_clean j Free (sites_of x) (flat_map sites_of xs) (sites_of x ++ flat_map sites_of xs) (λ y. ⊤) (f x) (λ y. each f xs >>= λ ys. pure (y ∷ ys)) (λ counts z is. tt) (h x)
      (λ y u. only_first j Free (flat_map sites_of xs) (each f xs) (λ ys. pure (y ∷ ys)) (each_is_clean sites_of f h xs)) (λ c d. clean_both j (sites_of x) (flat_map sites_of xs) c d)

-- ---- FROM

there : (d : status.Outcome TableDescriptor) → HasValue d → not (is_ok d) ≡ false
there (Ok d) h = refl
there (Err s) h = absurd h

module _ (names : NamedTables) (j : Judged) (fit : NamesFit names j) (held : AllHeld j) (Free : Type 0) where
  item_is_clean : (r : TableReference) → CleanIf j Free (Site.table_read r ∷ []) (item_bound names r)
  item_is_clean r counts z is loose =
      let s = after_of (outcome (or_fault fault.UnknownTable (names r.table))) (λ t. has_found (table_findings t) >> pure (item_over r t)) counts z is in
      let found = outcome_ok (or_fault fault.UnknownTable (names r.table)) counts s.first s.is_first in
      let known = table_known (names r.table) (descriptor_of j.known.tables r.table) (fit r.table) s.first.part found in
      clean_more j (Site.table_read r) [] (table_clean j held r (there (descriptor_of j.known.tables r.table) known.1)) (no_site j)

  pub from_is_clean : (from : List TableReference) → CleanIf j Free (map Site.table_read from ++ Site.from_whole from ∷ []) (from_bound names from)
  from_is_clean from counts z is loose =
      let limited = at_most_ok (nat_lt 16 (length from)) (each (item_bound names) from >>= λ items. must (not (has_item_twice from)) fault.AmbiguousName >> pure items) counts z is in
      let s = after_of (each (item_bound names) from) (λ items. must (not (has_item_twice from)) fault.AmbiguousName >> pure items) counts z limited.1 in
      let tested = after_of (must (not (has_item_twice from)) fault.AmbiguousName) (λ _. pure s.first.part) _ s.second s.is_second in
      let once : has_item_twice from ≡ false = not-true (has_item_twice from) (must_true j Free (not (has_item_twice from)) fault.AmbiguousName _ tested.first tested.is_first) in
      clean_both j (map Site.table_read from) (Site.from_whole from ∷ [])
      (subst (Clean j) (one_each Site.table_read from)
      (only_first j Free (flat_map (λ r. Site.table_read r ∷ []) from) (each (item_bound names) from) (λ items. must (not (has_item_twice from)) fault.AmbiguousName >> pure items)
      (each_is_clean j Free (λ r. Site.table_read r ∷ []) (item_bound names) item_is_clean from) counts z limited.1 loose))
      (clean_more j (Site.from_whole from) [] (from_clean j from limited.0 once) (no_site j))

-- ---- the scopes of a query specification

module _ (j : Judged) (scopes : List Scope) (queries : List EnclosingQuery) (over : AllZip (IsOver j.known) scopes queries) (all : (depth : ℕ) → GroupsAt j.known scopes queries depth)
    (tight : (depth : ℕ) → TightAt j.known scopes queries depth) (from : List TableReference) (items : List NamedItem) (are : AreItems j from items) where
  pub tight_lines : (depth : ℕ) → TightAt j.known (lines_over items ∷ scopes) (plain_query from ∷ queries) depth
  tight_lines zero = λ p grouped. refl
  tight_lines (suc depth) = tight depth

  grouping_not : (p : Place) (by : List ColumnReference) (grouped : Bool) → list_any (is_at p) (flat_map (λ c. fits_here j.known c (plain_query from)) by) ≡ true
      → is_ungrouped_at j.known p (record { from = from; grouping = if grouped then Some by else None }) ≡ false
  grouping_not p by true h = ap not h
  grouping_not p by false h = refl

  pub tight_groups : (by : List ColumnReference) (columns : List Place) → AllZip (PlaceIs j scopes queries over all from items are) by columns → (list : SelectList Named) (having : Clause Named) (depth : ℕ)
      → TightAt j.known (groups_over items columns ∷ scopes) (shown_query from list by having ∷ queries) depth
  tight_groups by columns h list having zero = λ p grouped. grouping_not p by (is_grouped list by having) (places_at j scopes queries over all from items are p by columns h ∙ grouped)
  tight_groups by columns h list having (suc depth) = tight depth

  -- ---- GROUP BY

  abbrev read : ColumnReference → Site
  read c = Site.column_read (standing (plain_query from ∷ queries) false false) c

  module _ (names : NamedTables) (Free : Type 0) where
    grouping_is_clean : (c : ColumnReference) → CleanIf j Free (read c ∷ []) (grouping_column (surrounded names j (lines_over items ∷ scopes) false) c)
    grouping_is_clean c counts z is loose =
        let s = after_of (outcome (column_meant c (lines_over items ∷ scopes))) grouping_place counts z is in
        let found = outcome_ok (column_meant c (lines_over items ∷ scopes)) counts s.first s.is_first in
        let tested = after_of (must s.first.part.is_grouped fault.UngroupedColumn) (λ _. has_found (of_values (column_findings s.first.part)) >> pure (place_of_found s.first.part)) _ s.second s.is_second in
        let grouped : s.first.part.is_grouped ≡ true = must_true j Free s.first.part.is_grouped fault.UngroupedColumn _ tested.first tested.is_first in
        let m = meant_there j (lines_over items ∷ scopes) (plain_query from ∷ queries) (over_lines j scopes queries over all from items are) c s.first.part found in
        clean_more j (read c) []
        (read_clean j (standing (plain_query from ∷ queries) false false) c (ap length m.fits)
        (ap (list_any (is_ungrouped j.known (plain_query from ∷ queries))) m.fits
        ∙ ap (λ b. b || false) (tight_lines s.first.part.depth (place_of_found s.first.part) (grouped_found c (lines_over items ∷ scopes) s.first.part found ∙ grouped))))
        (no_site j)

    pub columns_are_clean : (by : List ColumnReference) → CleanIf j Free (map read by) (each (grouping_column (surrounded names j (lines_over items ∷ scopes) false)) by)
    columns_are_clean by =
        subst (λ sites. CleanIf j Free sites (each (grouping_column (surrounded names j (lines_over items ∷ scopes) false)) by)) (one_each read by)
        (each_is_clean j Free (λ c. read c ∷ []) (grouping_column (surrounded names j (lines_over items ∷ scopes) false)) grouping_is_clean by)

  -- ---- select lists

  module _ (names : NamedTables) (columns : List Place) (by : List ColumnReference) (places : AllZip (PlaceIs j scopes queries over all from items are) by columns) (having : Clause Named) where
    abbrev shown_here : SelectList Named → Around
    shown_here list = standing (shown_query from list by having ∷ queries) true false

    abbrev inner : Surroundings
    inner = surrounded names j (groups_over items columns ∷ scopes) true

    abbrev Free : SelectList Named → Type 0
    Free list = Loose j.known (shown_query from list by having ∷ queries)

    starless : (g : Bool) → g ≡ false → Clean j (if g then Site.star_of_groups ∷ [] else [])
    starless true e = cc
    starless false e = no_site j

    pub list_is_clean : (list : SelectList Named) → (is_star list ≡ true → is_grouped list by having ≡ false)
        → CleanIf j (Free list) (Site.column_count (list_count j.known.tables from list) ∷ list_sites j.known (shown_here list) list (is_grouped list by having)) (list_bound inner (items_of items) list)
    list_is_clean all_columns star counts z is loose =
        let limited = at_most_ok (nat_lt 64 (length (columns_of_items (items_of items)))) (pure (columns_of_items (items_of items))) counts z is in
        clean_more j (Site.column_count (list_count j.known.tables from all_columns)) (list_sites j.known (shown_here all_columns) all_columns (is_grouped all_columns by having))
        (width_clean j (list_count j.known.tables from all_columns) (ap (nat_lt 64) (star_count j from items are) ∙ limited.0)) (starless (is_grouped all_columns by having) (star refl))
    list_is_clean (expressions es) star counts z is loose =
        let limited = at_most_ok (nat_lt 64 (length es)) (each (shown_column inner) es) counts z is in
        clean_more j (Site.column_count (length es)) (flat_map (expr_sites j.known (shown_here (expressions es))) es) (width_clean j (length es) limited.0)
        (each_is_clean j (Free (expressions es)) (expr_sites j.known (shown_here (expressions es))) (shown_column inner)
        (λ e. only_first j (Free (expressions es)) (expr_sites j.known (shown_here (expressions es)) e) (value inner e) (λ x. pure (record { tree = x.tree; column = record { name = item_name e; kind = x.kind } }))
        (value_clean names j (groups_over items columns ∷ scopes) (shown_query from (expressions es) by having ∷ queries) (over_groups j scopes queries over all from items are columns (expressions es) by having)
        (groups_further j scopes queries over all from items are columns (shown_query from (expressions es) by having)) (tight_groups by columns places (expressions es) having) true e))
        es counts z limited.1 loose)

-- ---- set functions are found

called_cases : (scopes : List Scope) (parameters : List Declared) → Cases scopes parameters (λ allowed n e x. is_some_of (set_functions e) ≡ true → is_some_of x.calls ≡ true)
called_cases scopes parameters = record {
  of_literal = λ allowed n v k is t. t;
  of_parameter = λ allowed n p at i is so t. t;
  of_user = λ allowed n t. t;
  of_column = λ allowed n c found is t. t;
  of_count = λ n t. refl;
  of_function = λ n f distinct e x k h own is t. refl;
  of_signed = λ allowed n sign e x h number t. h t;
  of_added = λ allowed n sign e g x y k h l is t. some_both (set_functions e) (set_functions g) x.calls y.calls h l t;
  of_scaled = λ allowed n sign e g x y k h l is t. some_both (set_functions e) (set_functions g) x.calls y.calls h l t;
  of_bracketed = λ allowed n e x h. h;
}

-- where there is a set function in the text, one is added
abbrev pub Adds : {A : Type 0} → Bool → Binding A → Type 0
Adds {A} some b = (counts : Counts) (z : Found A) → b counts ≡ Ok z → some ≡ true → is_some_of z.calls ≡ true

pub adds_first : {A B : Type 0} (some : Bool) (b : Binding A) (f : A → Binding B) → Adds some b → Adds some (b >>= f)
adds_first {A} {B} some b f h counts z is t =
    let s = after_of b f counts z is in ap (λ (z : Found B). is_some_of z.calls) (sym s.is_joined) ∙ some_left s.first.calls s.second.calls (h counts s.first s.is_first t)

pub adds_second : {A B : Type 0} (some : Bool) (b : Binding A) (f : A → Binding B) → ((x : A) → Adds some (f x)) → Adds some (b >>= f)
adds_second {A} {B} some b f h counts z is t =
    let s = after_of b f counts z is in ap (λ (z : Found B). is_some_of z.calls) (sym s.is_joined) ∙ some_right s.first.calls s.second.calls (h s.first.part _ s.second s.is_second t)

value_adds : (a : Surroundings) (e : Expr Named) → Adds (is_some_of (set_functions e)) (value a e)
value_adds a e counts z is t =
    let steps = steps_of (bound a.scopes a.parameters a.functions_allowed false e counts.functions) (λ b. Ok (value_found counts b)) z is in
    let made = steps.second in
    let same : value_found counts steps.step ≡ z = cc in
    ap (λ z. is_some_of z.calls) (sym same)
    ∙ it_holds a.scopes a.parameters (λ allowed n e x. is_some_of (set_functions e) ≡ true → is_some_of x.calls ≡ true) (called_cases a.scopes a.parameters) a.functions_allowed false e counts.functions steps.step steps.first t

each_adds : (a : Surroundings) (es : List (Expr Named)) → Adds (is_some_of (flat_map set_functions es)) (each (shown_column a) es)
each_adds a [] counts z is t = cc
each_adds a (e ∷ es) counts z is t =
    some_either (set_functions e) (flat_map set_functions es) t
    (λ u. adds_first (is_some_of (set_functions e)) (shown_column a e) (λ y. each (shown_column a) es >>= λ ys. pure (y ∷ ys))
    (adds_first (is_some_of (set_functions e)) (value a e) (λ x. pure (record { tree = x.tree; column = record { name = item_name e; kind = x.kind } })) (value_adds a e)) counts z is u)
    (λ u. adds_second (is_some_of (flat_map set_functions es)) (shown_column a e) (λ y. each (shown_column a) es >>= λ ys. pure (y ∷ ys))
    (λ y. adds_first (is_some_of (flat_map set_functions es)) (each (shown_column a) es) (λ ys. pure (y ∷ ys)) (each_adds a es)) counts z is u)

pub list_adds : (a : Surroundings) (items : List NamedItem) (list : SelectList Named) → Adds (is_some_of (list_functions list)) (list_bound a (items_of items) list)
list_adds a items all_columns counts z is t = cc
list_adds a items (expressions es) counts z is t = each_adds a es counts z (at_most_ok (nat_lt 64 (length es)) (each (shown_column a) es) counts z is).1 t
