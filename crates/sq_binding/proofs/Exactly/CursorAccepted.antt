-- A cursor is bound exactly if the rules find no fault in its query and its ORDER BY. A refused one has the fault that is answered
-- (ISO/IEC 9075:1992, 13.1).
use Rattle.std.proofs.Common.{◌≡◌, Bool, true, false, not, ◌&&◌, ◌||◌, List, [], ◌∷◌, ◌++◌, length, Option, Some, None, Ok, Err, refl, sym, ap, subst, ◌∙◌}
use Rattle.std.proofs.lemmas.List.{append-nil}
use Rattle.std.specs.List.{list_any}
use Rattle.std.specs.Option.{option_and_then, option_map}
use Rattle.std.specs.Prelude.{⊤, if◌then◌else◌, is_none}
use Rattle.std.proofs.lemmas.Bool.{false≢true}
use Rattle.sq_lex.specs.declared.name.Name.{Name}
use Rattle.sq_tree.specs.declared.list.CommaList.{CommaList}
use Rattle.sq_tree.specs.declared.«module».Cursor.{Cursor}
use Rattle.sq_tree.specs.declared.«module».SortSpecification.{SortSpecification}
use Rattle.sq_meaning.specs.Environment.{TableName, TableReference}
use Rattle.sq_meaning.specs.Rows.{SortColumn}
use Rattle.sq_meaning.specs.SortKeys.{query_names}
use Rattle.sq_meaning.specs.Spelled.{Named, listed_if_any, query_of}
use Rattle.sq_meaning.specs.Status as status
use Rattle.sq_meaning.specs.Syntax.{Query, Select, select, specification, union}
use Rattle.sq_meaning.specs.Binding.{Judged, has_fault, is_well_formed, lacks_privilege}
use Rattle.sq_meaning.specs.Site.{Site, clause_sites, outside, plain_query, query_sites, select_sites}
use Rattle.sq_meaning.specs.WellFormedStatement.{is_plain, only_specification, sort_sites}
use Rattle.sq_meaning.specs.declared.fault.BindingFault.{BindingFault}
use Rattle.sq_meaning.specs.declared.fault.BindingFault.TheVariants as fault
use Rattle.sq_binding.specs.Changeable.{NumberedUpdatable, UnderTable, UserNames, columns_shown, condition_bound, filter_of, from_of, has_plain_rows, list_of, made, may_be_changed, only_one, shown_of, table_over, updatable_bound, updatable_over, updatable_where}
use Rattle.sq_binding.specs.Condition.{select_bound}
use Rattle.sq_binding.specs.Cursor.{behind, cursor_bound, cursor_of, cursor_over, select_cursor, sorted_bound, sorted_cursor}
use Rattle.sq_binding.specs.Found.{Counts, Found, ◌>>=◌, outcome, pure}
use Rattle.sq_binding.specs.From.{NamedTable}
use Rattle.sq_binding.specs.NumberedCondition.{NumberedSelect}
use Rattle.sq_binding.specs.Order.{names_of, order_bound}
use Rattle.sq_binding.specs.Outcome.{Outcome, and_then}
use Rattle.sq_binding.specs.QueryExpression.{NumberedQuery, columns_of_query, query_bound}
use Rattle.sq_binding.specs.Select.{Surroundings}
use Rattle.sq_binding.specs.Whole.{at_first, whole}
use Rattle.sq_binding.proofs.Exactly.Accepted.{all_held}
use Rattle.sq_binding.proofs.Exactly.Accepts.{Accepts, fault_accepts, made_accepts, permitted_accepts, whole_accepts}
use Rattle.sq_binding.proofs.Faultless.Clean.{Clean}
use Rattle.sq_binding.proofs.Faultless.CleanBound.{select_clean}
use Rattle.sq_binding.proofs.Faultless.CleanUnion.{query_clean}
use Rattle.sq_binding.proofs.FaultsFound.CondFaults.{SelectSpellsNoNull, select_faults}
use Rattle.sq_binding.proofs.FaultsFound.FoundKinds.{standing}
use Rattle.sq_binding.proofs.FaultsFound.FromFaults.{NamesFit}
use Rattle.sq_binding.proofs.OneTable.LeafScopes.{condition_tells, sites_on}
use Rattle.sq_binding.proofs.Exactly.OrderTold.{order_told}
use Rattle.sq_binding.proofs.FaultsFound.PredicateFaults.{surrounded}
use Rattle.sq_binding.proofs.AtSites.Privileges.{Anywhere, ReadsFit, is_missing, lacking, order_quiet, privileges_seen, query_lacks, select_lacks}
use Rattle.sq_binding.proofs.FaultsFound.QueryFaults.{of_filter}
use Rattle.sq_binding.proofs.Faultless.ResultNames.{names_in, query_named}
use Rattle.sq_binding.proofs.AtSites.Seen.{any_both, last_seen, outcome_seen, then_seen}
use Rattle.sq_binding.proofs.Exactly.Tells.{Tells, judged_tells, made_tells, outcome_tells, then_tells}
use Rattle.sq_binding.proofs.Exactly.Told.{Told}
use Rattle.sq_binding.proofs.FaultsFound.UnionFaults.{IsQuery, QuerySpellsNoNull, query_faults}

-- What names mean to a user is what the rules know.
pub record UserFits (names : UserNames) (j : Judged) : Type 0 where
  pub tables : NamesFit names.tables j
  pub reads : ReadsFit names.tables j
  -- a table has a column of the base table for each of its columns
  pub wide : (t : TableName) (n : NamedTable) (u : UnderTable) → names.tables t ≡ Some n → names.under t ≡ Some u → length u.columns ≡ length n.columns

-- ---- as the rules say at their sites

module _ (names : UserNames) (j : Judged) (fit : NamesFit names.tables j) where
  abbrev a : Surroundings
  a = surrounded names.tables j [] false

  pub select_tells : (q : Select Named) → SelectSpellsNoNull q → Tells j (select_sites j.known outside q) (select_bound a q)
  select_tells q null =
      judged_tells j (select_sites j.known outside q) _ _ _ (select_bound a q) (select_faults names.tables j fit q null [] [] tt (λ depth. tt) false)
      (λ held counts z is. select_clean names.tables j fit held q null [] [] tt (λ depth. tt) (λ depth p grouped. refl) false counts z is)

  pub query_tells : (q : Query Named) → QuerySpellsNoNull q → Tells j (query_sites j.known q) (query_bound a q)
  query_tells q null = judged_tells j (query_sites j.known q) ⊥ (false ≡ true) (IsQuery j q) (query_bound a q) (query_faults names.tables j fit q null) (λ held counts z is. query_clean names.tables j fit held q null counts z is)

  abbrev pub sorted_sites : Query Named → List SortSpecification → List Site
  sorted_sites q order = query_sites j.known q ++ sort_sites (query_names j.known.tables q) order

  pub sorted_tells : (q : Query Named) → QuerySpellsNoNull q → (order : List SortSpecification) → Tells j (sorted_sites q order) (sorted_bound a q order)
  sorted_tells q null order =
      then_tells j (query_sites j.known q) (sort_sites (query_names j.known.tables q) order) (λ n. query_names j.known.tables q ≡ Ok (names_in (columns_of_query n))) (query_bound a q)
      (λ x. outcome (order_bound (names_of (columns_of_query x)) order) >>= λ by. pure (x, by)) (query_named names.tables j fit q) (query_tells q null)
      (λ x named. made_tells j (sort_sites (query_names j.known.tables q) order) (outcome (order_bound (names_of (columns_of_query x)) order)) (λ by. (x, by))
      (outcome_tells j (sort_sites (query_names j.known.tables q) order) (order_bound (names_of (columns_of_query x)) order)
      (subst (λ o. Told j (sort_sites o order) (order_bound (names_of (columns_of_query x)) order)) (sym named) (order_told j (names_in (columns_of_query x)) order))))

-- ---- a cursor

module _ (names : UserNames) (j : Judged) (fits : UserFits names j) where
  abbrev here : Surroundings
  here = surrounded names.tables j [] false

  abbrev pub sites : Query Named → List SortSpecification → List Site
  sites q order = query_sites j.known q ++ sort_sites (query_names j.known.tables q) order

  sorted_lacks : (q : Query Named) (order : List SortSpecification) (counts : Counts) (z : Found (NumberedQuery × List SortColumn)) → sorted_bound here q order counts ≡ Ok z → z.findings.lacks_privilege ≡ lacks_privilege j (sites q order)
  sorted_lacks q order =
      then_seen names.tables j (is_missing j) lacking Anywhere (privileges_seen names.tables j fits.tables fits.reads) (query_sites j.known q) [] (sites q order) (λ x. ⊤) (query_bound here q) (λ x. outcome (order_bound (names_of (columns_of_query x)) order) >>= λ by. pure (x, by))
      (λ counts z is. tt) (query_lacks names.tables j fits.tables fits.reads q)
      (λ x u. last_seen names.tables j (is_missing j) lacking Anywhere (privileges_seen names.tables j fits.tables fits.reads) [] (outcome (order_bound (names_of (columns_of_query x)) order)) (λ by. (x, by))
      (outcome_seen names.tables j (is_missing j) lacking Anywhere (privileges_seen names.tables j fits.tables fits.reads) (order_bound (names_of (columns_of_query x)) order)))
      (ap (λ b. list_any (is_missing j) (query_sites j.known q) || b) (sym (order_quiet j (query_names j.known.tables q) order)) ∙ sym (any_both (is_missing j) (query_sites j.known q) (sort_sites (query_names j.known.tables q) order)))

  sorted_accepts : (c : Cursor) (q : Query Named) → QuerySpellsNoNull q → Accepts j (sites q (listed_if_any c.order_by)) (cursor_of names here c q None)
  sorted_accepts c q null =
      made_accepts j (sites q (listed_if_any c.order_by)) (whole (sorted_bound here q (listed_if_any c.order_by))) (λ x. sorted_cursor c x.0 x.1)
      (whole_accepts j (sites q (listed_if_any c.order_by)) (sorted_bound here q (listed_if_any c.order_by)) (sorted_tells names j fits.tables q null (listed_if_any c.order_by) at_first)
      (sorted_tells names (all_held j) fits.tables q null (listed_if_any c.order_by) at_first) (λ x is. sorted_lacks q (listed_if_any c.order_by) at_first x is))

  -- ---- an updatable query is bound where its query specification is

  abbrev pub IsBound : {A : Type 0} → Outcome A → Type 0
  IsBound (Ok x) = ⊤
  IsBound (Err f) = ⊥

  told_is_bound : {A : Type 0} (S : List Site) (o : Outcome A) → Told (all_held j) S o → ((f : BindingFault) → has_fault (all_held j) S f ≡ true → ⊥) → IsBound o
  told_is_bound S (Ok x) h never = tt
  told_is_bound S (Err f) h never = never f h

  made_is_bound : {A B : Type 0} (o : Outcome A) (make : A → B) → IsBound o → IsBound (and_then o (λ x. Ok (make x)))
  made_is_bound (Ok x) make h = tt
  made_is_bound (Err f) make h = h

  module _ (q : Select Named) (null : SelectSpellsNoNull q) (s : NumberedSelect) (counts : Counts) (clean : Clean (all_held j) (select_sites j.known outside q)) where
    over_table : (r : TableReference) → from_of q ≡ r ∷ [] → (o : Option NamedTable) → names.tables r.table ≡ o → (p : Option UnderTable) → names.under r.table ≡ p
        → IsBound (updatable_over here q s (option_and_then (λ t. option_map (table_over r t) p) o) counts)
    over_table r one None there p under = tt
    over_table r one (Some t) there None under = tt
    over_table r one (Some t) there (Some u) under =
        made_is_bound (condition_bound here (table_over r t u) (filter_of q) counts) (made (updatable_where (table_over r t u) (columns_shown u (list_of q) (shown_of s)))) (filtered q null clean one)
      where
        filtered : (q : Select Named) → SelectSpellsNoNull q → Clean (all_held j) (select_sites j.known outside q) → from_of q ≡ r ∷ [] → IsBound (condition_bound here (table_over r t u) (filter_of q) counts)
        filtered (select distinct list from filter by having) null clean one =
            told_is_bound (sites_on names.tables (all_held j) fits.tables r t there filter) (condition_bound here (table_over r t u) filter counts)
            (condition_tells names.tables (all_held j) fits.tables r t there u (fits.wide r.table t u there under) filter null.1 counts)
            (λ f h. false≢true (sym (clean f) ∙ of_filter (all_held j) [] list from filter by having f (subst (λ from. has_fault (all_held j) (clause_sites j.known (standing (plain_query from ∷ []) false false) filter) f ≡ true) (sym one) h)))

    over_one : (from : List TableReference) → from_of q ≡ from → (plain : Bool) → IsBound (updatable_over here q s (if plain then option_and_then (may_be_changed names) (only_one from) else None) counts)
    over_one from e false = tt
    over_one [] e true = tt
    over_one (r ∷ []) e true = over_table r e (names.tables r.table) refl (names.under r.table) refl
    over_one (r ∷ t ∷ from) e true = tt

    pub updatable_is_bound : IsBound (updatable_bound names here q s counts)
    updatable_is_bound = over_one (from_of q) refl (has_plain_rows s)

  cursor_made : (c : Cursor) (s : NumberedSelect) (o : Outcome (Found (Option NumberedUpdatable))) → IsBound o → (S : List Site) → is_well_formed j S ≡ true → Accepts j S (and_then o (λ y. Ok (cursor_over c s y.part)))
  cursor_made c s (Ok y) h S well = well
  cursor_made c s (Err f) h S well = absurd h

  -- ---- a query specification alone

  permitted_select : (c : Cursor) (q : Select Named) → SelectSpellsNoNull q → (x : Found NumberedSelect) (lacks : Bool) → lacks ≡ lacks_privilege j (select_sites j.known outside q) → Clean (all_held j) (select_sites j.known outside q)
      → Accepts j (select_sites j.known outside q) (and_then (if lacks then Err fault.PrivilegeMissing else Ok x.part) (λ s. and_then (updatable_bound names here q s (behind x)) (λ y. Ok (cursor_over c s y.part))))
  permitted_select c q null x true e clean = permitted_accepts j (select_sites j.known outside q) x true e clean
  permitted_select c q null x false e clean =
      cursor_made c x.part (updatable_bound names here q x.part (behind x)) (updatable_is_bound q null x.part (behind x) clean) (select_sites j.known outside q)
      (permitted_accepts j (select_sites j.known outside q) x false e clean)

  select_accepts : (c : Cursor) (q : Select Named) → SelectSpellsNoNull q → (o : Outcome (Found NumberedSelect)) → select_bound here q at_first ≡ o → Accepts j (select_sites j.known outside q) (and_then o (select_cursor names here c q))
  select_accepts c q null (Err f) is =
      fault_accepts j (select_sites j.known outside q) f (subst (Told j (select_sites j.known outside q)) is (select_tells names j fits.tables q null at_first))
      (subst (Told (all_held j) (select_sites j.known outside q)) is (select_tells names (all_held j) fits.tables q null at_first))
  select_accepts c q null (Ok x) is =
      permitted_select c q null x x.findings.lacks_privilege (select_lacks names.tables j fits.tables fits.reads q at_first x is)
      (subst (Told (all_held j) (select_sites j.known outside q)) is (select_tells names (all_held j) fits.tables q null at_first) (λ t p. refl))

  -- ---- both

  no_sorts : (o : status.Outcome (List (Option Name))) → sort_sites o [] ≡ []
  no_sorts (Ok names) = refl
  no_sorts (Err s) = refl

  no_order : (o : Option (CommaList SortSpecification)) (b c : Bool) → (b && c && is_none o) ≡ true → listed_if_any o ≡ []
  no_order None b c e = refl
  no_order (Some list) true true e = cc
  no_order (Some list) true false e = cc
  no_order (Some list) false c e = cc

  any_accepts : (c : Cursor) (q : Query Named) → QuerySpellsNoNull q → (plain : Bool) → is_plain c ≡ plain → Accepts j (sites q (listed_if_any c.order_by)) (cursor_of names here c q (if plain then only_specification q else None))
  any_accepts c q null false e = sorted_accepts c q null
  any_accepts c (union all left right) null true e = sorted_accepts c (union all left right) null
  any_accepts c (specification q) null true e =
      subst (λ S. Accepts j S (cursor_of names here c (specification q) (Some q))) (sym unsorted) (select_accepts c q null (select_bound here q at_first) refl)
    where
      unsorted : sites (specification q) (listed_if_any c.order_by) ≡ select_sites j.known outside q
      unsorted =
          (λ i. select_sites j.known outside q ++ sort_sites (query_names j.known.tables (specification q)) (no_order c.order_by (not c.insensitive) (not c.scroll) e i))
          ∙ (λ i. select_sites j.known outside q ++ no_sorts (query_names j.known.tables (specification q)) i) ∙ append-nil (select_sites j.known outside q)

  -- a cursor is bound exactly where its query and its ORDER BY have no fault
  pub cursor_accepts : (c : Cursor) → QuerySpellsNoNull (query_of names.user c.query) → Accepts j (sites (query_of names.user c.query) (listed_if_any c.order_by)) (cursor_bound names j.known.parameters c)
  cursor_accepts c null = any_accepts c (query_of names.user c.query) null (is_plain c) refl
