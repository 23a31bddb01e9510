-- UPDATE is bound exactly if the rules find no fault in it (ISO/IEC 9075:1992, 13.9 and 13.10).
use Rattle.std.proofs.Common.{◌≡◌, Bool, true, false, not, ◌||◌, List, [], ◌∷◌, ◌++◌, length, map, Option, Some, None, Ok, Err, refl, sym, ap, subst, ◌∙◌}
use Rattle.std.specs.List.{AllByRecursion, flat_map, list_any}
use Rattle.std.specs.Prelude.{⊤, if◌then◌else◌}
use Rattle.sq_value.proofs.Truths.{or_false, or_turned}
use Rattle.sq_lex.specs.declared.name.Name.{Name}
use Rattle.sq_tree.specs.declared.statement.Assignment.{Assignment}
use Rattle.sq_tree.specs.declared.statement.Update.{Update}
use Rattle.sq_meaning.specs.Environment.{TableName, TableReference}
use Rattle.sq_meaning.specs.Spelled.{listed, table_of}
use Rattle.sq_meaning.specs.Binding.{Judged}
use Rattle.sq_meaning.specs.Privilege.{Privilege}
use Rattle.sq_meaning.specs.Site.{EnclosingQuery, Site, plain_query}
use Rattle.sq_meaning.specs.WellFormedStatement.{beside_table, column_kind, means_own_column, value_sites, with_select}
use Rattle.sq_binding.specs.Change.{NamedCursor, NamedCursors, NumberedAssignment, NumberedChange, NumberedUpdate, Receiver, assignment_bound, each_column, new_value_bound, reading, rows_bound, update_bound, update_parts, with_reading}
use Rattle.sq_binding.specs.Changeable.{ChangedTable, UserNames, changed_table, item_at_leaf}
use Rattle.sq_binding.specs.Found.{Binding, Found, ◌>>=◌, ◌>>◌, has_found, outcome, pure}
use Rattle.sq_binding.specs.Numbered.{Numbered}
use Rattle.sq_binding.specs.Outcome.{Outcome}
use Rattle.sq_binding.specs.QueryFindings.{QueryFindings}
use Rattle.sq_binding.specs.Select.{Surroundings, of_lines}
use Rattle.sq_binding.specs.Whole.{at_first, needed, whole}
use Rattle.sq_binding.proofs.Exactly.Accepted.{all_held}
use Rattle.sq_binding.proofs.Exactly.Accepts.{Accepts, whole_accepts}
use Rattle.sq_binding.proofs.Exactly.ChangedTold.{HasKind, IsChanged, TablesFit, changed_known, changed_told}
use Rattle.sq_binding.proofs.Faultless.Clean.{clean_more}
use Rattle.sq_binding.proofs.Faultless.CleanConds.{KnownIf}
use Rattle.sq_binding.proofs.Faultless.CleanQuery.{anything_known}
use Rattle.sq_binding.proofs.Faultless.CleanSelect.{outcome_ok}
use Rattle.sq_binding.proofs.AtSites.ColumnsSeen.{columns_seen}
use Rattle.sq_binding.proofs.Exactly.ColumnsTold.{ColumnsTold, columns_told}
use Rattle.sq_binding.proofs.Exactly.FetchTold.{CursorsFit, IfCursor}
use Rattle.sq_binding.proofs.FaultsFound.FoundKinds.{standing}
use Rattle.sq_binding.proofs.Exactly.InsertAccepted.{HoldsFit, privilege_clean, tells_between}
use Rattle.sq_binding.proofs.Exactly.InsertTold.{list_clean}
use Rattle.sq_binding.proofs.AtSites.Outermost.{Within, outermost_seen}
use Rattle.sq_binding.proofs.AtSites.Outermost as outermost
use Rattle.sq_binding.proofs.FaultsFound.PredicateFaults.{surrounded}
use Rattle.sq_binding.proofs.AtSites.Privileges.{Anywhere, LacksIf, ReadsFit, is_missing, lacking, privileges_seen}
use Rattle.sq_binding.proofs.AtSites.RowsSeen.{around_it, leaf_value_seen, reading_lacks, rows_seen}
use Rattle.sq_binding.proofs.Exactly.RowsTold.{PositionsFit, WhereSpellsNoNull, rows_tell, where_sites_of}
use Rattle.sq_binding.proofs.AtSites.Seen.{SeenIf, Sees, any_both, found_seen, last_seen, outcome_seen, then_seen}
use Rattle.sq_binding.proofs.FaultsFound.Sites.{fault_later}
use Rattle.sq_binding.proofs.Exactly.Tells.{Tells, first_tells, found_tells, made_tells, outcome_tells, tells_at, then_tells}
use Rattle.sq_binding.proofs.Exactly.Told.{Told, told_made}
use Rattle.sq_binding.proofs.Exactly.ValuesTold.{ValueSpellsNoNull, beside_tells}

-- no literal is the null value (5.3)
abbrev pub SetSpellsNoNull : Assignment → Type 0
SetSpellsNoNull s = ValueSpellsNoNull s.value

-- the sites of a set clause: the privilege that it needs and its value, and its column
abbrev pub uses_of : Judged → TableName → Assignment → List Site
uses_of j table s = Site.privilege_used table (Privilege.update s.column) ∷ value_sites j.known (beside_table table) (column_kind j.known.tables table s.column) s.value

abbrev pub set_sites_of : Judged → TableName → Assignment → List Site
set_sites_of j table s = Site.column_changed table s.column ∷ uses_of j table s

abbrev set_to : Receiver → Numbered → NumberedAssignment
set_to r value = record { column = r.column; value = value }

-- ---- set clauses

module _ (names : UserNames) (j : Judged) (fits : TablesFit names j) (table : TableName) (t : ChangedTable) (is : IsChanged names j table t) where
  abbrev a : Surroundings
  a = surrounded names.tables j [] false

  abbrev value_sites_of : Assignment → List Site
  value_sites_of s = uses_of j table s

  abbrev set_sites : Assignment → List Site
  set_sites s = set_sites_of j table s

  there_it : names.tables t.reference.table ≡ Some t.table
  there_it = ap (λ (r : TableReference). names.tables r.table) is.reference ∙ is.there

  wide : length t.under.columns ≡ length t.table.columns
  wide = fits.wide table t.table t.under is.there is.under

  abbrev inner : Surroundings
  inner = of_lines (item_at_leaf t ∷ []) a

  abbrev assigned : Assignment → Receiver → Numbered → Binding NumberedAssignment
  assigned s r value = has_found (needed (names.holds t.reference.table (Privilege.update s.column))) >> pure (set_to r value)

  -- the table by its name
  beside_are : (s : Assignment) → value_sites j.known (standing (plain_query (t.reference ∷ []) ∷ []) false false) (column_kind j.known.tables table s.column) s.value ≡ value_sites j.known (beside_table table) (column_kind j.known.tables table s.column) s.value
  beside_are s = λ i. value_sites j.known (record { queries = plain_query (is.reference i ∷ []) ∷ []; functions_allowed = false; in_function = false }) (column_kind j.known.tables table s.column) s.value

  value_tell : (s : Assignment) → SetSpellsNoNull s → (r : Receiver) → HasKind names j fits table t is s.column r
      → Tells j (value_sites j.known (beside_table table) (column_kind j.known.tables table s.column) s.value) (new_value_bound inner r.kind s.value)
  value_tell s null r kind =
      subst (λ sites. Tells j sites (new_value_bound inner r.kind s.value)) (beside_are s)
      (beside_tells names.tables j fits.tables t.reference t.table there_it t.under wide (column_kind j.known.tables table s.column) r.kind kind s.value null)

  pub assignment_tells : (s : Assignment) → SetSpellsNoNull s → (r : Receiver) → HasKind names j fits table t is s.column r → Tells j (value_sites_of s) (assignment_bound names a t s r)
  assignment_tells s null r kind =
      tells_at j values (value_sites_of s) (assignment_bound names a t s r) (λ f. fault_later j f used values)
      (λ held clean. clean_more j used values (privilege_clean j table (Privilege.update s.column) (held table (Privilege.update s.column))) clean)
      (first_tells j values (new_value_bound inner r.kind s.value) (assigned s r) (value_tell s null r kind)
      (λ x. made_tells j [] (has_found (needed (names.holds t.reference.table (Privilege.update s.column)))) (λ _. set_to r x) (found_tells j (needed (names.holds t.reference.table (Privilege.update s.column))))))
    where
      values : List Site
      values = value_sites j.known (beside_table table) (column_kind j.known.tables table s.column) s.value

      used : Site
      used = Site.privilege_used table (Privilege.update s.column)

  abbrev Any : Assignment → NumberedAssignment → Type 0
  Any s x = ⊤

  abbrev columns_of_set : List Assignment → List Name
  columns_of_set list = map (λ s. s.column) list

  abbrev SetTold : List Assignment → Outcome (Found (List NumberedAssignment)) → Type 0
  SetTold list o = ColumnsTold names j fits table t is (λ s. s.column) (assignment_bound names a t) value_sites_of Any SetSpellsNoNull assignment_tells (λ s r kind counts z so. tt) (columns_of_set list) list o

  set_told : (list : List Assignment) (o : Outcome (Found (List NumberedAssignment))) → SetTold list o → Told j (Site.column_list (columns_of_set list) ∷ flat_map set_sites list) o
  set_told list (Ok z) h = λ held. clean_more j (Site.column_list (columns_of_set list)) (flat_map set_sites list) (list_clean names j fits table t is (columns_of_set list) h.once) (h.clean held)
  set_told list (Err f) h = h

  pub set_tells : (list : List Assignment) → AllByRecursion SetSpellsNoNull list → Tells j (Site.column_list (columns_of_set list) ∷ flat_map set_sites list) (each_column t (λ s. s.column) (assignment_bound names a t) [] list)
  set_tells list null counts =
      set_told list (each_column t (λ s. s.column) (assignment_bound names a t) [] list counts)
      (columns_told names j fits table t is (λ s. s.column) (assignment_bound names a t) value_sites_of Any SetSpellsNoNull assignment_tells (λ s r kind counts z so. tt) list null counts)

  -- ---- what is found in them

  module _ (test : Site → Bool) (seen : QueryFindings → Bool) (Good : List EnclosingQuery → Bool → Type 0) (sees : Sees names.tables j test seen Good) (good : Good (plain_query (t.reference ∷ []) ∷ []) false)
      (column_silent : (c : Name) → test (Site.column_changed table c) ≡ false) (use_seen : (c : Name) → seen (needed (names.holds t.reference.table (Privilege.update c))) ≡ test (Site.privilege_used table (Privilege.update c))) where
    abbrev If : {A : Type 0} → List Site → Binding A → Type 0
    If sites b = SeenIf names.tables j test seen Good sees sites b

    assignment_seen : (s : Assignment) (r : Receiver) → If (set_sites s) (assignment_bound names a t s r)
    assignment_seen s r =
        then_seen names.tables j test seen Good sees values (used ∷ []) (set_sites s) (λ x. ⊤) (new_value_bound inner r.kind s.value) (assigned s r) (anything_known (new_value_bound inner r.kind s.value))
        (subst (λ sites. If sites (new_value_bound inner r.kind s.value)) (beside_are s)
        (leaf_value_seen names.tables j fits.tables test seen Good sees t.reference t.table there_it t.under wide good (column_kind j.known.tables table s.column) r.kind s.value))
        (λ x u. last_seen names.tables j test seen Good sees (used ∷ []) (has_found (needed (names.holds t.reference.table (Privilege.update s.column)))) (λ _. set_to r x)
        (found_seen names.tables j test seen Good sees (needed (names.holds t.reference.table (Privilege.update s.column))) (used ∷ []) (use_seen s.column ∙ sym (or_false (test used)))))
        (or_turned (list_any test values) (test used) ∙ ap (λ b. b || (test used || list_any test values)) (sym (column_silent s.column)))
      where
        values : List Site
        values = value_sites j.known (beside_table table) (column_kind j.known.tables table s.column) s.value

        used : Site
        used = Site.privilege_used table (Privilege.update s.column)

    pub set_seen : (list : List Assignment) → If (flat_map set_sites list) (each_column t (λ s. s.column) (assignment_bound names a t) [] list)
    set_seen list = columns_seen names.tables j test seen Good sees t (λ s. s.column) (assignment_bound names a t) set_sites assignment_seen [] list

-- ---- UPDATE

module _ (names : UserNames) (j : Judged) (fits : TablesFit names j) (cursors : NamedCursors) (known : CursorsFit cursors j) (positions : PositionsFit cursors j) where
  abbrev here : Surroundings
  here = surrounded names.tables j [] false

  abbrev named : Update → TableName
  named u = table_of names.user u.table

  abbrev pub asked_of : Update → List Site
  asked_of u = flat_map (set_sites_of j (named u)) (listed u.assignments) ++ where_sites_of names j (named u) u.target

  abbrev columns : Update → Site
  columns u = Site.column_list (map (λ s. s.column) (listed u.assignments))

  abbrev pub update_sites : Update → List Site
  update_sites u = Site.table_changed (named u) ∷ columns u ∷ with_select j.known (named u) (asked_of u)

  abbrev rows_then : ChangedTable → Update → List NumberedAssignment → Binding NumberedUpdate
  rows_then t u assignments = rows_bound names here cursors t u.target >>= λ rows. pure (record { rows = rows; assignments = assignments })

  abbrev updated : List NumberedAssignment → NumberedChange → NumberedUpdate
  updated assignments rows = record { rows = rows; assignments = assignments }

  pub table_known : (u : Update) → KnownIf (IsChanged names j (named u)) (outcome (changed_table names (named u)))
  table_known u counts z is = changed_known names j fits (named u) z.part (outcome_ok (changed_table names (named u)) counts z is)

  parts_tell : (u : Update) → AllByRecursion SetSpellsNoNull (listed u.assignments) → WhereSpellsNoNull names u.target → (t : ChangedTable) (is : IsChanged names j (named u) t) → Tells j (columns u ∷ asked_of u) (update_parts names here cursors t u)
  parts_tell u null nulls t is =
      then_tells j (columns u ∷ flat_map (set_sites_of j (named u)) (listed u.assignments)) (where_sites_of names j (named u) u.target) (λ x. ⊤) (each_column t (λ s. s.column) (assignment_bound names here t) [] (listed u.assignments)) (rows_then t u)
      (λ counts z so. tt) (set_tells names j fits (named u) t is (listed u.assignments) null)
      (λ x w. made_tells j (where_sites_of names j (named u) u.target) (rows_bound names here cursors t u.target) (updated x) (rows_tell names j fits cursors known positions (named u) t is u.target nulls))

  read_tells : (u : Update) (t : ChangedTable) → Tells j (columns u ∷ asked_of u) (update_parts names here cursors t u) → Tells j (columns u ∷ with_select j.known (named u) (asked_of u)) (reading names t (update_parts names here cursors t u))
  read_tells u t h counts = told_made j (columns u ∷ with_select j.known (named u) (asked_of u)) (update_parts names here cursors t u counts) (with_reading names t) (by (list_any (means_own_column j.known) (asked_of u)))
    where
      by : (own : Bool) → Told j (columns u ∷ (if own then Site.privilege_used (named u) Privilege.select ∷ asked_of u else asked_of u)) (update_parts names here cursors t u counts)
      by true = tells_between j (named u) Privilege.select (columns u) (asked_of u) (update_parts names here cursors t u) h counts
      by false = h counts

  update_tells : (u : Update) → AllByRecursion SetSpellsNoNull (listed u.assignments) → WhereSpellsNoNull names u.target → Tells j (update_sites u) (update_bound names j.known.parameters cursors u)
  update_tells u null nulls =
      then_tells j (Site.table_changed (named u) ∷ []) (columns u ∷ with_select j.known (named u) (asked_of u)) (IsChanged names j (named u)) (outcome (changed_table names (named u))) (λ t. reading names t (update_parts names here cursors t u)) (table_known u)
      (outcome_tells j (Site.table_changed (named u) ∷ []) (changed_table names (named u)) (changed_told names j fits (named u))) (λ t is. read_tells u t (parts_tell u null nulls t is))

module _ (names : UserNames) (j : Judged) (fits : TablesFit names j) (cursors : NamedCursors) (known : CursorsFit cursors j) (positions : PositionsFit cursors j) (reads : ReadsFit names.tables j) (holds : HoldsFit names j) where
  abbrev outer : Surroundings
  outer = surrounded names.tables j [] false

  parts_seen : (u : Update) (t : ChangedTable) (is : IsChanged names j (table_of names.user u.table) t) (test : Site → Bool) (seen : QueryFindings → Bool) (Good : List EnclosingQuery → Bool → Type 0) (sees : Sees names.tables j test seen Good)
      → Good (plain_query (t.reference ∷ []) ∷ []) false → ((c : Name) → test (Site.column_changed (table_of names.user u.table) c) ≡ false)
      → ((c : Name) → seen (needed (names.holds t.reference.table (Privilege.update c))) ≡ test (Site.privilege_used (table_of names.user u.table) (Privilege.update c)))
      → ((c : Name) → test (Site.cursor_used c) ≡ false) → ((c : Name) → test (Site.positioned (table_of names.user u.table) c) ≡ false)
      → SeenIf names.tables j test seen Good sees (asked_of names j fits cursors known positions u) (update_parts names outer cursors t u)
  parts_seen u t is test seen Good sees good columns uses used positioned =
      then_seen names.tables j test seen Good sees F W (F ++ W) (λ x. ⊤) (each_column t (λ s. s.column) (assignment_bound names outer t) [] (listed u.assignments)) (rows_then names j fits cursors known positions t u)
      (anything_known (each_column t (λ s. s.column) (assignment_bound names outer t) [] (listed u.assignments))) (set_seen names j fits name t is test seen Good sees good columns uses (listed u.assignments))
      (λ x w. last_seen names.tables j test seen Good sees W (rows_bound names outer cursors t u.target) (updated names j fits cursors known positions x) (rows_seen names j fits cursors known positions name t is test seen Good sees good used positioned u.target))
      (sym (any_both test F W))
    where
      name : TableName
      name = table_of names.user u.table

      F : List Site
      F = flat_map (set_sites_of j name) (listed u.assignments)

      W : List Site
      W = where_sites_of names j name u.target

  update_lacks : (u : Update) → LacksIf names.tables j fits.tables reads (update_sites names j fits cursors known positions u) (update_bound names j.known.parameters cursors u)
  update_lacks u =
      then_seen names.tables j (is_missing j) lacking Anywhere (privileges_seen names.tables j fits.tables reads) [] (update_sites names j fits cursors known positions u) (update_sites names j fits cursors known positions u) (IsChanged names j name)
      (outcome (changed_table names name)) (λ t. reading names t (update_parts names outer cursors t u)) (table_known names j fits cursors known positions u)
      (outcome_seen names.tables j (is_missing j) lacking Anywhere (privileges_seen names.tables j fits.tables reads) (changed_table names name))
      (λ t is. reading_lacks names j fits reads holds name t is (asked_of names j fits cursors known positions u) (update_parts names outer cursors t u)
      (parts_seen u t is (is_missing j) lacking Anywhere (privileges_seen names.tables j fits.tables reads) tt (λ c. refl)
      (λ c. (λ k. not (names.holds (is.reference k).table (Privilege.update c))) ∙ ap not (holds name (Privilege.update c))) (λ c. refl) (λ c. refl))
      (parts_seen u t is (means_own_column j.known) outermost.reading Within (outermost_seen names.tables j) (around_it names j fits reads holds name t is) (λ c. refl) (λ c. refl) (λ c. refl) (λ c. refl)))
      refl
    where
      name : TableName
      name = table_of names.user u.table

  if_known : (name : Name) (o : Option NamedCursor) → IfCursor j name o → IfCursor (all_held j) name o
  if_known name (Some c) h = h
  if_known name None h = h

  all_fit : TablesFit names (all_held j)
  all_fit = record { tables = fits.tables; wide = fits.wide; changes = fits.changes; narrow = fits.narrow; apart = fits.apart }

  -- an UPDATE is bound exactly where the rules find no fault in it
  pub update_accepts : (u : Update) → AllByRecursion SetSpellsNoNull (listed u.assignments) → WhereSpellsNoNull names u.target → Accepts j (update_sites names j fits cursors known positions u) (whole (update_bound names j.known.parameters cursors u))
  update_accepts u null nulls =
      whole_accepts j (update_sites names j fits cursors known positions u) (update_bound names j.known.parameters cursors u) (update_tells names j fits cursors known positions u null nulls at_first)
      (update_tells names (all_held j) all_fit cursors (λ name. if_known name (cursors name) (known name)) positions u null nulls at_first) (λ x is. update_lacks u at_first x is)
