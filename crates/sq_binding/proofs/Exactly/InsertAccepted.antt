-- INSERT is bound exactly if the rules find no fault in it (ISO/IEC 9075:1992, 13.8).
use Rattle.std.proofs.Common.{◌≡◌, Bool, true, false, not, ◌||◌, List, [], ◌∷◌, ◌++◌, length, map, Option, Some, None, refl, sym, ap, subst, ◌∙◌}
use Rattle.std.specs.List.{flat_map, list_any, zip}
use Rattle.std.specs.Prelude.{⊤, ◌==◌}
use Rattle.sq_value.proofs.Truths.{or_false, or_turned}
use Rattle.sq_lex.specs.declared.name.Name.{Name}
use Rattle.sq_value.specs.declared.domain.Kind.{Kind}
use Rattle.sq_value.specs.declared.value.Value.TheVariants.{Null}
use Rattle.sq_tree.specs.declared.list.CommaList.{CommaList}
use Rattle.sq_tree.specs.declared.statement.Insert.{Insert}
use Rattle.sq_tree.specs.declared.statement.InsertSource.{InsertSource}
use Rattle.sq_tree.specs.declared.statement.InsertSource.TheVariants as source
use Rattle.sq_tree.specs.declared.statement.NewValue.{NewValue}
use Rattle.sq_tree.specs.declared.statement.NewValue.TheVariants as new_value
use Rattle.sq_meaning.specs.Environment.{TableName}
use Rattle.sq_meaning.specs.Spelled.{Named, expr_of, listed, listed_if_any, select_of, table_of}
use Rattle.sq_meaning.specs.Status as status
use Rattle.sq_meaning.specs.Syntax.{Select}
use Rattle.sq_meaning.specs.WellFormed.{is_comparable}
use Rattle.sq_meaning.specs.Binding.{Judged, breaks, has_fault}
use Rattle.sq_meaning.specs.Privilege.{Privilege}
use Rattle.sq_meaning.specs.Site.{Around, Site, expr_sites, kinds_here, outside, select_count, select_sites}
use Rattle.sq_meaning.specs.WellFormedStatement.{column_kind, each_kind, insert_columns, pair_sites, value_sites}
use Rattle.sq_meaning.specs.declared.fault.BindingFault.{BindingFault}
use Rattle.sq_meaning.specs.declared.fault.BindingFault.TheVariants as fault
use Rattle.sq_binding.specs.Change.{NumberedInsert, NumberedSource, Receiver, column_for, insert_bound, itself, new_value_bound, receivers_bound, receivers_of, source_bound, value_for}
use Rattle.sq_binding.specs.Changeable.{ChangedTable, UserNames, changed_table}
use Rattle.sq_binding.specs.Condition.{must_agree, select_bound}
use Rattle.sq_binding.specs.Found.{Binding, ◌>>=◌, ◌>>◌, each, has_found, must, outcome, pure}
use Rattle.sq_binding.specs.Numbered.{Numbered}
use Rattle.sq_binding.specs.NumberedCondition.{columns_of}
use Rattle.sq_binding.specs.Select.{Surroundings, value}
use Rattle.sq_binding.specs.Whole.{at_first, needed, whole}
use Rattle.sq_binding.proofs.Exactly.Accepted.{all_held}
use Rattle.sq_binding.proofs.Exactly.Accepts.{Accepts, whole_accepts}
use Rattle.sq_binding.proofs.Exactly.ChangedTold.{IsChanged, TablesFit, changed_known, changed_told}
use Rattle.sq_binding.proofs.Faultless.Clean.{CleanSite, clean_first, clean_more, clean_rest}
use Rattle.sq_binding.proofs.Faultless.CleanConds.{KnownIf}
use Rattle.sq_binding.proofs.Faultless.CleanQuery.{anything_known}
use Rattle.sq_binding.proofs.Faultless.CleanSelect.{outcome_ok}
use Rattle.sq_binding.proofs.AtSites.ColumnsSeen.{columns_seen}
use Rattle.sq_binding.proofs.Exactly.InsertTold.{Kinds, kinds_are, receivers_known, receivers_tell}
use Rattle.sq_binding.proofs.FaultsFound.PredicateFaults.{surrounded}
use Rattle.sq_binding.proofs.AtSites.Privileges.{Anywhere, LacksIf, ReadsFit, expr_quiet, is_missing, lacking, privileges_seen, select_lacks}
use Rattle.sq_binding.proofs.Exactly.RowAccepted.{pair_sites_quiet}
use Rattle.sq_binding.proofs.AtSites.Seen.{any_both, behind_seen, each_seen, found_seen, last_seen, must_seen, outcome_seen, pure_seen, then_seen, value_is_seen}
use Rattle.sq_binding.proofs.FaultsFound.Sites.{fault_here, fault_later}
use Rattle.sq_binding.proofs.Exactly.SourceTold.{SourceSpellsNoNull, kinds_of, rows_sites, rows_tell}
use Rattle.sq_binding.proofs.Exactly.Tells.{Tells, first_tells, found_tells, made_tells, outcome_tells, tells_at, then_tells}

-- the user holds what the rules say that is held
abbrev pub HoldsFit : UserNames → Judged → Type 0
HoldsFit names j = (t : TableName) (p : Privilege) → names.holds t p ≡ j.holds t p

-- ---- a privilege that is used

module _ (j : Judged) (t : TableName) (p : Privilege) where
  pub privilege_clean : j.holds t p ≡ true → CleanSite j (Site.privilege_used t p)
  privilege_clean h fault.PrivilegeMissing = ap not h
  privilege_clean h _ = refl

  fault_between : (s : Site) (xs : List Site) (f : BindingFault) → has_fault j (s ∷ xs) f ≡ true → has_fault j (s ∷ Site.privilege_used t p ∷ xs) f ≡ true
  fault_between s xs f h = by (breaks j f s) refl h
    where
      by : (b : Bool) → breaks j f s ≡ b → has_fault j (s ∷ xs) f ≡ true → has_fault j (s ∷ Site.privilege_used t p ∷ xs) f ≡ true
      by true e h = fault_here j f s (Site.privilege_used t p ∷ xs) e
      by false e h = fault_later j f s (Site.privilege_used t p ∷ xs) (fault_later j f (Site.privilege_used t p) xs (ap (λ b. b || has_fault j xs f) (sym e) ∙ h))

  -- with a privilege that is used behind the first site
  pub tells_between : {A : Type 0} (s : Site) (xs : List Site) (b : Binding A) → Tells j (s ∷ xs) b → Tells j (s ∷ Site.privilege_used t p ∷ xs) b
  tells_between s xs b =
      tells_at j (s ∷ xs) (s ∷ Site.privilege_used t p ∷ xs) b (fault_between s xs)
      (λ held clean. clean_more j s (Site.privilege_used t p ∷ xs) (clean_first j s xs clean) (clean_more j (Site.privilege_used t p) xs (privilege_clean (held t p)) (clean_rest j s xs clean)))

-- ---- INSERT

module _ (names : UserNames) (j : Judged) (fits : TablesFit names j) where
  abbrev a : Surroundings
  a = surrounded names.tables j [] false

  abbrev into : Insert → TableName
  into i = table_of names.user i.table

  abbrev rows : Insert → List Site
  rows i = rows_sites names j fits.tables (map (column_kind j.known.tables (into i)) (insert_columns j.known.tables (into i) i.columns)) i.source

  abbrev columns : Insert → List Site
  columns i = Site.column_list (listed_if_any i.columns) ∷ Site.column_count (length (listed_if_any i.columns)) ∷ map (Site.column_changed (into i)) (listed_if_any i.columns)

  abbrev pub insert_sites : Insert → List Site
  insert_sites i = Site.table_changed (into i) ∷ Site.privilege_used (into i) Privilege.insert ∷ columns i ++ rows i

  abbrev inserted : ChangedTable → List Receiver → NumberedSource → NumberedInsert
  inserted t rs s = record { leaf = t.under.leaf; columns = map (λ r. r.column) rs; source = s }

  abbrev source_then : ChangedTable → List Receiver → NumberedSource → Binding NumberedInsert
  source_then t rs s = has_found (needed (names.holds t.reference.table Privilege.insert)) >>= λ _. pure (inserted t rs s)

  abbrev table_then : Insert → ChangedTable → Binding NumberedInsert
  table_then i t = receivers_bound t i.columns >>= λ rs. source_bound names a rs i.source >>= source_then t rs

  pub table_known : (i : Insert) → KnownIf (IsChanged names j (into i)) (outcome (changed_table names (into i)))
  table_known i counts z is = changed_known names j fits (into i) z.part (outcome_ok (changed_table names (into i)) counts z is)

  pub insert_tells : (i : Insert) → SourceSpellsNoNull names i.source → Tells j (insert_sites i) (insert_bound names j.known.parameters i)
  insert_tells i null =
      tells_between j (into i) Privilege.insert (Site.table_changed (into i)) (columns i ++ rows i) (insert_bound names j.known.parameters i)
      (then_tells j (Site.table_changed (into i) ∷ []) (columns i ++ rows i) (IsChanged names j (into i)) (outcome (changed_table names (into i))) (table_then i) (table_known i)
      (outcome_tells j (Site.table_changed (into i) ∷ []) (changed_table names (into i)) (changed_told names j fits (into i)))
      (λ t is. then_tells j (columns i) (rows i) (Kinds names j fits (into i) t is (insert_columns j.known.tables (into i) i.columns)) (receivers_bound t i.columns) (λ rs. source_bound names a rs i.source >>= source_then t rs)
      (receivers_known names j fits (into i) t is i.columns) (receivers_tell names j fits (into i) t is i.columns)
      (λ rs kinds. subst (λ ks. Tells j (rows_sites names j fits.tables ks i.source) (source_bound names a rs i.source >>= source_then t rs)) (kinds_are names j fits (into i) t is (insert_columns j.known.tables (into i) i.columns) rs kinds)
      (first_tells j (rows_sites names j fits.tables (kinds_of names j fits.tables rs) i.source) (source_bound names a rs i.source) (source_then t rs) (rows_tell names j fits.tables rs i.source null)
      (λ s. made_tells j [] (has_found (needed (names.holds t.reference.table Privilege.insert))) (λ _. inserted t rs s) (found_tells j (needed (names.holds t.reference.table Privilege.insert))))))))

-- ---- missing privileges

columns_quiet : (j : Judged) (t : TableName) (cs : List Name) → list_any (is_missing j) (map (Site.column_changed t) cs) ≡ false
columns_quiet j t [] = refl
columns_quiet j t (c ∷ cs) = columns_quiet j t cs

pub value_quiet : (j : Judged) (a : Around) (d : status.Outcome Kind) (v : NewValue) → list_any (is_missing j) (value_sites j.known a d v) ≡ false
value_quiet j a d (new_value.Expr e) = expr_quiet j (expr_of e) a
value_quiet j a d new_value.Null = refl

values_quiet : (j : Judged) (ps : List (status.Outcome Kind × NewValue)) → list_any (is_missing j) (flat_map (λ p. value_sites j.known outside p.0 p.1) ps) ≡ false
values_quiet j [] = refl
values_quiet j (p ∷ ps) = any_both (is_missing j) (value_sites j.known outside p.0 p.1) (flat_map (λ p. value_sites j.known outside p.0 p.1) ps) ∙ (λ i. value_quiet j outside p.0 p.1 i || values_quiet j ps i)

module _ (names : UserNames) (j : Judged) (fits : TablesFit names j) (reads : ReadsFit names.tables j) (holds : HoldsFit names j) where
  abbrev here : Surroundings
  here = surrounded names.tables j [] false

  abbrev Lacks : {A : Type 0} → List Site → Binding A → Type 0
  Lacks sites b = LacksIf names.tables j fits.tables reads sites b

  abbrev none_of : {A : Type 0} → A → List Site
  none_of x = []

  no_sites : {A : Type 0} (xs : List A) → flat_map (λ x. none_of x) xs ≡ []
  no_sites [] = refl
  no_sites (x ∷ xs) = no_sites xs

  receivers_lack : (t : ChangedTable) (list : Option (CommaList Name)) → Lacks [] (receivers_bound t list)
  receivers_lack t None = pure_seen names.tables j (is_missing j) lacking Anywhere (privileges_seen names.tables j fits.tables reads) (receivers_of t)
  receivers_lack t (Some list) =
      subst (λ sites. Lacks sites (receivers_bound t (Some list))) (no_sites (listed list))
      (columns_seen names.tables j (is_missing j) lacking Anywhere (privileges_seen names.tables j fits.tables reads) t (λ c. c) itself (λ c. none_of c) (λ c r. pure_seen names.tables j (is_missing j) lacking Anywhere (privileges_seen names.tables j fits.tables reads) r) [] (listed list))

  -- the query, where there is one
  query_sites : InsertSource → List Site
  query_sites (source.Values list) = []
  query_sites (source.Query q) = select_sites j.known outside (select_of names.user q)

  value_lacks : (k : Kind) (v : NewValue) → Lacks [] (new_value_bound here k v)
  value_lacks k new_value.Null counts z is = pure_seen names.tables j (is_missing j) lacking Anywhere (privileges_seen names.tables j fits.tables reads) (Numbered.literal Null) counts z is
  value_lacks k (new_value.Expr e) counts z is =
      then_seen names.tables j (is_missing j) lacking Anywhere (privileges_seen names.tables j fits.tables reads) (expr_sites j.known outside (expr_of e)) [] (expr_sites j.known outside (expr_of e)) (λ x. ⊤) (value here (expr_of e))
      (λ x. must_agree x.kind k >> pure x.tree) (anything_known (value here (expr_of e))) (value_is_seen names.tables j (is_missing j) lacking Anywhere (privileges_seen names.tables j fits.tables reads) [] [] tt false tt (expr_of e))
      (λ x u. last_seen names.tables j (is_missing j) lacking Anywhere (privileges_seen names.tables j fits.tables reads) [] (must_agree x.kind k) (λ _. x.tree)
      (must_seen names.tables j (is_missing j) lacking Anywhere (privileges_seen names.tables j fits.tables reads) (is_comparable x.kind k) fault.KindMismatch)) (or_false (list_any (is_missing j) (expr_sites j.known outside (expr_of e)))) counts z is
      ∙ expr_quiet j (expr_of e) outside

  source_lacks : (rs : List Receiver) (s : InsertSource) → Lacks (query_sites s) (source_bound names here rs s)
  unfolding query_sites
  source_lacks rs (source.Values list) =
      behind_seen names.tables j (is_missing j) lacking Anywhere (privileges_seen names.tables j fits.tables reads) [] (must (length rs == length (listed list)) fault.CountMismatch) (λ _. each (value_for here) (zip rs (listed list)) >>= λ given. pure (NumberedSource.values given))
      (must_seen names.tables j (is_missing j) lacking Anywhere (privileges_seen names.tables j fits.tables reads) (length rs == length (listed list)) fault.CountMismatch)
      (λ _. last_seen names.tables j (is_missing j) lacking Anywhere (privileges_seen names.tables j fits.tables reads) [] (each (value_for here) (zip rs (listed list))) (λ given. NumberedSource.values given)
      (subst (λ sites. Lacks sites (each (value_for here) (zip rs (listed list)))) (no_sites (zip rs (listed list)))
      (each_seen names.tables j (is_missing j) lacking Anywhere (privileges_seen names.tables j fits.tables reads) (λ p. none_of p) (value_for here) (λ p. value_lacks p.0.kind p.1) (zip rs (listed list)))))
  source_lacks rs (source.Query q) =
      then_seen names.tables j (is_missing j) lacking Anywhere (privileges_seen names.tables j fits.tables reads) S [] S (λ x. ⊤) (select_bound here s)
      (λ x. must (length rs == length (columns_of x)) fault.CountMismatch >> (each column_for (zip (columns_of x) rs) >> pure (NumberedSource.query x))) (anything_known (select_bound here s)) (select_lacks names.tables j fits.tables reads s)
      (λ x u. behind_seen names.tables j (is_missing j) lacking Anywhere (privileges_seen names.tables j fits.tables reads) [] (must (length rs == length (columns_of x)) fault.CountMismatch) (λ _. each column_for (zip (columns_of x) rs) >> pure (NumberedSource.query x))
      (must_seen names.tables j (is_missing j) lacking Anywhere (privileges_seen names.tables j fits.tables reads) (length rs == length (columns_of x)) fault.CountMismatch)
      (λ _. last_seen names.tables j (is_missing j) lacking Anywhere (privileges_seen names.tables j fits.tables reads) [] (each column_for (zip (columns_of x) rs)) (λ _. NumberedSource.query x)
      (subst (λ sites. Lacks sites (each column_for (zip (columns_of x) rs))) (no_sites (zip (columns_of x) rs))
      (each_seen names.tables j (is_missing j) lacking Anywhere (privileges_seen names.tables j fits.tables reads) (λ p. none_of p) column_for
      (λ p. must_seen names.tables j (is_missing j) lacking Anywhere (privileges_seen names.tables j fits.tables reads) (is_comparable p.0.kind p.1.kind) fault.KindMismatch) (zip (columns_of x) rs)))))
      (or_false (list_any (is_missing j) S))
    where
      s : Select Named
      s = select_of names.user q

      S : List Site
      S = select_sites j.known outside (select_of names.user q)

  rows_any : (kinds : List (status.Outcome Kind)) (s : InsertSource) → list_any (is_missing j) (rows_sites names j fits.tables kinds s) ≡ list_any (is_missing j) (query_sites s)
  unfolding query_sites
  rows_any kinds (source.Values values) = values_quiet j (zip kinds (listed values))
  rows_any kinds (source.Query q) =
      any_both (is_missing j) (Site.counts (length kinds) (select_count j.known.tables s) ∷ pair_sites kinds (each_kind (kinds_here j.known outside s))) (select_sites j.known outside s)
      ∙ ap (λ b. b || list_any (is_missing j) (select_sites j.known outside s)) (pair_sites_quiet j kinds (each_kind (kinds_here j.known outside s)))
    where
      s : Select Named
      s = select_of names.user q

  insert_lacks : (i : Insert) → Lacks (insert_sites names j fits i) (insert_bound names j.known.parameters i)
  insert_lacks i =
      then_seen names.tables j (is_missing j) lacking Anywhere (privileges_seen names.tables j fits.tables reads) [] S S (IsChanged names j (into names j fits i)) (outcome (changed_table names (into names j fits i))) (table_then names j fits i)
      (table_known names j fits i) (outcome_seen names.tables j (is_missing j) lacking Anywhere (privileges_seen names.tables j fits.tables reads) (changed_table names (into names j fits i)))
      (λ t is. behind_seen names.tables j (is_missing j) lacking Anywhere (privileges_seen names.tables j fits.tables reads) S (receivers_bound t i.columns) (λ rs. source_bound names here rs i.source >>= source_then names j fits t rs)
      (receivers_lack t i.columns)
      (λ rs. then_seen names.tables j (is_missing j) lacking Anywhere (privileges_seen names.tables j fits.tables reads) (query_sites i.source) (used ∷ []) S (λ x. ⊤) (source_bound names here rs i.source) (source_then names j fits t rs)
      (anything_known (source_bound names here rs i.source)) (source_lacks rs i.source)
      (λ s u. last_seen names.tables j (is_missing j) lacking Anywhere (privileges_seen names.tables j fits.tables reads) (used ∷ []) (has_found (needed (names.holds t.reference.table Privilege.insert)))
      (λ _. inserted names j fits t rs s)
      (found_seen names.tables j (is_missing j) lacking Anywhere (privileges_seen names.tables j fits.tables reads) (needed (names.holds t.reference.table Privilege.insert)) (used ∷ [])
      ((λ k. not (names.holds (is.reference k).table Privilege.insert)) ∙ ap not (holds (into names j fits i) Privilege.insert) ∙ sym (or_false (is_missing j used))))) together))
      refl
    where
      S : List Site
      S = insert_sites names j fits i

      used : Site
      used = Site.privilege_used (into names j fits i) Privilege.insert

      L : List Site
      L = rows names j fits i

      together : (list_any (is_missing j) (query_sites i.source) || (is_missing j used || false)) ≡ list_any (is_missing j) S
      together =
          or_turned (list_any (is_missing j) (query_sites i.source)) (is_missing j used)
          ∙ ap (λ b. is_missing j used || b) (sym (rows_any (map (column_kind j.known.tables (into names j fits i)) (insert_columns j.known.tables (into names j fits i) i.columns)) i.source)
          ∙ ap (λ b. b || list_any (is_missing j) L) (sym (columns_quiet j (into names j fits i) (listed_if_any i.columns))) ∙ sym (any_both (is_missing j) (columns names j fits i) L))

  all_fit : TablesFit names (all_held j)
  all_fit = record { tables = fits.tables; wide = fits.wide; changes = fits.changes; narrow = fits.narrow; apart = fits.apart }

  -- an INSERT is bound exactly where the rules find no fault in it
  pub insert_accepts : (i : Insert) → SourceSpellsNoNull names i.source → Accepts j (insert_sites names j fits i) (whole (insert_bound names j.known.parameters i))
  insert_accepts i null =
      whole_accepts j (insert_sites names j fits i) (insert_bound names j.known.parameters i) (insert_tells names j fits i null at_first) (insert_tells names (all_held j) all_fit i null at_first) (λ x is. insert_lacks i at_first x is)
