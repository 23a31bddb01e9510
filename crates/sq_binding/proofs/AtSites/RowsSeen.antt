-- Findings in the rows that UPDATE and DELETE change: they are made exactly if they are asked of one of their sites. They are missing
-- privileges, and columns of the table that is changed (ISO/IEC 9075:1992, 4.26, 13.6, 13.7, 13.9 and 13.10).
use Rattle.std.proofs.Common.{◌≡◌, Bool, true, false, not, ◌||◌, List, [], ◌∷◌, length, Option, Some, None, Ok, Err, arith, refl, sym, ap, subst, ◌∙◌}
use Rattle.std.specs.List.{list_any}
use Rattle.std.specs.Prelude.{⊤, if◌then◌else◌}
use Rattle.sq_value.proofs.Truths.{or_false, or_comm}
use Rattle.sq_value.specs.declared.domain.Kind.{Kind}
use Rattle.sq_lex.specs.declared.name.Name.{Name}
use Rattle.sq_value.specs.declared.value.Value.TheVariants.{Null}
use Rattle.sq_tree.specs.declared.statement.NewValue.{NewValue}
use Rattle.sq_tree.specs.declared.statement.NewValue.TheVariants as new_value
use Rattle.sq_tree.specs.declared.statement.Where.{Where}
use Rattle.sq_tree.specs.declared.statement.Where.TheVariants as rows_where
use Rattle.sq_meaning.specs.Environment.{TableName, TableReference, same_table}
use Rattle.sq_meaning.specs.Spelled.{Named, cond_of, expr_of}
use Rattle.sq_meaning.specs.Status as status
use Rattle.sq_meaning.specs.Syntax.{Clause, present}
use Rattle.sq_meaning.specs.WellFormed.{is_comparable}
use Rattle.sq_meaning.specs.Binding.{Judged}
use Rattle.sq_meaning.specs.Privilege.{Privilege}
use Rattle.sq_meaning.specs.Site.{Around, EnclosingQuery, Site, expr_sites, kind_here, plain_query}
use Rattle.sq_meaning.specs.WellFormedStatement.{means_own_column, value_sites, with_select}
use Rattle.sq_meaning.specs.declared.fault.BindingFault.TheVariants as fault
use Rattle.sq_binding.specs.Change.{NamedCursors, NumberedChange, cursor_named, new_value_bound, reading, rows_bound, with_reading}
use Rattle.sq_binding.specs.Changeable.{ChangedTable, UnderTable, UserNames, condition_bound, target_over}
use Rattle.sq_binding.specs.Condition.{clause_bound, must_agree}
use Rattle.sq_binding.specs.Found.{Binding, Found, ◌>>=◌, ◌>>◌, must, outcome, pure}
use Rattle.sq_binding.specs.From.{NamedTable, NamedTables, item_over}
use Rattle.sq_binding.specs.Numbered.{Numbered}
use Rattle.sq_binding.specs.NumberedCondition.{NumberedClause}
use Rattle.sq_binding.specs.Outcome.{Outcome, or_fault}
use Rattle.sq_binding.specs.QueryFindings.{QueryFindings}
use Rattle.sq_binding.specs.Select.{Surroundings, value}
use Rattle.sq_binding.proofs.OneTable.Alike.{Both}
use Rattle.sq_binding.proofs.OneTable.AlikeParts.{LikePart}
use Rattle.sq_binding.proofs.OneTable.AlikeParts as likewise
use Rattle.sq_binding.proofs.Exactly.ChangedTold.{IsChanged, TablesFit}
use Rattle.sq_binding.proofs.Faultless.Clean.{steps_of}
use Rattle.sq_binding.proofs.Faultless.CleanQuery.{anything_known}
use Rattle.sq_binding.proofs.Exactly.FetchTold.{CursorsFit}
use Rattle.sq_binding.proofs.FaultsFound.FoundKinds.{standing}
use Rattle.sq_binding.proofs.FaultsFound.FromFaults.{NamesFit}
use Rattle.sq_binding.proofs.Exactly.InsertAccepted.{HoldsFit}
use Rattle.sq_binding.proofs.OneTable.LeafScopes.{alone, condition_like, own, own_over, sites_on}
use Rattle.sq_binding.proofs.AtSites.Outermost.{Within, outermost_seen}
use Rattle.sq_binding.proofs.AtSites.Outermost as outermost
use Rattle.sq_binding.proofs.FaultsFound.PredicateFaults.{surrounded}
use Rattle.sq_binding.proofs.AtSites.Privileges.{Anywhere, ReadsFit, is_missing, lacking, privileges_seen}
use Rattle.sq_binding.proofs.Exactly.RowsTold.{PositionsFit, on_table, there, where_sites_of}
use Rattle.sq_binding.proofs.AtSites.Seen.{SeenIf, Sees, behind_seen, is_seen, last_seen, must_seen, outcome_seen, pure_seen, then_seen, value_is_seen}
use Rattle.sq_binding.proofs.AtSites.SeenConds.{clause_seen}
use Rattle.sq_binding.proofs.Exactly.ValuesTold.{leaf, new_value_like}

-- ---- over the item at the base table as over the table

module _ (names : NamedTables) (j : Judged) (fit : NamesFit names j) (test : Site → Bool) (seen : QueryFindings → Bool) (Good : List EnclosingQuery → Bool → Type 0) (sees : Sees names j test seen Good) where
  like_seen : {A B : Type 0} (R : A → B → Type 0) (b : Bool) (o : Outcome (Found A)) (p : Outcome (Found B)) → Both (LikePart R) o p → ((x : Found A) → o ≡ Ok x → seen x.findings ≡ b) → (z : Found B) → p ≡ Ok z → seen z.findings ≡ b
  like_seen R b (Ok x) (Ok y) l h z is = is_seen names j test seen Good sees y z is b (ap seen (sym l.findings) ∙ h x refl)
  like_seen R b (Ok x) (Err g) l h z is = absurd l
  like_seen R b (Err f) (Ok y) l h z is = absurd l
  like_seen R b (Err f) (Err g) l h z is = cc

  module _ (r : TableReference) (t : NamedTable) (there : names r.table ≡ Some t) (u : UnderTable) (wide : length u.columns ≡ length t.columns) (good : Good (plain_query (r ∷ []) ∷ []) false) where
    pub condition_seen : (c : Clause Named) → SeenIf names j test seen Good sees (sites_on names j fit r t there c) (condition_bound (surrounded names j [] false) (record { reference = r; table = t; under = u }) c)
    condition_seen c counts z is =
        like_seen (λ x y. ⊤) (list_any test (sites_on names j fit r t there c)) (clause_bound (own names j fit r t there) c (record counts { functions = 0 })) (condition_bound (surrounded names j [] false) (record { reference = r; table = t; under = u }) c counts)
        (condition_like names j fit r t there u wide c counts)
        (λ x so. clause_seen names j fit test seen Good sees c (alone (item_over r t).item ∷ []) (plain_query (r ∷ []) ∷ []) (own_over names j fit r t there) false good (record counts { functions = 0 }) x so) z is

    own_value_seen : (d : status.Outcome Kind) (k : Kind) (v : NewValue) → SeenIf names j test seen Good sees (value_sites j.known (standing (plain_query (r ∷ []) ∷ []) false false) d v) (new_value_bound (own names j fit r t there) k v)
    own_value_seen d k new_value.Null = pure_seen names j test seen Good sees (Numbered.literal Null)
    own_value_seen d k (new_value.Expr e) =
        then_seen names j test seen Good sees (expr_sites j.known here (expr_of e)) [] (Site.alike_wanted d (kind_here j.known here (expr_of e)) ∷ expr_sites j.known here (expr_of e)) (λ x. ⊤) (value (own names j fit r t there) (expr_of e))
        (λ x. must_agree x.kind k >> pure x.tree) (anything_known (value (own names j fit r t there) (expr_of e))) (value_is_seen names j test seen Good sees (alone (item_over r t).item ∷ []) (plain_query (r ∷ []) ∷ []) (own_over names j fit r t there) false good (expr_of e))
        (λ x u. last_seen names j test seen Good sees [] (must_agree x.kind k) (λ _. x.tree) (must_seen names j test seen Good sees (is_comparable x.kind k) fault.KindMismatch))
        (or_false (list_any test (expr_sites j.known here (expr_of e))) ∙ ap (λ b. b || list_any test (expr_sites j.known here (expr_of e))) (sym (sees.alike_silent d (kind_here j.known here (expr_of e)))))
      where
        here : Around
        here = standing (plain_query (r ∷ []) ∷ []) false false

    pub leaf_value_seen : (d : status.Outcome Kind) (k : Kind) (v : NewValue) → SeenIf names j test seen Good sees (value_sites j.known (standing (plain_query (r ∷ []) ∷ []) false false) d v) (new_value_bound (leaf names j fit r t there u wide) k v)
    leaf_value_seen d k v counts z is =
        like_seen likewise.Anything (list_any test (value_sites j.known (standing (plain_query (r ∷ []) ∷ []) false false) d v)) (new_value_bound (own names j fit r t there) k v counts) (new_value_bound (leaf names j fit r t there u wide) k v counts)
        (new_value_like names j fit r t there u wide k v counts) (λ x so. own_value_seen d k v counts x so) z is

-- ---- the rows

module _ (names : UserNames) (j : Judged) (fits : TablesFit names j) (cursors : NamedCursors) (known : CursorsFit cursors j) (positions : PositionsFit cursors j) (table : TableName) (t : ChangedTable) (is : IsChanged names j table t)
    (test : Site → Bool) (seen : QueryFindings → Bool) (Good : List EnclosingQuery → Bool → Type 0) (sees : Sees names.tables j test seen Good) (good : Good (plain_query (t.reference ∷ []) ∷ []) false)
    (cursor_silent : (c : Name) → test (Site.cursor_used c) ≡ false) (position_silent : (c : Name) → test (Site.positioned table c) ≡ false) where
  abbrev a : Surroundings
  a = surrounded names.tables j [] false

  abbrev If : {A : Type 0} → List Site → Binding A → Type 0
  If sites b = SeenIf names.tables j test seen Good sees sites b

  pub rows_seen : (target : Option Where) → If (where_sites_of names j table target) (rows_bound names a cursors t target)
  rows_seen None counts z so = pure_seen names.tables j test seen Good sees (NumberedChange.searched (target_over t NumberedClause.absent)) counts z so
  rows_seen (Some (rows_where.Condition c)) counts z so =
      last_seen names.tables j test seen Good sees (where_sites_of names j table (Some (rows_where.Condition c))) (condition_bound a t (present (cond_of names.user c))) (λ condition. NumberedChange.searched (target_over t condition))
      (subst (λ sites. If sites (condition_bound a t (present (cond_of names.user c)))) (on_table names j fits cursors known positions table t is (present (cond_of names.user c)))
      (condition_seen names.tables j fits.tables test seen Good sees t.reference t.table (there names j fits cursors known positions table t is) t.under (fits.wide table t.table t.under is.there is.under) good (present (cond_of names.user c)))) counts z so
  rows_seen (Some (rows_where.CurrentOf cursor)) counts z so =
      behind_seen names.tables j test seen Good sees [] (outcome (cursor_named cursors cursor))
      (λ c. outcome (or_fault fault.NotUpdatable c.table) >>= λ over. must (same_table t.reference.table over) fault.NotUpdatable >> pure (NumberedChange.positioned c.number t.under.leaf))
      (outcome_seen names.tables j test seen Good sees (cursor_named cursors cursor))
      (λ c. behind_seen names.tables j test seen Good sees [] (outcome (or_fault fault.NotUpdatable c.table)) (λ over. must (same_table t.reference.table over) fault.NotUpdatable >> pure (NumberedChange.positioned c.number t.under.leaf))
      (outcome_seen names.tables j test seen Good sees (or_fault fault.NotUpdatable c.table))
      (λ over. last_seen names.tables j test seen Good sees [] (must (same_table t.reference.table over) fault.NotUpdatable) (λ _. NumberedChange.positioned c.number t.under.leaf)
      (must_seen names.tables j test seen Good sees (same_table t.reference.table over) fault.NotUpdatable))) counts z so
      ∙ (λ i. sym (cursor_silent cursor) i || (sym (position_silent cursor) i || false))

-- ---- SELECT on the table that is changed, where a column of it is read

module _ (names : UserNames) (j : Judged) (fits : TablesFit names j) (reads : ReadsFit names.tables j) (holds : HoldsFit names j) (table : TableName) (t : ChangedTable) (is : IsChanged names j table t) where
  abbrev pub Lacks : {A : Type 0} → List Site → Binding A → Type 0
  Lacks sites b = SeenIf names.tables j (is_missing j) lacking Anywhere (privileges_seen names.tables j fits.tables reads) sites b

  abbrev pub Reads : {A : Type 0} → List Site → Binding A → Type 0
  Reads sites b = SeenIf names.tables j (means_own_column j.known) outermost.reading Within (outermost_seen names.tables j) sites b

  select_lacks : (sites : List Site) (lacks own held : Bool) → lacks ≡ list_any (is_missing j) sites → held ≡ j.holds table Privilege.select
      → (lacks || not (not own || held)) ≡ list_any (is_missing j) (if own then Site.privilege_used table Privilege.select ∷ sites else sites)
  select_lacks sites lacks true held e h = (λ i. e i || not (h i)) ∙ or_comm (list_any (is_missing j) sites) (not (j.holds table Privilege.select))
  select_lacks sites lacks false held e h = or_false lacks ∙ e

  select_held : names.holds t.reference.table Privilege.select ≡ j.holds table Privilege.select
  select_held = (λ i. names.holds (is.reference i).table Privilege.select) ∙ holds table Privilege.select

  pub reading_lacks : {A : Type 0} (sites : List Site) (b : Binding A) → Lacks sites b → Reads sites b → Lacks (with_select j.known table sites) (reading names t b)
  reading_lacks sites b h g counts z so =
      let s = steps_of (b counts) (λ x. Ok (with_reading names t x)) z so in
      is_seen names.tables j (is_missing j) lacking Anywhere (privileges_seen names.tables j fits.tables reads) (with_reading names t s.step) z s.second (list_any (is_missing j) (with_select j.known table sites))
      (select_lacks sites s.step.findings.lacks_privilege s.step.findings.values.reads_outermost (names.holds t.reference.table Privilege.select) (h counts s.step s.first) select_held
      ∙ (λ i. list_any (is_missing j) (if g counts s.step s.first i then Site.privilege_used table Privilege.select ∷ sites else sites)))

  -- one table is around
  pub around_it : Within (plain_query (t.reference ∷ []) ∷ []) false
  around_it = (omega arith, λ e. cc)
