-- DELETE is bound exactly if the rules find no fault in it (ISO/IEC 9075:1992, 13.6 and 13.7).
use Rattle.std.proofs.Common.{false, not, List, [], ◌∷◌, Option, Some, None, refl, sym, ap, ◌∙◌}
use Rattle.std.specs.List.{list_any}
use Rattle.std.specs.Prelude.{⊤}
use Rattle.sq_value.proofs.Truths.{or_false, or_turned}
use Rattle.sq_lex.specs.declared.name.Name.{Name}
use Rattle.sq_tree.specs.declared.statement.Delete.{Delete}
use Rattle.sq_meaning.specs.Environment.{TableName}
use Rattle.sq_meaning.specs.Spelled.{table_of}
use Rattle.sq_meaning.specs.Binding.{Judged}
use Rattle.sq_meaning.specs.Privilege.{Privilege}
use Rattle.sq_meaning.specs.Site.{Site}
use Rattle.sq_meaning.specs.WellFormedStatement.{means_own_column, with_select}
use Rattle.sq_binding.specs.Change.{NamedCursor, NamedCursors, NumberedChange, delete_bound, reading, rows_bound}
use Rattle.sq_binding.specs.Changeable.{ChangedTable, UserNames, changed_table}
use Rattle.sq_binding.specs.Found.{Binding, ◌>>=◌, ◌>>◌, has_found, outcome, pure}
use Rattle.sq_binding.specs.Select.{Surroundings}
use Rattle.sq_binding.specs.Whole.{at_first, needed, whole}
use Rattle.sq_binding.proofs.Exactly.Accepted.{all_held}
use Rattle.sq_binding.proofs.Exactly.Accepts.{Accepts, whole_accepts}
use Rattle.sq_binding.proofs.Exactly.ChangedTold.{IsChanged, TablesFit, changed_known, changed_told}
use Rattle.sq_binding.proofs.Faultless.CleanConds.{KnownIf}
use Rattle.sq_binding.proofs.Faultless.CleanQuery.{anything_known}
use Rattle.sq_binding.proofs.Faultless.CleanSelect.{outcome_ok}
use Rattle.sq_binding.proofs.Exactly.FetchTold.{CursorsFit, IfCursor}
use Rattle.sq_binding.proofs.Exactly.InsertAccepted.{HoldsFit, tells_between}
use Rattle.sq_binding.proofs.AtSites.Outermost.{Within, outermost_seen}
use Rattle.sq_binding.proofs.AtSites.Outermost as outermost
use Rattle.sq_binding.proofs.FaultsFound.PredicateFaults.{surrounded}
use Rattle.sq_binding.proofs.AtSites.Privileges.{Anywhere, LacksIf, ReadsFit, is_missing, lacking, privileges_seen}
use Rattle.sq_binding.proofs.AtSites.RowsSeen.{around_it, reading_lacks, rows_seen}
use Rattle.sq_binding.proofs.Exactly.RowsTold.{PositionsFit, WhereSpellsNoNull, reading_tells, rows_tell, where_sites_of}
use Rattle.sq_binding.proofs.AtSites.Seen.{found_seen, last_seen, outcome_seen, then_seen}
use Rattle.sq_binding.proofs.Exactly.Tells.{Tells, first_tells, found_tells, made_tells, outcome_tells, then_tells}

module _ (names : UserNames) (j : Judged) (fits : TablesFit names j) (cursors : NamedCursors) (known : CursorsFit cursors j) (positions : PositionsFit cursors j) where
  abbrev a : Surroundings
  a = surrounded names.tables j [] false

  abbrev named : Delete → TableName
  named d = table_of names.user d.table

  abbrev rows : Delete → List Site
  rows d = with_select j.known (named d) (where_sites_of names j (named d) d.target)

  abbrev pub delete_sites : Delete → List Site
  delete_sites d = Site.table_changed (named d) ∷ Site.privilege_used (named d) Privilege.delete ∷ rows d

  abbrev deleted : ChangedTable → NumberedChange → Binding NumberedChange
  deleted t x = has_found (needed (names.holds t.reference.table Privilege.delete)) >> pure x

  abbrev table_then : Delete → ChangedTable → Binding NumberedChange
  table_then d t = reading names t (rows_bound names a cursors t d.target) >>= deleted t

  table_known : (d : Delete) → KnownIf (IsChanged names j (named d)) (outcome (changed_table names (named d)))
  table_known d counts z is = changed_known names j fits (named d) z.part (outcome_ok (changed_table names (named d)) counts z is)

  delete_tells : (d : Delete) → WhereSpellsNoNull names d.target → Tells j (delete_sites d) (delete_bound names j.known.parameters cursors d)
  delete_tells d null =
      tells_between j (named d) Privilege.delete (Site.table_changed (named d)) (rows d) (delete_bound names j.known.parameters cursors d)
      (then_tells j (Site.table_changed (named d) ∷ []) (rows d) (IsChanged names j (named d)) (outcome (changed_table names (named d))) (table_then d) (table_known d)
      (outcome_tells j (Site.table_changed (named d) ∷ []) (changed_table names (named d)) (changed_told names j fits (named d)))
      (λ t is. first_tells j (rows d) (reading names t (rows_bound names a cursors t d.target)) (deleted t)
      (reading_tells names j fits cursors known positions (named d) t is (where_sites_of names j (named d) d.target) (rows_bound names a cursors t d.target) (rows_tell names j fits cursors known positions (named d) t is d.target null))
      (λ x. made_tells j [] (has_found (needed (names.holds t.reference.table Privilege.delete))) (λ _. x) (found_tells j (needed (names.holds t.reference.table Privilege.delete))))))

module _ (names : UserNames) (j : Judged) (fits : TablesFit names j) (cursors : NamedCursors) (known : CursorsFit cursors j) (positions : PositionsFit cursors j) (reads : ReadsFit names.tables j) (holds : HoldsFit names j) where
  delete_lacks : (d : Delete) → LacksIf names.tables j fits.tables reads (delete_sites names j fits cursors known positions d) (delete_bound names j.known.parameters cursors d)
  delete_lacks d =
      then_seen names.tables j (is_missing j) lacking Anywhere (privileges_seen names.tables j fits.tables reads) [] S S (IsChanged names j name) (outcome (changed_table names name)) (table_then names j fits cursors known positions d)
      (table_known names j fits cursors known positions d) (outcome_seen names.tables j (is_missing j) lacking Anywhere (privileges_seen names.tables j fits.tables reads) (changed_table names name))
      (λ t is. then_seen names.tables j (is_missing j) lacking Anywhere (privileges_seen names.tables j fits.tables reads) R (used ∷ []) S (λ x. ⊤) (reading names t (rows_bound names here cursors t d.target)) (deleted names j fits cursors known positions t)
      (anything_known (reading names t (rows_bound names here cursors t d.target)))
      (reading_lacks names j fits reads holds name t is (where_sites_of names j name d.target) (rows_bound names here cursors t d.target)
      (rows_seen names j fits cursors known positions name t is (is_missing j) lacking Anywhere (privileges_seen names.tables j fits.tables reads) tt (λ c. refl) (λ c. refl) d.target)
      (rows_seen names j fits cursors known positions name t is (means_own_column j.known) outermost.reading Within (outermost_seen names.tables j) (around_it names j fits reads holds name t is) (λ c. refl) (λ c. refl) d.target))
      (λ x u. last_seen names.tables j (is_missing j) lacking Anywhere (privileges_seen names.tables j fits.tables reads) (used ∷ []) (has_found (needed (names.holds t.reference.table Privilege.delete))) (λ _. x)
      (found_seen names.tables j (is_missing j) lacking Anywhere (privileges_seen names.tables j fits.tables reads) (needed (names.holds t.reference.table Privilege.delete)) (used ∷ [])
      ((λ k. not (names.holds (is.reference k).table Privilege.delete)) ∙ ap not (holds name Privilege.delete) ∙ sym (or_false (is_missing j used)))))
      (or_turned (list_any (is_missing j) R) (is_missing j used)))
      refl
    where
      name : TableName
      name = table_of names.user d.table

      here : Surroundings
      here = surrounded names.tables j [] false

      R : List Site
      R = with_select j.known name (where_sites_of names j name d.target)

      used : Site
      used = Site.privilege_used name Privilege.delete

      S : List Site
      S = delete_sites names j fits cursors known positions d

  if_known : (name : Name) (o : Option NamedCursor) → IfCursor j name o → IfCursor (all_held j) name o
  if_known name (Some c) h = h
  if_known name None h = h

  all_fit : TablesFit names (all_held j)
  all_fit = record { tables = fits.tables; wide = fits.wide; changes = fits.changes; narrow = fits.narrow; apart = fits.apart }

  -- a DELETE is bound exactly where the rules find no fault in it
  pub delete_accepts : (d : Delete) → WhereSpellsNoNull names d.target → Accepts j (delete_sites names j fits cursors known positions d) (whole (delete_bound names j.known.parameters cursors d))
  delete_accepts d null =
      whole_accepts j (delete_sites names j fits cursors known positions d) (delete_bound names j.known.parameters cursors d) (delete_tells names j fits cursors known positions d null at_first)
      (delete_tells names (all_held j) all_fit cursors (λ name. if_known name (cursors name) (known name)) positions d null at_first) (λ x is. delete_lacks d at_first x is)
