-- The query of a view is bound exactly if the rules find no syntax fault in it, and it has the fault that is answered. Whether a
-- privilege is missing is told beside it (ISO/IEC 9075:1992, 11.19).
use Rattle.std.proofs.Common.{◌≡◌, true, false, not, [], Option, Ok, Err, refl, sym, ap, subst}
use Rattle.std.specs.Prelude.{is_ok}
use Rattle.sq_meaning.specs.Spelled.{Named}
use Rattle.sq_meaning.specs.Syntax.{Select}
use Rattle.sq_meaning.specs.Binding.{Judged, has_fault, has_syntax_fault, lacks_privilege}
use Rattle.sq_meaning.specs.Site.{outside, select_sites}
use Rattle.sq_binding.specs.Changeable.{NumberedUpdatable, UserNames, updatable_bound}
use Rattle.sq_binding.specs.Changeable as changeable
use Rattle.sq_binding.specs.Condition.{select_bound}
use Rattle.sq_binding.specs.Cursor.{behind}
use Rattle.sq_binding.specs.Found.{Found}
use Rattle.sq_binding.specs.NumberedCondition.{NumberedSelect}
use Rattle.sq_binding.specs.Outcome.{Outcome, and_then}
use Rattle.sq_binding.specs.Select.{Surroundings}
use Rattle.sq_binding.specs.View.{NumberedView, view_bound, view_of, view_over}
use Rattle.sq_binding.specs.Whole.{at_first}
use Rattle.sq_binding.proofs.Exactly.Accepted.{all_held, syntax_fault}
use Rattle.sq_binding.proofs.Exactly.Accepts.{clean_is_sound}
use Rattle.sq_binding.proofs.FaultsFound.CondFaults.{SelectSpellsNoNull}
use Rattle.sq_binding.proofs.Exactly.CursorAccepted.{IsBound, UserFits, select_tells, updatable_is_bound}
use Rattle.sq_binding.proofs.FaultsFound.PredicateFaults.{surrounded}
use Rattle.sq_binding.proofs.AtSites.Privileges.{select_lacks}
use Rattle.sq_binding.proofs.Exactly.Told.{Told}

-- A view that is bound has no syntax fault, and says whether a privilege is missing; one that is refused has the fault that is answered.
abbrev pub ViewTold : Judged → Select Named → Outcome NumberedView → Type 0
ViewTold j q (Ok v) = (has_syntax_fault j (select_sites j.known outside q) ≡ false) × (v.may_select ≡ not (lacks_privilege j (select_sites j.known outside q)))
ViewTold j q (Err f) = (has_fault j (select_sites j.known outside q) f ≡ true) × (has_syntax_fault j (select_sites j.known outside q) ≡ true)

module _ (names : UserNames) (j : Judged) (fits : UserFits names j) where
  abbrev a : Surroundings
  a = surrounded names.tables j [] false

  view_made : (q : Select Named) (x : Found NumberedSelect) (o : Outcome (Found (Option NumberedUpdatable))) → IsBound names j fits o → has_syntax_fault j (select_sites j.known outside q) ≡ false
      → x.findings.lacks_privilege ≡ lacks_privilege j (select_sites j.known outside q) → ViewTold j q (and_then o (λ y. Ok (view_of x y)))
  view_made q x (Ok y) h sound lacks = (sound, ap not lacks)
  view_made q x (Err f) h sound lacks = absurd h

  view_told : (q : Select Named) → SelectSpellsNoNull q → (o : Outcome (Found NumberedSelect)) → select_bound a q at_first ≡ o → ViewTold j q (and_then o (λ x. and_then (updatable_bound names a q x.part (behind x)) (λ y. Ok (view_of x y))))
  view_told q null (Err f) is =
      let there = subst (Told j (select_sites j.known outside q)) is (select_tells names j fits.tables q null at_first) in
      (there, syntax_fault j (select_sites j.known outside q) f there (subst (Told (all_held j) (select_sites j.known outside q)) is (select_tells names (all_held j) fits.tables q null at_first)))
  view_told q null (Ok x) is =
      let clean = subst (Told (all_held j) (select_sites j.known outside q)) is (select_tells names (all_held j) fits.tables q null at_first) (λ t p. refl) in
      view_made q x (updatable_bound names a q x.part (behind x)) (updatable_is_bound names j fits q null x.part (behind x) clean) (clean_is_sound j (select_sites j.known outside q) clean) (select_lacks names.tables j fits.tables fits.reads q at_first x is)

  -- where there are no parameters
  module _ (no_parameters : j.known.parameters ≡ []) where
    pub view_is_told : (q : Select Named) → SelectSpellsNoNull q → ViewTold j q (view_bound names q)
    view_is_told q null = subst (λ parameters. ViewTold j q (view_over names (changeable.outside names parameters) q)) no_parameters (view_told q null (select_bound a q at_first) refl)

    -- a view is bound exactly where there is no syntax fault
    pub view_accepted : (q : Select Named) → SelectSpellsNoNull q → is_ok (view_bound names q) ≡ not (has_syntax_fault j (select_sites j.known outside q))
    view_accepted q null = exactly (view_bound names q) (view_is_told q null)
      where
        exactly : (o : Outcome NumberedView) → ViewTold j q o → is_ok o ≡ not (has_syntax_fault j (select_sites j.known outside q))
        exactly (Ok v) h = sym (ap not h.0)
        exactly (Err f) h = sym (ap not h.1)
