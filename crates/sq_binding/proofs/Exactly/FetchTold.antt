-- OPEN, CLOSE and FETCH are bound exactly if the rules find no fault in them (ISO/IEC 9075:1992, 13.2 to 13.4).
use Rattle.std.proofs.Common.{◌≡◌, ℕ, true, false, List, [], ◌∷◌, length, map, Option, Some, None, Ok, refl, sym, subst, ◌∙◌}
use Rattle.std.proofs.lemmas.List.{length-map}
use Rattle.sq_lex.specs.declared.name.Name.{Name}
use Rattle.sq_value.specs.declared.domain.Kind.{Kind}
use Rattle.sq_tree.specs.declared.statement.Fetch.{Fetch}
use Rattle.sq_meaning.specs.Placed.{PlacedParameter}
use Rattle.sq_meaning.specs.Spelled.{listed}
use Rattle.sq_meaning.specs.Status as status
use Rattle.sq_meaning.specs.Binding.{Judged, unknown_cursor}
use Rattle.sq_meaning.specs.Site.{Site}
use Rattle.sq_meaning.specs.WellFormedStatement.{into_sites, orientation_of}
use Rattle.sq_meaning.specs.declared.fault.BindingFault.TheVariants as fault
use Rattle.sq_binding.specs.Change.{NamedCursor, NamedCursors, cursor_named}
use Rattle.sq_binding.specs.NumberedCondition.{ResultColumn}
use Rattle.sq_binding.specs.Orientation.{fetched}
use Rattle.sq_binding.specs.Outcome.{Outcome, and_then, or_fault}
use Rattle.sq_bound.specs.declared.statement.FetchOrientation.{FetchOrientation}
use Rattle.sq_binding.specs.Statement.{NumberedFetch, fetch_bound}
use Rattle.sq_binding.specs.Targets.{targets_bound}
use Rattle.sq_binding.proofs.Faultless.Clean.{CleanSite, clean_more, no_site}
use Rattle.sq_binding.proofs.Exactly.OrientationTold.{fetched_told}
use Rattle.sq_binding.proofs.Exactly.RowAccepted.{into_are}
use Rattle.sq_binding.proofs.FaultsFound.Sites.{fault_here}
use Rattle.sq_binding.proofs.Exactly.TargetsTold.{targets_told}
use Rattle.sq_binding.proofs.Exactly.Told.{Told, told_made, told_then}

abbrev pub IfCursor : Judged → Name → Option NamedCursor → Type 0
IfCursor j name (Some c) = unknown_cursor j.known (Site.cursor_used name) ≡ false
IfCursor j name None = unknown_cursor j.known (Site.cursor_used name) ≡ true

-- a cursor is known exactly where the rules know one whose query has no fault
abbrev pub CursorsFit : NamedCursors → Judged → Type 0
CursorsFit cursors j = (name : Name) → IfCursor j name (cursors name)

module _ (j : Judged) (cursors : NamedCursors) (fit : CursorsFit cursors j) where
  used_clean : (name : Name) → unknown_cursor j.known (Site.cursor_used name) ≡ false → CleanSite j (Site.cursor_used name)
  used_clean name h fault.UnknownCursor = h
  used_clean name h _ = refl

  named_told : (name : Name) (o : Option NamedCursor) → IfCursor j name o → Told j (Site.cursor_used name ∷ []) (or_fault fault.UnknownCursor o)
  named_told name (Some c) h = λ held. clean_more j (Site.cursor_used name) [] (used_clean name h) (no_site j)
  named_told name None h = fault_here j fault.UnknownCursor (Site.cursor_used name) [] h

  -- OPEN and CLOSE
  pub cursor_told : (name : Name) → Told j (Site.cursor_used name ∷ []) (cursor_named cursors name)
  cursor_told name = named_told name (cursors name) (fit name)

  -- ---- FETCH

  -- What the rules know of a cursor that is known: whether it scrolls, and its columns.
  pub record Fetches (f : Fetch) (sites : List Site) (c : NamedCursor) : Type 0 where
    pub count : ℕ
    pub kinds : status.Outcome (List Kind)
    pub sites_are : sites ≡ Site.orientation_used c.scroll (orientation_of f) ∷ into_sites j.known f.targets count kinds
    pub count_is : count ≡ length c.columns
    pub kinds_are : kinds ≡ Ok (map (λ k. k.kind) c.columns)

  module _ (f : Fetch) (sites : List Site) where
    abbrev fetch_of : NamedCursor → FetchOrientation → List PlacedParameter → NumberedFetch
    fetch_of c o targets = record { cursor = c.number; orientation = o; targets = targets }

    rest_told : (c : NamedCursor) → Fetches f sites c
        → Told j sites (and_then (fetched j.known.parameters c.scroll (orientation_of f)) (λ o. and_then (targets_bound j.known.parameters (listed f.targets) (map (λ k. k.kind) c.columns)) (λ targets. Ok (fetch_of c o targets))))
    rest_told c h =
        subst (λ sites. Told j sites (and_then (fetched j.known.parameters c.scroll (orientation_of f)) rest)) (sym h.sites_are)
        (told_then j (Site.orientation_used c.scroll (orientation_of f) ∷ []) (into_sites j.known f.targets h.count h.kinds) (fetched j.known.parameters c.scroll (orientation_of f)) rest (fetched_told j c.scroll (orientation_of f))
        (λ o is. told_made j (into_sites j.known f.targets h.count h.kinds) (targets_bound j.known.parameters (listed f.targets) kinds) (fetch_of c o)
        (subst (λ sites. Told j sites (targets_bound j.known.parameters (listed f.targets) kinds))
        (into_are j f.targets h.count h.kinds kinds h.kinds_are (h.count_is ∙ sym (length-map c.columns (λ (k : ResultColumn). k.kind)))) (targets_told j (listed f.targets) kinds))))
      where
        kinds : List Kind
        kinds = map (λ k. k.kind) c.columns

        rest : FetchOrientation → Outcome NumberedFetch
        rest o = and_then (targets_bound j.known.parameters (listed f.targets) kinds) (λ targets. Ok (fetch_of c o targets))

    pub fetch_told : ((c : NamedCursor) → cursors f.cursor ≡ Some c → Fetches f sites c) → Told j (Site.cursor_used f.cursor ∷ sites) (fetch_bound j.known.parameters cursors f)
    fetch_told knows =
        told_then j (Site.cursor_used f.cursor ∷ []) sites (cursor_named cursors f.cursor) _ (cursor_told f.cursor) (λ c is. rest_told c (knows c (there (cursors f.cursor) c is)))
      where
        there : (o : Option NamedCursor) (c : NamedCursor) → or_fault fault.UnknownCursor o ≡ Ok c → o ≡ Some c
        there (Some d) c e = cc
        there None c e = cc
