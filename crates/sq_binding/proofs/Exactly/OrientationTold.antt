-- A fetch orientation is refused exactly if the rules refuse it (ISO/IEC 9075:1992, 13.3).
use Rattle.std.proofs.Common.{◌≡◌, ℕ, Bool, true, false, not, ◌||◌, [], ◌∷◌, Option, Some, None, Ok, Err, refl, sym, ap, subst, ◌∙◌}
use Rattle.std.specs.List.{list_any}
use Rattle.std.specs.Prelude.{is_none, if◌then◌else◌}
use Rattle.sq_value.proofs.Truths.{or_true}
use Rattle.sq_lex.specs.declared.name.Name.{Name}
use Rattle.sq_value.specs.declared.domain.Domain.{Domain}
use Rattle.sq_tree.specs.declared.statement.Orientation.{Orientation}
use Rattle.sq_tree.specs.declared.statement.Orientation.TheVariants as written
use Rattle.sq_tree.specs.declared.statement.Position.{Position}
use Rattle.sq_tree.specs.declared.statement.Position.TheVariants as position
use Rattle.sq_meaning.specs.Spelled.{has_point, number_with_sign}
use Rattle.sq_meaning.specs.Binding.{Judged, bad_orientation, breaks, domain_named, has_fault, is_bad_orientation, is_bad_position, is_whole_domain, orientation_names, position_name, unknown_parameter}
use Rattle.sq_meaning.specs.Site.{Site}
use Rattle.sq_meaning.specs.Words.{is_some_and}
use Rattle.sq_meaning.specs.declared.fault.BindingFault.TheVariants as fault
use Rattle.sq_bound.specs.declared.statement.Distance.{Distance}
use Rattle.sq_bound.specs.declared.statement.Distance.TheVariants as distance
use Rattle.sq_bound.specs.declared.statement.FetchOrientation.{FetchOrientation}
use Rattle.sq_bound.specs.declared.statement.FetchOrientation.TheVariants as orientation
use Rattle.sq_binding.specs.Expression.{parameter_named}
use Rattle.sq_binding.specs.Orientation.{distance_bound, fetched, is_next}
use Rattle.sq_binding.specs.Outcome.{Outcome, and_then}
use Rattle.sq_binding.specs.Whole.{must_hold}
use Rattle.sq_binding.proofs.Faultless.Clean.{AllHeld, Clean, CleanSite, clean_more, no_site}
use Rattle.sq_binding.proofs.FaultsFound.Known.{IfNamed, parameter_found}
use Rattle.sq_binding.proofs.FaultsFound.Sites.{fault_here}
use Rattle.sq_binding.proofs.Exactly.Told.{Told}

module _ (j : Judged) (scrolls : Bool) where
  abbrev site : Orientation → Site
  site o = Site.orientation_used scrolls (Some o)

  orientation_clean : (o : Option Orientation) → unknown_parameter j.known (Site.orientation_used scrolls o) ≡ false → bad_orientation j.known (Site.orientation_used scrolls o) ≡ false → CleanSite j (Site.orientation_used scrolls o)
  orientation_clean o h g fault.UnknownParameter = h
  orientation_clean o h g fault.BadOrientation = g
  orientation_clean o h g _ = refl

  one_clean : (o : Option Orientation) → unknown_parameter j.known (Site.orientation_used scrolls o) ≡ false → bad_orientation j.known (Site.orientation_used scrolls o) ≡ false → AllHeld j → Clean j (Site.orientation_used scrolls o ∷ [])
  one_clean o h g held = clean_more j (Site.orientation_used scrolls o) [] (orientation_clean o h g) (no_site j)

  bad : (o : Orientation) → is_bad_orientation j.known scrolls o ≡ true → has_fault j (site o ∷ []) fault.BadOrientation ≡ true
  bad o h = fault_here j fault.BadOrientation (site o) [] h

  -- one that needs SCROLL
  scroll_told : (o : Orientation) (found : FetchOrientation) → is_next found ≡ false → list_any (λ n. is_none (domain_named j.known n)) (orientation_names o) ≡ false
      → (scrolls ≡ false → is_bad_orientation j.known scrolls o ≡ true) → (scrolls ≡ true → is_bad_orientation j.known scrolls o ≡ false)
      → Told j (site o ∷ []) (and_then (must_hold (scrolls || is_next found) fault.BadOrientation) (λ _. Ok found))
  scroll_told o found other known refused taken = by scrolls refl
    where
      by : (b : Bool) → scrolls ≡ b → Told j (site o ∷ []) (and_then (must_hold (b || is_next found) fault.BadOrientation) (λ _. Ok found))
      by true e = one_clean (Some o) known (taken e)
      by false e = subst (λ t. Told j (site o ∷ []) (and_then (must_hold t fault.BadOrientation) (λ _. Ok found))) (sym other) (bad o (refused e))

  plain_bad : scrolls ≡ false → not scrolls ≡ true
  plain_bad e = ap not e

  plain_good : scrolls ≡ true → not scrolls ≡ false
  plain_good e = ap not e

  number_bad : (b : Bool) → scrolls ≡ false → (not scrolls || b) ≡ true
  number_bad b e = ap (λ s. not s || b) e

  number_good : (b : Bool) → b ≡ false → scrolls ≡ true → (not scrolls || b) ≡ false
  number_good b h e = ap (λ s. not s || b) e ∙ h

  -- a number, or a parameter
  module _ (o : Position → Orientation) (found : Distance → FetchOrientation) (other : (d : Distance) → is_next (found d) ≡ false) (names : (p : Position) → orientation_names (o p) ≡ position_name p)
      (is_bad : (p : Position) → is_bad_orientation j.known scrolls (o p) ≡ (not scrolls || is_bad_position j.known p)) where
    distance_refused : (p : Position) → is_bad_position j.known p ≡ true → has_fault j (site (o p) ∷ []) fault.BadOrientation ≡ true
    distance_refused p h = bad (o p) (is_bad p ∙ ap (λ b. not scrolls || b) h ∙ or_true (not scrolls))

    distance_taken : (p : Position) (d : Distance) → list_any (λ n. is_none (domain_named j.known n)) (position_name p) ≡ false → is_bad_position j.known p ≡ false
        → Told j (site (o p) ∷ []) (and_then (must_hold (scrolls || is_next (found d)) fault.BadOrientation) (λ _. Ok (found d)))
    distance_taken p d known good =
        scroll_told (o p) (found d) (other d) (ap (list_any (λ n. is_none (domain_named j.known n))) (names p) ∙ known)
        (λ e. is_bad p ∙ number_bad (is_bad_position j.known p) e) (λ e. is_bad p ∙ number_good (is_bad_position j.known p) good e)

    abbrev after : Outcome Distance → Outcome FetchOrientation
    after d = and_then (and_then d (λ d. Ok (found d))) (λ f. and_then (must_hold (scrolls || is_next f) fault.BadOrientation) (λ _. Ok f))

    parameter_told : (name : Name) (n : Outcome (ℕ × Domain)) → IfNamed (domain_named j.known name) n
        → Told j (site (o (position.Parameter name)) ∷ []) (after (and_then n (λ at. and_then (must_hold (is_whole_domain at.1) fault.BadOrientation) (λ _. Ok (distance.Parameter at.0)))))
    parameter_told name (Err f) h =
        fault_here j f (site (o (position.Parameter name))) []
        (subst (λ f. breaks j f (site (o (position.Parameter name))) ≡ true) (sym h.0) (ap (list_any (λ n. is_none (domain_named j.known n))) (names (position.Parameter name)) ∙ (λ i. is_none (h.1 i) || false)))
    parameter_told name (Ok at) h = whole (is_whole_domain at.1) refl
      where
        whole : (b : Bool) → is_whole_domain at.1 ≡ b → Told j (site (o (position.Parameter name)) ∷ []) (after (and_then (must_hold b fault.BadOrientation) (λ _. Ok (distance.Parameter at.0))))
        whole true e =
            distance_taken (position.Parameter name) (distance.Parameter at.0) (λ i. is_none (h i) || false) ((λ i. is_some_and (λ d. not (is_whole_domain d)) (h i)) ∙ ap not e)
        whole false e = distance_refused (position.Parameter name) ((λ i. is_some_and (λ d. not (is_whole_domain d)) (h i)) ∙ ap not e)

    distance_told : (p : Position) → Told j (site (o p) ∷ []) (after (distance_bound j.known.parameters p))
    distance_told (position.Number n) = pointed (has_point n.number) refl
      where
        pointed : (b : Bool) → has_point n.number ≡ b → Told j (site (o (position.Number n)) ∷ []) (after (if b then Err fault.BadOrientation else Ok (distance.Number (number_with_sign n).unscaled)))
        pointed true e = distance_refused (position.Number n) e
        pointed false e = distance_taken (position.Number n) (distance.Number (number_with_sign n).unscaled) refl e
    distance_told (position.Parameter name) = parameter_told name (parameter_named j.known.parameters name) (parameter_found j.known name)

  next_told : (o : Option Orientation) → unknown_parameter j.known (Site.orientation_used scrolls o) ≡ false → bad_orientation j.known (Site.orientation_used scrolls o) ≡ false
      → Told j (Site.orientation_used scrolls o ∷ []) (and_then (must_hold (scrolls || true) fault.BadOrientation) (λ _. Ok orientation.Next))
  next_told o h g = subst (λ t. Told j (Site.orientation_used scrolls o ∷ []) (and_then (must_hold t fault.BadOrientation) (λ _. Ok orientation.Next))) (sym (or_true scrolls)) (one_clean o h g)

  pub fetched_told : (o : Option Orientation) → Told j (Site.orientation_used scrolls o ∷ []) (fetched j.known.parameters scrolls o)
  fetched_told None = next_told None refl refl
  fetched_told (Some written.Next) = next_told (Some written.Next) refl refl
  fetched_told (Some written.Prior) = scroll_told written.Prior orientation.Prior refl refl plain_bad plain_good
  fetched_told (Some written.First) = scroll_told written.First orientation.First refl refl plain_bad plain_good
  fetched_told (Some written.Last) = scroll_told written.Last orientation.Last refl refl plain_bad plain_good
  fetched_told (Some (written.Absolute p)) = distance_told written.Absolute orientation.Absolute (λ d. refl) (λ p. refl) (λ p. refl) p
  fetched_told (Some (written.Relative p)) = distance_told written.Relative orientation.Relative (λ d. refl) (λ p. refl) (λ p. refl) p
