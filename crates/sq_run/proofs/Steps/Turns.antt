-- A statement that names cursors of some names alone leaves all others closed (ISO/IEC
-- 9075:1992, 13.2 to 13.10).
use Rattle.std.proofs.Common.{◌≡◌, ℕ, zero, suc, Bool, true, false, cond, ◌&&◌, ◌||◌, List, [], ◌∷◌, map, Some, refl, sym, ap, subst, ◌∙◌}
use Rattle.std.specs.Cmp.Lexicographic.{same_text}
use Rattle.std.specs.List.{AllByRecursion, list_any}
use Rattle.std.specs.Prelude.{find, if◌then◌else◌, slice_get}
use Rattle.std.proofs.lemmas.Bool.{and_parts}
use Rattle.sq_lex.specs.declared.name.Name.{Name}
use Rattle.sq_meaning.specs.Environment.{same_name}
use Rattle.sq_meaning.specs.Cursor.{CursorState}
use Rattle.sq_meaning.specs.Machine.{CursorEntry, State, all_closed, is_entry, set_cursor}
use Rattle.sq_run.proofs.Steps.Found.{never_both}
use Rattle.sq_run.proofs.Steps.Moves.{Turn}
use Rattle.sq_run.proofs.Steps.Projected.{IsOver, closed_found, closed_there, is_named, set_found, state_at, state_in, still_there}

pub any_at : {A : Type 0} (test : A → Bool) (xs : List A) (n : ℕ) (x : A) → slice_get xs n ≡ Some x → test x ≡ true → list_any test xs ≡ true
any_at test [] n x at is = cc
any_at test (y ∷ xs) zero x at is = let same : y ≡ x = cc in ap (λ b. b || list_any test xs) (ap test same ∙ is)
any_at test (y ∷ xs) (suc n) x at is = ap (λ b. test y || b) (any_at test xs n x at is) ∙ or_true (test y)
  where
    or_true : (b : Bool) → (b || true) ≡ true
    or_true true = refl
    or_true false = refl

none_found : (k other : Name) (es : List CursorEntry) → list_any (is_entry k other) es ≡ false → state_at es k other ≡ CursorState.closed
none_found k other [] e = refl
none_found k other (x ∷ es) e = by_test (is_entry k other x) (none_found k other es) e
  where
    by_test : (b : Bool) → (list_any (is_entry k other) es ≡ false → state_at es k other ≡ CursorState.closed) → (b || list_any (is_entry k other) es) ≡ false
        → state_in (cond b (Some x) (find (is_entry k other) es)) ≡ CursorState.closed
    by_test true others e = cc
    by_test false others e = others e

module _ {D : Type 0} (module_of name_of : D → Name) (ds : List D) (x y : State) (over : IsOver module_of name_of ds x) where
  abbrev Others : List CursorEntry → Type 0
  Others es = (m name : Name) → list_any (is_named module_of name_of m name) ds ≡ false → state_at es m name ≡ CursorState.closed

  abbrev There : List CursorEntry → Type 0
  There es = AllByRecursion (λ d. list_any (is_entry (module_of d) (name_of d)) es ≡ true) ds

  all_there : (es : List CursorEntry) → ((k other : Name) → list_any (is_entry k other) es ≡ list_any (is_entry k other) x.cursors) → There es
  all_there es h = each ds over.there
    where
      each : (cs : List D) → AllByRecursion (λ d. list_any (is_entry (module_of d) (name_of d)) x.cursors ≡ true) cs
          → AllByRecursion (λ d. list_any (is_entry (module_of d) (name_of d)) es ≡ true) cs
      each [] t = tt
      each (d ∷ cs) t = (h (module_of d) (name_of d) ∙ t.0, each cs t.1)

  others_set : (m name : Name) (c : CursorState) → list_any (is_named module_of name_of m name) ds ≡ true → Others (map (set_cursor m name c) x.cursors)
  others_set m name c named k other none = by_there (list_any (is_entry k other) x.cursors) refl
    where
      apart : (same_name k m && same_name other name) ≡ true → ⊥
      apart e =
          let parts = and_parts (same_name k m) (same_name other name) e in
          let it : list_any (is_named module_of name_of k other) ds ≡ true
          = (λ i. list_any (is_named module_of name_of (same_text k m (sym parts.0) i) (same_text other name (sym parts.1) i)) ds) ∙ named in
          never_both (list_any (is_named module_of name_of k other) ds) it none

      by_same : (b : Bool) → (b ≡ true → ⊥) → (if b then c else state_at x.cursors k other) ≡ CursorState.closed
      by_same true h = absurd (h refl)
      by_same false h = over.others k other none

      by_there : (b : Bool) → list_any (is_entry k other) x.cursors ≡ b → state_at (map (set_cursor m name c) x.cursors) k other ≡ CursorState.closed
      by_there true e = set_found m name k other c x.cursors e ∙ by_same (same_name k m && same_name other name) apart
      by_there false e = none_found k other (map (set_cursor m name c) x.cursors) (still_there m name k other c x.cursors ∙ e)

  -- After a turn a machine is over the same declared cursors as before.
  pub over_after : (m : Name) → Turn m (λ name. list_any (is_named module_of name_of m name) ds ≡ true) x y → IsOver module_of name_of ds y
  over_after m (Turn.stays e) = record {
    there = subst There (sym e) over.there;
    others = subst Others (sym e) over.others;
  }
  over_after m (Turn.sets name c named e) = record {
    there = subst There (sym e) (all_there (map (set_cursor m name c) x.cursors) (λ k other. still_there m name k other c x.cursors));
    others = subst Others (sym e) (others_set m name c named);
  }
  over_after m (Turn.closes e) = record {
    there = subst There (sym e) (all_there (all_closed x.cursors) (λ k other. closed_there k other x.cursors));
    others = subst Others (sym e) (λ k other none. closed_found k other x.cursors);
  }
