-- The machine finds cursors by their names, and a session by their numbers: both find, set and close the
-- same (ISO/IEC 9075:1992, 4.21, 13.4, 14.3 and 14.4).
use Rattle.std.proofs.Common.{◌≡◌, ℕ, zero, suc, true, false, cond, List, [], ◌∷◌, map, Some, refl, sym, subst}
use Rattle.std.specs.Prelude.{⊤, find, if◌then◌else◌, option_map, slice_get, slice_index_or, slice_set, unwrap_or}
use Rattle.std.proofs.lemmas.Bool.{false_from_ne_true}
use Rattle.sq_lex.specs.declared.name.Name.{Name}
use Rattle.sq_meaning.specs.Cursor as machine
use Rattle.sq_meaning.specs.Machine.{CursorEntry, all_closed, is_entry, set_cursor}
use Rattle.sq_session.specs.State as session
use Rattle.sq_session.specs.declared.cursor.CursorState.{CursorState}
use Rattle.sq_session.specs.declared.cursor.CursorState.TheVariants as cursor

not_first : (n : ℕ) → 0 ≡ suc n → ⊥
not_first n e = cc

not_behind : (n : ℕ) → suc n ≡ 0 → ⊥
not_behind n e = cc

one_before : (i n : ℕ) → suc i ≡ suc n → i ≡ n
one_before i n e = cc

-- for each cursor that is declared, what ties the session's to the machine's
module _ {D : Type 0} (R : D → CursorState → machine.CursorState → Type 0) where
  -- All cursors of both are the same, in their order.
  abbrev pub AreSame : List D → List CursorState → List CursorEntry → Type 0
  AreSame [] [] [] = ⊤
  AreSame (d ∷ ds) (c ∷ cs) (e ∷ es) = R d c e.state × AreSame ds cs es
  AreSame _ _ _ = ⊥

  -- all of them closed
  pub closed_same : ((d : D) → R d cursor.Closed machine.CursorState.closed) → (ds : List D) (cs : List CursorState)
      (es : List CursorEntry) → AreSame ds cs es → AreSame ds (session.all_closed cs) (all_closed es)
  closed_same r [] [] [] h = tt
  closed_same r (d ∷ ds) (c ∷ cs) (e ∷ es) h = (r d, closed_same r ds cs es h.1)
  closed_same r _ _ _ h = absurd h

  module _ (in_module name : Name) where
    -- the cursor with this number has this name, and no other has
    pub record IsOnly (entries : List CursorEntry) (n : ℕ) : Type 0 where
      pub entry : CursorEntry
      pub at : slice_get entries n ≡ Some entry
      pub is : is_entry in_module name entry ≡ true
      pub only : (i : ℕ) (e : CursorEntry) → slice_get entries i ≡ Some e → is_entry in_module name e ≡ true → i ≡ n

    only_behind : (x : CursorEntry) (es : List CursorEntry) (n : ℕ) → IsOnly (x ∷ es) (suc n) → IsOnly es n
    only_behind x es n h = record { entry = h.entry; at = h.at; is = h.is; only = λ i e at is. one_before i n (h.only (suc i) e at is) }

    other_first : (x : CursorEntry) (es : List CursorEntry) (n : ℕ) → IsOnly (x ∷ es) (suc n) → is_entry in_module name x ≡ false
    other_first x es n h = false_from_ne_true (is_entry in_module name x) (λ is. not_first n (h.only 0 x refl is))

    is_first : (x : CursorEntry) (es : List CursorEntry) → IsOnly (x ∷ es) 0 → is_entry in_module name x ≡ true
    is_first x es h = let same : h.entry ≡ x = cc (sym h.at) in subst (λ (e : CursorEntry). is_entry in_module name e ≡ true) same h.is

    -- the one that is found
    abbrev named : List CursorEntry → machine.CursorState
    named es = unwrap_or (option_map (λ c. c.state) (find (is_entry in_module name) es)) machine.CursorState.closed

    pub found_same : (ds : List D) (cs : List CursorState) (es : List CursorEntry) (n : ℕ) → AreSame ds cs es → IsOnly es n → (d : D)
        → slice_get ds n ≡ Some d → R d (slice_index_or cs n cursor.Closed) (named es)
    found_same [] [] [] n h only d there = cc
    found_same (x ∷ ds) (c ∷ cs) (e ∷ es) zero h only d there =
        let is : x ≡ d = cc in
        subst (λ y. R y c (named (e ∷ es))) is
        (subst (λ b. R x c (unwrap_or (option_map (λ y. y.state) (cond b (Some e) (find (is_entry in_module name) es))) machine.CursorState.closed))
        (sym (is_first e es only)) h.0)
    found_same (x ∷ ds) (c ∷ cs) (e ∷ es) (suc n) h only d there =
        subst (λ b. R d (slice_index_or cs n cursor.Closed) (unwrap_or (option_map (λ y. y.state) (cond b (Some e) (find (is_entry in_module name) es))) machine.CursorState.closed))
        (sym (other_first e es n only)) (found_same ds cs es n h.1 (only_behind e es n only) d there)
    found_same _ _ _ n h only d there = absurd h

    -- where none has the name all stay
    none_set : (x : machine.CursorState) (es : List CursorEntry)
        → ((i : ℕ) (e : CursorEntry) → slice_get es i ≡ Some e → is_entry in_module name e ≡ true → ⊥)
        → map (set_cursor in_module name x) es ≡ es
    none_set x [] none = refl
    none_set x (e ∷ es) none =
        (λ i. (if false_from_ne_true (is_entry in_module name e) (λ is. none 0 e refl is) i then record e { state = x } else e)
        ∷ none_set x es (λ k y at is. none (suc k) y at is) i)

    -- the one that is set
    pub set_same : (ds : List D) (cs : List CursorState) (es : List CursorEntry) (n : ℕ) → AreSame ds cs es → IsOnly es n → (d : D)
        → slice_get ds n ≡ Some d → (c : CursorState) (x : machine.CursorState) → R d c x
        → AreSame ds (slice_set cs n c) (map (set_cursor in_module name x) es)
    set_same [] [] [] n h only d there c x r = cc
    set_same (y ∷ ds) (b ∷ cs) (e ∷ es) zero h only d there c x r =
        let is : y ≡ d = cc in (
          subst (λ p. R y c (if p then record e { state = x } else e).state) (sym (is_first e es only)) (subst (λ z. R z c x) (sym is) r),
          subst (λ l. AreSame ds cs l) (sym (none_set x es (λ i z at is_it. not_behind i (only.only (suc i) z at is_it)))) h.1,
        )
    set_same (y ∷ ds) (b ∷ cs) (e ∷ es) (suc n) h only d there c x r = (
      subst (λ p. R y b (if p then record e { state = x } else e).state) (sym (other_first e es n only)) h.0,
      set_same ds cs es n h.1 (only_behind e es n only) d there c x r,
    )
    set_same _ _ _ n h only d there c x r = absurd h
