-- Two cursors that look alike: they are set alike, and a FETCH comes to the same row of both (ISO/IEC 9075:1992, 4.21 and
-- 13.3).
use Rattle.std.proofs.Common.{ap, subst, sym, ◌∙◌}
use Rattle.std.proofs.lemmas.Bool.{and_parts}
use Rattle.std.specs.Cmp.Lexicographic.{same_text}
use Rattle.std.specs.List.{cons_option, list_any}
use Rattle.std.specs.Prelude.{◌≡◌, ⊤, ◌||◌, is_some, ℕ, Bool, true, false, cond, ◌&&◌, List, [], ◌∷◌, length, map, filter_map, find, if◌then◌else◌, Option, option_map, IfSome, refl, Some, None}
use Rattle.sq_lex.specs.declared.name.Name.{Name}
use Rattle.sq_tree.specs.declared.module.ModuleText.{ModuleText}
use Rattle.sq_meaning.specs.Environment.{Row, same_name}
use Rattle.sq_meaning.specs.Cursor.{CursorState, Fetched, Move, at_number, bounded, fetched, is_open, row_at, to_next, wanted}
use Rattle.sq_meaning.specs.Machine.{CursorEntry, State, is_entry, set_cursor}
use Rattle.sq_run.specs.ConfinedCursors.{LooksAlike}
use Rattle.sq_run.proofs.Steps.Projected.{state_in}

-- ---- an entry that is set

-- a cursor that a module declares, with its state
abbrev pub entry_of : State → ModuleText → Name → Option CursorEntry
entry_of s m name = find (is_entry m.name name) s.cursors

-- the cursor is there in both, and looks alike, or in none
abbrev pub AreAlike : (one other : ℕ → Option Row) → Option CursorEntry → Option CursorEntry → Type 0
AreAlike one other None None = ⊤
AreAlike one other (Some here) (Some there) = LooksAlike one other here.state there.state
AreAlike one other _ _ = ⊥

entry_named : (m name k other : Name) (x : CursorState) (b : Bool) (e : CursorEntry) → is_entry k other (if b then record e { state = x } else e) ≡ is_entry k other e
entry_named m name k other x true e = refl
entry_named m name k other x false e = refl

pub entry_set : (m name k other : Name) (x : CursorState) (es : List CursorEntry)
    → find (is_entry k other) (map (set_cursor m name x) es) ≡ option_map (set_cursor m name x) (find (is_entry k other) es)
entry_set m name k other x [] = refl
entry_set m name k other x (e ∷ es) =
    ap (λ b. cond b (Some (set_cursor m name x e)) (find (is_entry k other) (map (set_cursor m name x) es))) (entry_named m name k other x (is_entry m name e) e)
    ∙ by_test (is_entry k other e) (entry_set m name k other x es)
  where
    by_test : (b : Bool) → find (is_entry k other) (map (set_cursor m name x) es) ≡ option_map (set_cursor m name x) (find (is_entry k other) es)
        → cond b (Some (set_cursor m name x e)) (find (is_entry k other) (map (set_cursor m name x) es)) ≡ option_map (set_cursor m name x) (cond b (Some e) (find (is_entry k other) es))
    by_test true others = refl
    by_test false others = others

abbrev pub IsUnder : (m k : Name) → Option CursorEntry → Type 0
IsUnder m k o = IfSome o (λ e. is_entry m k e ≡ true)

pub found_under : (m k : Name) (es : List CursorEntry) → IsUnder m k (find (is_entry m k) es)
found_under m k [] = tt
found_under m k (e ∷ es) = by_test (is_entry m k e) refl (found_under m k es)
  where
    by_test : (b : Bool) → is_entry m k e ≡ b → IsUnder m k (find (is_entry m k) es) → IsUnder m k (cond b (Some e) (find (is_entry m k) es))
    by_test true is others = is
    by_test false is others = others

-- the entry of another name stays, and that of this name is set in both
pub set_alike : (m name k : Name) (x y : CursorState) (one other : ℕ → Option Row) (o q : Option CursorEntry) → IsUnder m k o → IsUnder m k q
    → AreAlike one other o q → (k ≡ name → LooksAlike one other x y) → AreAlike one other (option_map (set_cursor m name x) o) (option_map (set_cursor m name y) q)
set_alike m name k x y one other None None h g alike set = tt
set_alike m name k x y one other None (Some f) h g alike set = alike
set_alike m name k x y one other (Some e) None h g alike set = alike
set_alike m name k x y one other (Some e) (Some f) h g alike set =
    by_names (is_entry m name e) (is_entry m name f) (names_are e h ∙ sym (names_are f g))
    (λ is. set (same_text k name (sym (and_parts (same_name m m) (same_name k name) (sym (names_are e h) ∙ is)).1)))
  where
    names_are : (z : CursorEntry) → is_entry m k z ≡ true → is_entry m name z ≡ (same_name m m && same_name k name)
    names_are z is =
        let parts = and_parts (same_name z.in_module m) (same_name z.name k) is in
        (λ i. same_name (same_text z.in_module m (sym parts.0) i) m && same_name (same_text z.name k (sym parts.1) i) name)

    by_names : (b d : Bool) → b ≡ d → (b ≡ true → LooksAlike one other x y)
        → LooksAlike one other (if b then record e { state = x } else e).state (if d then record f { state = y } else f).state
    by_names true true same set = set refl
    by_names false false same set = alike
    by_names true false same set = cc
    by_names false true same set = cc

-- ---- FETCH of two cursors that look alike

abbrev IsAt : (ℕ → Option Row) → List Row → CursorState → Type 0
IsAt now rows c = (numbers : List ℕ) × (on : Option ℕ) × (c ≡ CursorState.over_numbers numbers on) × (filter_map now numbers ≡ rows)

-- a FETCH comes to the first of the rows, and the others are left
abbrev Comes : (ℕ → Option Row) → List Row → Fetched → Type 0
Comes now [] f = (f.row ≡ None) × IsAt now [] f.cursor
Comes now (row ∷ rows) f = (f.row ≡ Some row) × IsAt now rows f.cursor

comes : (now : ℕ → Option Row) (numbers : List ℕ) → Comes now (filter_map now numbers) (to_next now numbers)
comes now [] = (refl, ([], None, refl, refl))
comes now (n ∷ numbers) = by_row (now n) (comes now numbers)
  where
    by_row : (o : Option Row) → Comes now (filter_map now numbers) (to_next now numbers)
        → Comes now (cons_option o (filter_map now numbers)) (at_number numbers n (to_next now numbers) o)
    by_row None further = further
    by_row (Some row) further = (refl, (numbers, Some n, refl, refl))

module _ (one other : ℕ → Option Row) where
  abbrev pub FetchedAlike : Fetched → Fetched → Type 0
  FetchedAlike f g = (f.row ≡ g.row) × LooksAlike one other f.cursor g.cursor

  at_alike : (rows : List Row) (c d : CursorState) → IsAt one rows c → IsAt other rows d → LooksAlike one other c d
  at_alike rows c d h g =
      subst (λ x. LooksAlike one other x d) (sym h.2)
      (subst (λ x. LooksAlike one other (CursorState.over_numbers h.0 h.1) x) (sym g.2) (h.3 ∙ sym g.3))

  both_come : (rows : List Row) (f g : Fetched) → Comes one rows f → Comes other rows g → FetchedAlike f g
  both_come [] f g h k = (h.0 ∙ sym k.0, at_alike [] f.cursor g.cursor h.1 k.1)
  both_come (row ∷ rows) f g h k = (h.0 ∙ sym k.0, at_alike rows f.cursor g.cursor h.1 k.1)

  pub fetched_alike : (move : Move) (c d : CursorState) → LooksAlike one other c d → FetchedAlike (fetched one move c) (fetched other move d)
  fetched_alike move CursorState.closed CursorState.closed h = (refl, tt)
  fetched_alike move (CursorState.over_numbers numbers on) (CursorState.over_numbers others beside) h =
      both_come (filter_map one numbers) (to_next one numbers) (to_next other others) (comes one numbers)
      (subst (λ rows. Comes other rows (to_next other others)) (sym h) (comes other others))
  fetched_alike move (CursorState.over_rows rows place) (CursorState.over_rows others beside) h = (
    λ i. row_at (h.0 i) (bounded (length (h.0 i)) (wanted move (length (h.0 i)) (h.1 i))),
    (h.0, λ i. bounded (length (h.0 i)) (wanted move (length (h.0 i)) (h.1 i))),
  )
  fetched_alike move CursorState.closed (CursorState.over_numbers others beside) h = absurd h
  fetched_alike move CursorState.closed (CursorState.over_rows others beside) h = absurd h
  fetched_alike move (CursorState.over_numbers numbers on) CursorState.closed h = absurd h
  fetched_alike move (CursorState.over_numbers numbers on) (CursorState.over_rows others beside) h = absurd h
  fetched_alike move (CursorState.over_rows rows place) CursorState.closed h = absurd h
  fetched_alike move (CursorState.over_rows rows place) (CursorState.over_numbers others beside) h = absurd h

  pub open_alike : (c d : CursorState) → LooksAlike one other c d → is_open c ≡ is_open d
  open_alike CursorState.closed CursorState.closed h = refl
  open_alike (CursorState.over_numbers numbers on) (CursorState.over_numbers others beside) h = refl
  open_alike (CursorState.over_rows rows place) (CursorState.over_rows others beside) h = refl
  open_alike CursorState.closed (CursorState.over_numbers others beside) h = absurd h
  open_alike CursorState.closed (CursorState.over_rows others beside) h = absurd h
  open_alike (CursorState.over_numbers numbers on) CursorState.closed h = absurd h
  open_alike (CursorState.over_numbers numbers on) (CursorState.over_rows others beside) h = absurd h
  open_alike (CursorState.over_rows rows place) CursorState.closed h = absurd h
  open_alike (CursorState.over_rows rows place) (CursorState.over_numbers others beside) h = absurd h

  pub state_alike : (o q : Option CursorEntry) → AreAlike one other o q → LooksAlike one other (state_in o) (state_in q)
  state_alike None None h = tt
  state_alike (Some e) (Some f) h = h
  state_alike None (Some f) h = absurd h
  state_alike (Some e) None h = absurd h

  -- where it is there in both or in none
  pub entries_alike : (o q : Option CursorEntry) → is_some o ≡ is_some q → LooksAlike one other (state_in o) (state_in q) → AreAlike one other o q
  entries_alike None None e h = tt
  entries_alike (Some c) (Some d) e h = h
  entries_alike None (Some d) e h = cc
  entries_alike (Some c) None e h = cc

pub found_if : {A : Type 0} (test : A → Bool) (xs : List A) → is_some (find test xs) ≡ list_any test xs
found_if test [] = refl
found_if {A} test (x ∷ xs) = by_test (test x) (found_if test xs)
  where
    by_test : (b : Bool) → is_some (find test xs) ≡ list_any test xs → is_some (cond b (Some x) (find test xs)) ≡ (b || list_any test xs)
    by_test true others = refl
    by_test false others = others
