-- A machine with the cursors of some names alone, in their order, goes on as the machine does, where all
-- its other cursors are closed (ISO/IEC 9075:1992, 4.21 and 13.2 to 13.10): a session keeps no cursor whose
-- query has a fault, and none can be opened.
use Rattle.std.proofs.Common.{◌≡◌, ℕ, Bool, true, false, cond, ◌&&◌, ◌||◌, List, [], ◌∷◌, map, Option, Some, None, refl, sym, ap, subst, ◌∙◌, Ok, Err}
use Rattle.std.specs.Cmp.Lexicographic.{same_text}
use Rattle.std.specs.List.{AllByRecursion, list_any}
use Rattle.std.specs.Prelude.{find, if◌then◌else◌, option_and_then, option_map, unwrap_or}
use Rattle.std.proofs.lemmas.Bool.{and_parts}
use Rattle.sq_lex.specs.declared.name.Name.{Name}
use Rattle.sq_store.specs.Content.{Content}
use Rattle.sq_tree.specs.declared.«module».Cursor.{Cursor}
use Rattle.sq_tree.specs.declared.statement.Delete.{Delete}
use Rattle.sq_tree.specs.declared.statement.Fetch.{Fetch}
use Rattle.sq_tree.specs.declared.statement.Statement.{Statement}
use Rattle.sq_tree.specs.declared.statement.Statement.TheVariants as statement
use Rattle.sq_tree.specs.declared.statement.Update.{Update}
use Rattle.sq_tree.specs.declared.statement.Where.{Where}
use Rattle.sq_tree.specs.declared.statement.Where.TheVariants as rows_where
use Rattle.sq_meaning.specs.Environment.{same_name}
use Rattle.sq_meaning.specs.Status.{Outcome, and_then, or_status}
use Rattle.sq_meaning.specs.declared.status.Status.TheVariants as status
use Rattle.sq_meaning.specs.Module.{cursor_named}
use Rattle.sq_meaning.specs.WellFormedStatement.{orientation_of, updatable_cursor}
use Rattle.sq_meaning.specs.Change.{Which, delete_outcome, insert_outcome, update_outcome}
use Rattle.sq_meaning.specs.Cursor.{CursorState, fetched, is_open, number_on, off_row}
use Rattle.sq_meaning.specs.Machine.{CursorEntry, Outcomes, Running, State, all_closed, behind_delete, change_by, close_cursor, committed_state, cursor_at, cursor_now, delete_rows, ends_with, fetch_cursor, fetch_to, is_entry, move_of, moved, open_by, open_cursor, opened, performed, rolled_back, row_is_there, set_cursor, setting, shown_now, surroundings, update_rows, which_rows, with_cursor, with_named}
use Rattle.sq_meaning.specs.Parameter.{replied_with}

-- ---- entries under a name

abbrev pub state_in : Option CursorEntry → CursorState
state_in found = unwrap_or (option_map (λ c. c.state) found) CursorState.closed

abbrev pub state_at : List CursorEntry → Name → Name → CursorState
state_at es m name = state_in (find (is_entry m name) es)

-- what is found under a name where one cursor was set
pub set_found : (m name k other : Name) (x : CursorState) (es : List CursorEntry) → list_any (is_entry k other) es ≡ true
    → state_at (map (set_cursor m name x) es) k other ≡ (if same_name k m && same_name other name then x else state_at es k other)
set_found m name k other x [] there = cc
set_found m name k other x (e ∷ es) there =
    by_tests (is_entry m name e) refl (is_entry k other e) refl (set_found m name k other x es) there
  where
    names_are : is_entry k other e ≡ true → is_entry m name e ≡ (same_name k m && same_name other name)
    names_are h =
        let parts = and_parts (same_name e.in_module k) (same_name e.name other) h in
        (λ i. same_name (same_text e.in_module k (sym parts.0) i) m && same_name (same_text e.name other (sym parts.1) i) name)

    by_tests : (a : Bool) → is_entry m name e ≡ a → (b : Bool) → is_entry k other e ≡ b
        → (list_any (is_entry k other) es ≡ true → state_at (map (set_cursor m name x) es) k other ≡ (if same_name k m && same_name other name then x else state_at es k other))
        → (b || list_any (is_entry k other) es) ≡ true
        → state_in (cond (is_entry k other (if a then record e { state = x } else e)) (Some (if a then record e { state = x } else e)) (find (is_entry k other) (map (set_cursor m name x) es)))
        ≡ (if same_name k m && same_name other name then x else state_in (cond b (Some e) (find (is_entry k other) es)))
    by_tests true is true it others there =
        ap (λ t. state_in (cond t (Some (record e { state = x })) (find (is_entry k other) (map (set_cursor m name x) es)))) it
        ∙ ap (λ t. if t then x else e.state) (sym is ∙ names_are it)
    by_tests false is true it others there =
        ap (λ t. state_in (cond t (Some e) (find (is_entry k other) (map (set_cursor m name x) es)))) it
        ∙ ap (λ t. if t then x else e.state) (sym is ∙ names_are it)
    by_tests true is false it others there =
        ap (λ t. state_in (cond t (Some (record e { state = x })) (find (is_entry k other) (map (set_cursor m name x) es)))) it ∙ others there
    by_tests false is false it others there =
        ap (λ t. state_in (cond t (Some e) (find (is_entry k other) (map (set_cursor m name x) es)))) it ∙ others there

-- all closed, each is
pub closed_found : (k other : Name) (es : List CursorEntry) → state_at (all_closed es) k other ≡ CursorState.closed
closed_found k other [] = refl
closed_found k other (e ∷ es) = by_test (is_entry k other e) (closed_found k other es)
  where
    by_test : (b : Bool) → state_at (all_closed es) k other ≡ CursorState.closed
        → state_in (cond b (Some (record e { state = CursorState.closed })) (find (is_entry k other) (all_closed es))) ≡ CursorState.closed
    by_test true others = refl
    by_test false others = others

-- a cursor is there as long as it was there
any_mapped : (test : CursorEntry → Bool) (f : CursorEntry → CursorEntry) → ((e : CursorEntry) → test (f e) ≡ test e) → (es : List CursorEntry)
    → list_any test (map f es) ≡ list_any test es
any_mapped test f h [] = refl
any_mapped test f h (e ∷ es) = λ i. h e i || any_mapped test f h es i

pub still_there : (m name k other : Name) (x : CursorState) (es : List CursorEntry)
    → list_any (is_entry k other) (map (set_cursor m name x) es) ≡ list_any (is_entry k other) es
still_there m name k other x es = any_mapped (is_entry k other) (set_cursor m name x) (λ e. same (is_entry m name e) e) es
  where
    same : (b : Bool) (e : CursorEntry) → is_entry k other (if b then record e { state = x } else e) ≡ is_entry k other e
    same true e = refl
    same false e = refl

pub closed_there : (k other : Name) (es : List CursorEntry) → list_any (is_entry k other) (all_closed es) ≡ list_any (is_entry k other) es
closed_there k other es = any_mapped (is_entry k other) (λ e. record e { state = CursorState.closed }) (λ e. refl) es

-- ---- the cursors of some names

module _ {D : Type 0} (module_of name_of : D → Name) where
  abbrev pub is_named : Name → Name → D → Bool
  is_named m name d = same_name (module_of d) m && same_name (name_of d) name

  abbrev pub entry_of : State → D → CursorEntry
  entry_of x d = record { in_module = module_of d; name = name_of d; state = cursor_at x (module_of d) (name_of d) }

  -- each is one of the machine's, and any other of the machine's is closed
  pub record IsOver (ds : List D) (x : State) : Type 0 where
    pub there : AllByRecursion (λ d. list_any (is_entry (module_of d) (name_of d)) x.cursors ≡ true) ds
    pub others : (m name : Name) → list_any (is_named m name) ds ≡ false → cursor_at x m name ≡ CursorState.closed

  module _ (declared : List D) where
    -- the machine's state with these alone
    abbrev pub projected : State → State
    projected x = record x { cursors = map (entry_of x) declared }

    -- ---- one cursor

    -- Cursors are found alike in both states.
    pub at_projected : (x : State) → IsOver declared x → (m name : Name) → cursor_at (projected x) m name ≡ cursor_at x m name
    at_projected x over m name = found declared (over.others m name)
      where
        found : (ds : List D) → (list_any (is_named m name) ds ≡ false → cursor_at x m name ≡ CursorState.closed)
            → state_at (map (entry_of x) ds) m name ≡ cursor_at x m name
        found [] h = sym (h refl)
        found (d ∷ ds) h = by_test (is_named m name d) refl h (found ds)
          where
            by_test : (b : Bool) → is_named m name d ≡ b → ((b || list_any (is_named m name) ds) ≡ false → cursor_at x m name ≡ CursorState.closed)
                → ((list_any (is_named m name) ds ≡ false → cursor_at x m name ≡ CursorState.closed) → state_at (map (entry_of x) ds) m name ≡ cursor_at x m name)
                → state_in (cond b (Some (entry_of x d)) (find (is_entry m name) (map (entry_of x) ds))) ≡ cursor_at x m name
            by_test true is h others =
                let parts = and_parts (same_name (module_of d) m) (same_name (name_of d) name) is in
                (λ i. cursor_at x (same_text (module_of d) m (sym parts.0) i) (same_text (name_of d) name (sym parts.1) i))
            by_test false is h others = others h

    -- Cursors are set alike in both states.
    pub set_projected : (x : State) → IsOver declared x → (m name : Name) (c : CursorState)
        → with_cursor (projected x) m name c ≡ projected (with_cursor x m name c)
    set_projected x over m name c = λ i. record x { cursors = each declared over.there i }
      where
        each : (ds : List D) → AllByRecursion (λ d. list_any (is_entry (module_of d) (name_of d)) x.cursors ≡ true) ds
            → map (set_cursor m name c) (map (entry_of x) ds) ≡ map (entry_of (with_cursor x m name c)) ds
        each [] there = refl
        each (d ∷ ds) there = λ i. one (same_name (module_of d) m && same_name (name_of d) name) (set_found m name (module_of d) (name_of d) c x.cursors there.0) i ∷ each ds there.1 i
          where
            one : (b : Bool) → cursor_at (with_cursor x m name c) (module_of d) (name_of d) ≡ (if b then c else cursor_at x (module_of d) (name_of d))
                → (if b then record (entry_of x d) { state = c } else entry_of x d) ≡ entry_of (with_cursor x m name c) d
            one true e = λ i. record { in_module = module_of d; name = name_of d; state = sym e i }
            one false e = λ i. record { in_module = module_of d; name = name_of d; state = sym e i }

    closed_each : (tables committed : Content) (x : State) (ds : List D)
        → all_closed (map (entry_of x) ds) ≡ map (entry_of (record { tables = tables; committed = committed; cursors = all_closed x.cursors })) ds
    closed_each tables committed x [] = refl
    closed_each tables committed x (d ∷ ds) = λ i.
        record { in_module = module_of d; name = name_of d; state = sym (closed_found (module_of d) (name_of d) x.cursors) i } ∷ closed_each tables committed x ds i

    pub committed_projected : (x : State) → committed_state (projected x) ≡ projected (committed_state x)
    committed_projected x = λ i. record { tables = x.tables; committed = x.tables; cursors = closed_each x.tables x.tables x declared i }

    pub rolled_projected : (x : State) → rolled_back (projected x) ≡ projected (rolled_back x)
    rolled_projected x = λ i. record { tables = x.committed; committed = x.committed; cursors = closed_each x.committed x.committed x declared i }

    -- ---- a statement

    -- the one that is run with these cursors alone
    abbrev pub running_projected : Running → Running
    running_projected r = record r { state = projected r.state }

    -- Both give the same reply, and then the same state with these cursors alone.
    abbrev pub Projects : Outcomes → Outcomes → Type 0
    Projects few all = (few.0 ≡ projected all.0) × (few.1 ≡ all.1)

    module _ (r : Running) (over : IsOver declared r.state) where
      abbrev few : Running
      few = running_projected r

      now_same : (name : Name) → cursor_now few name ≡ cursor_now r name
      now_same name = at_projected r.state over r.in_module.name name

      moved_projected : (name : Name) (c : CursorState) → moved few name c ≡ projected (moved r name c)
      moved_projected name c = set_projected r.state over r.in_module.name name c

      by_named : (name : Name) (f g : Cursor → Outcomes) → ((c : Cursor) → Projects (f c) (g c)) → Projects (with_named few name f) (with_named r name g)
      by_named name f g h = by_found (cursor_named r.in_module name)
        where
          by_found : (o : Option Cursor)
              → Projects (unwrap_or (option_map f o) (ends_with few status.SyntaxErrorOrAccessRuleViolation)) (unwrap_or (option_map g o) (ends_with r status.SyntaxErrorOrAccessRuleViolation))
          by_found None = (refl, refl)
          by_found (Some c) = h c

      -- where both are open, or neither is
      by_open : (name : Name) (x y : CursorState → Outcomes) → ((c : CursorState) → Projects (x c) (y c))
          → (f g : CursorState → Outcomes) → ((c : CursorState) → Projects (f c) (g c))
          → Projects (if is_open (cursor_now few name) then x (cursor_now few name) else f (cursor_now few name))
          (if is_open (cursor_now r name) then y (cursor_now r name) else g (cursor_now r name))
      by_open name x y h f g k =
          subst (λ c. Projects (if is_open c then x c else f c) (if is_open (cursor_now r name) then y (cursor_now r name) else g (cursor_now r name))) (sym (now_same name))
          (by_bool (is_open (cursor_now r name)))
        where
          by_bool : (b : Bool) → Projects (if b then x (cursor_now r name) else f (cursor_now r name)) (if b then y (cursor_now r name) else g (cursor_now r name))
          by_bool true = h (cursor_now r name)
          by_bool false = k (cursor_now r name)

      opened_projected : (name : Name) (o : Outcome CursorState) → Projects (open_by few name o) (open_by r name o)
      opened_projected name (Ok c) = (moved_projected name c, refl)
      opened_projected name (Err s) = (refl, refl)

      open_projected : (name : Name) (c : Cursor) → Projects (open_cursor few name c) (open_cursor r name c)
      open_projected name c =
          by_open name (λ _. ends_with few status.InvalidCursorState) (λ _. ends_with r status.InvalidCursorState) (λ _. (refl, refl))
          (λ _. open_by few name (opened r c)) (λ _. open_by r name (opened r c)) (λ _. opened_projected name (opened r c))

      fetch_projected : (f : Fetch) (c : Cursor) → Projects (fetch_cursor few f c) (fetch_cursor r f c)
      fetch_projected f c =
          by_open f.cursor
          (λ x. fetch_to few f (fetched (shown_now r (updatable_cursor (surroundings r) c)) (move_of r.parameters (orientation_of f)) x))
          (λ x. fetch_to r f (fetched (shown_now r (updatable_cursor (surroundings r) c)) (move_of r.parameters (orientation_of f)) x))
          (λ x. (moved_projected f.cursor (fetched (shown_now r (updatable_cursor (surroundings r) c)) (move_of r.parameters (orientation_of f)) x).cursor, refl))
          (λ _. ends_with few status.InvalidCursorState) (λ _. ends_with r status.InvalidCursorState) (λ _. (refl, refl))

      close_projected : (name : Name) → Projects (close_cursor few name) (close_cursor r name)
      close_projected name =
          by_open name (λ _. (moved few name CursorState.closed, replied_with status.SuccessfulCompletion))
          (λ _. (moved r name CursorState.closed, replied_with status.SuccessfulCompletion)) (λ _. (moved_projected name CursorState.closed, refl))
          (λ _. ends_with few status.InvalidCursorState) (λ _. ends_with r status.InvalidCursorState) (λ _. (refl, refl))

      change_projected : (few_behind behind : State) → few_behind ≡ projected behind → (o : Outcome Content)
          → Projects (change_by few few_behind o) (change_by r behind o)
      change_projected few_behind behind e (Ok content) = (ap (λ (x : State). record x { tables = content }) e, refl)
      change_projected few_behind behind e (Err s) = (refl, refl)

      -- the rows of a positioned statement
      abbrev number_by : Name → CursorState → Option ℕ
      number_by cursor now =
          option_and_then (λ c. option_and_then (λ target. option_and_then (row_is_there r target) (number_on now)) (updatable_cursor (surroundings r) c))
          (cursor_named r.in_module cursor)

      which_same : (w : Option Where) → which_rows few w ≡ which_rows r w
      which_same None = refl
      which_same (Some (rows_where.Condition c)) = refl
      which_same (Some (rows_where.CurrentOf cursor)) =
          ap (λ now. and_then (or_status status.InvalidCursorState (number_by cursor now)) (λ number. Ok (Which.numbered number))) (now_same cursor)

      behind_projected : (w : Option Where) → behind_delete few w ≡ projected (behind_delete r w)
      behind_projected None = refl
      behind_projected (Some (rows_where.Condition c)) = refl
      behind_projected (Some (rows_where.CurrentOf cursor)) =
          ap (λ now. moved few cursor (off_row now)) (now_same cursor) ∙ moved_projected cursor (off_row (cursor_now r cursor))

      update_projected : (u : Update) → Projects (change_by few few.state (update_rows few u)) (change_by r r.state (update_rows r u))
      update_projected u =
          subst (λ w. Projects (change_by few few.state (and_then w (update_outcome (setting r) u))) (change_by r r.state (update_rows r u))) (sym (which_same u.target))
          (change_projected few.state r.state refl (update_rows r u))

      delete_projected : (x : Delete) → Projects (change_by few (behind_delete few x.target) (delete_rows few x)) (change_by r (behind_delete r x.target) (delete_rows r x))
      delete_projected x =
          subst (λ w. Projects (change_by few (behind_delete few x.target) (and_then w (delete_outcome (setting r) x))) (change_by r (behind_delete r x.target) (delete_rows r x))) (sym (which_same x.target))
          (change_projected (behind_delete few x.target) (behind_delete r x.target) (behind_projected x.target) (delete_rows r x))

      -- A statement does with these cursors alone what it does with all.
      pub performed_projected : (s : Statement) → Projects (performed few s) (performed r s)
      performed_projected (statement.Open name) = by_named name (open_cursor few name) (open_cursor r name) (open_projected name)
      performed_projected (statement.Fetch f) = by_named f.cursor (fetch_cursor few f) (fetch_cursor r f) (fetch_projected f)
      performed_projected (statement.Close name) = close_projected name
      performed_projected (statement.Select s) = (refl, refl)
      performed_projected (statement.Insert i) = change_projected few.state r.state refl (insert_outcome (setting r) i)
      performed_projected (statement.Update u) = update_projected u
      performed_projected (statement.Delete x) = delete_projected x
      performed_projected (statement.Commit work) = (committed_projected r.state, refl)
      performed_projected (statement.Rollback work) = (rolled_projected r.state, refl)
