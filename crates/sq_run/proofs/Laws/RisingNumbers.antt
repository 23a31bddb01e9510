-- The numbers to which an updatable cursor still comes rise, and are greater than that of the row that it is on: so a FETCH that
-- comes to a row comes to one of a greater number (ISO/IEC 9075:1992, 13.2 and 13.3).
use Rattle.std.proofs.Common.{◌≡◌, inl, inr, ◌⊎◌, ℕ, ◌+◌, ◌<◌, ◌≤◌, Bool, true, false, List, [], ◌∷◌, map, Option, Some, None, Ok, refl, ap, subst, sym, ◌∙◌, arith}
use Rattle.std.proofs.lemmas.Grind.{common_steps}
use Rattle.std.specs.Prelude.{⊤, if◌then◌else◌, option_map, unwrap_or}
use Rattle.sq_lex.specs.declared.name.Name.{Name}
use Rattle.sq_store.specs.Content.{Content, table_at}
use Rattle.sq_store.specs.Rising.{has_rising_rows, rising_between}
use Rattle.sq_store.specs.declared.table.Numbered.{Numbered}
use Rattle.sq_tree.specs.declared.module.Cursor.{Cursor}
use Rattle.sq_tree.specs.declared.module.ModuleText.{ModuleText}
use Rattle.sq_tree.specs.declared.module.Procedure.{Procedure}
use Rattle.sq_tree.specs.declared.statement.Fetch.{Fetch}
use Rattle.sq_tree.specs.declared.statement.Statement.{Statement}
use Rattle.sq_tree.specs.declared.statement.Statement.TheVariants as statement
use Rattle.sq_meaning.specs.Environment.{Env, Item, Row}
use Rattle.sq_meaning.specs.Expression.{Reading}
use Rattle.sq_meaning.specs.Query.{is_true}
use Rattle.sq_meaning.specs.Spelled.{Named}
use Rattle.sq_meaning.specs.Status.{Outcome, kept}
use Rattle.sq_meaning.specs.Target.{Level, Target, chosen, chosen_numbers, level_truth}
use Rattle.sq_meaning.specs.declared.status.Status.TheVariants as status
use Rattle.sq_meaning.proofs.Bind.{bind_ok}
use Rattle.sq_meaning.specs.Change.{outer_env, reading_in, rows_at}
use Rattle.sq_meaning.specs.Cursor.{CursorState, Move, at_number, before_numbers, before_rows, fetched, is_open, number_on, off_row, to_next}
use Rattle.sq_meaning.specs.Machine.{Call, Outcomes, Program, Running, State, cursor_at, cursor_now, cursor_rows, ends_with, fetch_cursor, fetch_to, first_state, move_of, numbers_or_rows, opened, performed, performed_if, running, set_cursor, setting, shown_now, stepped, surroundings}
use Rattle.sq_meaning.specs.Module.{cursor_named, module_named, procedure_named}
use Rattle.sq_meaning.specs.WellFormedStatement.{is_well_formed_procedure, orientation_of, updatable_cursor}
use Rattle.sq_run.proofs.Laws.CalledAs.{called_as, no_module, no_procedure}
use Rattle.sq_run.proofs.Laws.FetchLaws.{set_stays}
use Rattle.sq_run.proofs.Steps.Projected.{closed_found, state_at}
use Rattle.sq_run.proofs.Laws.ShownRowLaws.{Set, Turn, first_closed, set_or_not, turn}

-- ---- numbers that rise

-- from this one on
abbrev pub Rise : ℕ → List ℕ → Type 0
Rise low [] = ⊤
Rise low (n ∷ numbers) = (low ≤ n) × Rise (n + 1) numbers

rise_lower : (low lower : ℕ) (numbers : List ℕ) → lower ≤ low → Rise low numbers → Rise lower numbers
rise_lower low lower [] le h = tt
rise_lower low lower (n ∷ numbers) le h = let first = h.0 in (omega (arith, le, first), h.1)

-- those still to come rise, behind the one that the cursor is on
abbrev pub Rises : CursorState → Type 0
Rises CursorState.closed = ⊤
Rises (CursorState.over_numbers numbers on) = Rise (unwrap_or on 0 + 1) numbers
Rises (CursorState.over_rows rows place) = ⊤

-- ---- FETCH, and a row that is gone

-- a cursor that is on no number below this one
record GoesOn (low : ℕ) (c : CursorState) : Type 0 where
  rises : Rises c
  further : (q : ℕ) → number_on c ≡ Some q → low ≤ q

next_goes_on : (now : ℕ → Option Row) (low : ℕ) (numbers : List ℕ) → Rise low numbers → GoesOn low (to_next now numbers).cursor
next_goes_on now low [] h = record { rises = tt; further = λ q e. cc }
next_goes_on now low (n ∷ numbers) h = by_row (next_goes_on now (n + 1) numbers h.1) (now n)
  where
    by_row : GoesOn (n + 1) (to_next now numbers).cursor → (o : Option Row) → GoesOn low (at_number numbers n (to_next now numbers) o).cursor
    by_row rest None = record {
      rises = rest.rises;
      further = λ q e. let first = h.0 in let more = rest.further q e in omega (arith, first, more);
    }
    by_row rest (Some row) = record { rises = h.1; further = λ q e. let same : n ≡ q = cc in subst (λ k. low ≤ k) same h.0 }

fetched_rises : (now : ℕ → Option Row) (move : Move) (c : CursorState) → Rises c → Rises (fetched now move c).cursor
fetched_rises now move CursorState.closed h = tt
fetched_rises now move (CursorState.over_numbers numbers on) h = (next_goes_on now (unwrap_or on 0 + 1) numbers h).rises
fetched_rises now move (CursorState.over_rows rows place) h = tt

off_rises : (c : CursorState) → Rises c → Rises (off_row c)
off_rises CursorState.closed h = tt
off_rises (CursorState.over_numbers numbers on) h = rise_lower (unwrap_or on 0 + 1) (0 + 1) numbers (omega arith) h
off_rises (CursorState.over_rows rows place) h = tt

-- ---- OPEN

abbrev numbers_in : List Numbered → List ℕ
numbers_in rows = map (λ r. r.number) rows

first_from : (low next : ℕ) (r : Numbered) (rows : List Numbered) → rising_between low (r ∷ rows) next ≡ true → low ≤ r.number
first_from low next r rows h = grind (arith, common_steps)

others_from : (low next : ℕ) (r : Numbered) (rows : List Numbered) → rising_between low (r ∷ rows) next ≡ true
    → rising_between (r.number + 1) rows next ≡ true
others_from low next r rows h = grind (arith, common_steps)

rows_rise : (low next : ℕ) (rows : List Numbered) → rising_between low rows next ≡ true → Rise low (numbers_in rows)
rows_rise low next [] h = tt
rows_rise low next (r ∷ rows) h = (first_from low next r rows h, rows_rise (r.number + 1) next rows (others_from low next r rows h))

kept_rise : (test : Numbered → Outcome Bool) (low : ℕ) (rows found : List Numbered) → Rise low (numbers_in rows) → kept test rows ≡ Ok found
    → Rise low (numbers_in found)
kept_rise test low [] found h e = let none : [] ≡ found = cc in subst (λ ys. Rise low (numbers_in ys)) none tt
kept_rise test low (x ∷ rows) found h e =
    let first = bind_ok (test x) _ found e in
    let others = bind_ok (kept test rows) (λ ys. Ok (if first.0 then x ∷ ys else ys)) found first.2 in
    let all : (if first.0 then x ∷ others.0 else others.0) ≡ found = cc in
    subst (λ ys. Rise low (numbers_in ys)) all (by_test first.0 others.0 (kept_rise test (x.number + 1) rows others.0 h.1 others.1))
  where
    by_test : (b : Bool) (ys : List Numbered) → Rise (x.number + 1) (numbers_in ys) → Rise low (numbers_in (if b then x ∷ ys else ys))
    by_test true ys others = (h.0, others)
    by_test false ys others = let first = h.0 in rise_lower (x.number + 1) low (numbers_in ys) (omega (arith, first)) others

chosen_rise : (m : Reading Named) (env : Env Item) (low : ℕ) (levels : List Level) (rows found : List Numbered) → Rise low (numbers_in rows)
    → chosen m env levels rows ≡ Ok found → Rise low (numbers_in found)
chosen_rise m env low [] rows found h e = let same : rows ≡ found = cc in subst (λ ys. Rise low (numbers_in ys)) same h
chosen_rise m env low (level ∷ levels) rows found h e =
    let some = bind_ok (kept (λ r. is_true (level_truth m env level r.row)) rows) (chosen m env levels) found e in
    chosen_rise m env low levels some.0 found (kept_rise (λ r. is_true (level_truth m env level r.row)) low rows some.0 h some.1) some.2

-- the rows of each table stand by rising numbers
abbrev pub TablesRise : Content → Type 0
TablesRise content = (place : ℕ) → has_rising_rows (table_at content place) ≡ true

opened_rises : (r : Running) (d : Cursor) (c : CursorState) → TablesRise r.state.tables → opened r d ≡ Ok c → Rises c
opened_rises r d c tables e = by_target (updatable_cursor (surroundings r) d) e
  where
    by_target : (o : Option Target) → numbers_or_rows r d o ≡ Ok c → Rises c
    by_target None e =
        let rows = bind_ok (cursor_rows r d) (λ found. Ok (before_rows found)) c e in
        let same : before_rows rows.0 ≡ c = cc in
        subst Rises same tt
    by_target (Some target) e =
        let numbers = bind_ok (chosen_numbers (reading_in (setting r)) (outer_env (setting r)) target (rows_at (setting r) target.place)) (λ ns. Ok (before_numbers ns)) c e in
        let found = bind_ok (chosen (reading_in (setting r)) (outer_env (setting r)) target.levels (rows_at (setting r) target.place)) (λ xs. Ok (numbers_in xs)) numbers.0 numbers.1 in
        let are : numbers_in found.0 ≡ numbers.0 = cc in
        let same : before_numbers numbers.0 ≡ c = cc in
        let rise = chosen_rise (reading_in (setting r)) (outer_env (setting r)) 1 target.levels (rows_at (setting r) target.place) found.0
        (rows_rise 1 (table_at r.state.tables target.place).next (rows_at (setting r) target.place) (tables target.place)) found.1 in
        let one : 1 ≡ unwrap_or None 0 + 1 = omega arith in
        subst Rises same (subst (λ low. Rise low numbers.0) one (subst (Rise 1) are rise))

-- ---- a call

abbrev pub CursorsRise : State → Type 0
CursorsRise s = (k name : Name) → Rises (cursor_at s k name)

set_rises : (r : Running) (x : Statement) (o : Outcomes) (name : Name) (c : CursorState) → TablesRise r.state.tables → Rises (cursor_now r name)
    → Set r x o name c → Rises c
set_rises r x o name c tables h (Set.closes is) = subst Rises (sym is) tt
set_rises r x o name c tables h (Set.opens st d named has done) = opened_rises r d c tables has
set_rises r x o name c tables h (Set.fetches was now move is) = subst Rises (sym is) (fetched_rises now move (cursor_now r name) h)
set_rises r x o name c tables h (Set.leaves is) = subst Rises (sym is) (off_rises (cursor_now r name) h)

module _ (p : Program) (s : State) (c : Call) (tables : TablesRise s.tables) (all : CursorsRise s) where
  same_cursors : (t : State) → t.cursors ≡ s.cursors → CursorsRise t
  same_cursors t e = λ k name. subst Rises (sym (ap (λ es. state_at es k name) e)) (all k name)

  by_turn : (m : ModuleText) (q : Procedure) (o : Outcomes) → stepped p s c ≡ o.0 → Turn (running p s c.values m q) q.statement o
      → CursorsRise (stepped p s c)
  by_turn m q o e (Turn.stays t) = same_cursors (stepped p s c) (ap (λ (x : State). x.cursors) e ∙ t)
  by_turn m q o e (Turn.all_close t) = λ k name.
      subst Rises (sym (ap (λ (x : State). state_at x.cursors k name) e ∙ ap (λ es. state_at es k name) t ∙ closed_found k name s.cursors)) tt
  by_turn m q o e (Turn.sets name x t set) = λ k other. by_name k other (set_or_not m.name name k other x s.cursors)
    where
      is_now : (k other : Name) → cursor_at (stepped p s c) k other ≡ state_at (map (set_cursor m.name name x) s.cursors) k other
      is_now k other = ap (λ (y : State). state_at y.cursors k other) e ∙ ap (λ es. state_at es k other) t

      by_name : (k other : Name) → (state_at (map (set_cursor m.name name x) s.cursors) k other ≡ state_at s.cursors k other)
          ⊎ ((k ≡ m.name) × (other ≡ name) × (state_at (map (set_cursor m.name name x) s.cursors) k other ≡ x))
          → Rises (cursor_at (stepped p s c) k other)
      by_name k other (inl h) = subst Rises (sym (is_now k other ∙ h)) (all k other)
      by_name k other (inr h) =
          subst Rises (sym (is_now k other ∙ h.2)) (set_rises (running p s c.values m q) q.statement o name x tables (all m.name name) set)

  -- The cursors of a state go on so.
  pub rises_after : CursorsRise (stepped p s c)
  rises_after = by_module (module_named p.modules c.in_module) refl
    where
      by_rules : (m : ModuleText) → module_named p.modules c.in_module ≡ Some m → (q : Procedure) → procedure_named m c.procedure ≡ Some q
          → (b : Bool) → is_well_formed_procedure p.elements m q ≡ b → CursorsRise (stepped p s c)
      by_rules m is_m q is_q true e =
          by_turn m q (performed (running p s c.values m q) q.statement)
          (ap (λ (o : Outcomes). o.0) (called_as p s c m is_m q is_q ∙ ap (λ b. performed_if b (running p s c.values m q)) e))
          (turn (running p s c.values m q) q.statement)
      by_rules m is_m q is_q false e =
          same_cursors (stepped p s c)
          (ap (λ (o : Outcomes). (o.0).cursors) (called_as p s c m is_m q is_q ∙ ap (λ b. performed_if b (running p s c.values m q)) e))

      by_procedure : (m : ModuleText) → module_named p.modules c.in_module ≡ Some m → (o : Option Procedure) → procedure_named m c.procedure ≡ o
          → CursorsRise (stepped p s c)
      by_procedure m is_m None e = same_cursors (stepped p s c) (ap (λ (o : Outcomes). (o.0).cursors) (no_procedure p s c m is_m e))
      by_procedure m is_m (Some q) e = by_rules m is_m q e (is_well_formed_procedure p.elements m q) refl

      by_module : (o : Option ModuleText) → module_named p.modules c.in_module ≡ o → CursorsRise (stepped p s c)
      by_module None e = same_cursors (stepped p s c) (ap (λ (o : Outcomes). (o.0).cursors) (no_module p s c e))
      by_module (Some m) e = by_procedure m e (procedure_named m c.procedure) refl

  -- ---- a call of FETCH

  module _ (m : ModuleText) (is_m : module_named p.modules c.in_module ≡ Some m) (q : Procedure) (is_q : procedure_named m c.procedure ≡ Some q)
      (sound : is_well_formed_procedure p.elements m q ≡ true) (f : Fetch) (fetches : q.statement ≡ statement.Fetch f) (d : Cursor)
      (named : cursor_named m f.cursor ≡ Some d) where
    abbrev r : Running
    r = running p s c.values m q

    abbrev old : CursorState
    old = cursor_at s m.name f.cursor

    abbrev now : ℕ → Option Row
    now = shown_now r (updatable_cursor (surroundings r) d)

    abbrev fetched_from : CursorState → Outcomes
    fetched_from x =
        if is_open x
        then fetch_to r f (fetched now (move_of r.parameters (orientation_of f)) x)
        else ends_with r status.InvalidCursorState

    fetch_is : stepped p s c ≡ (fetched_from old).0
    fetch_is =
        ap (λ (o : Outcomes). o.0) (called_as p s c m is_m q is_q ∙ ap (λ (b : Bool). performed_if b r) sound
        ∙ ap (performed r) fetches
        ∙ ap (λ (o : Option Cursor). unwrap_or (option_map (fetch_cursor r f) o) (ends_with r status.SyntaxErrorOrAccessRuleViolation)) named)

    by_state : (x : CursorState) → old ≡ x → Rises x → (number : ℕ) → number_on (cursor_at (stepped p s c) m.name f.cursor) ≡ Some number
        → unwrap_or (number_on x) 0 < number
    by_state CursorState.closed e h number on =
        let same : cursor_at (stepped p s c) m.name f.cursor ≡ CursorState.closed
        = ap (λ (y : State). cursor_at y m.name f.cursor) (fetch_is ∙ ap (λ x. (fetched_from x).0) e) ∙ e in
        let none : None ≡ Some number = sym (ap number_on same) ∙ on in
        cc
    by_state (CursorState.over_numbers numbers k) e h number on =
        let is : cursor_at (stepped p s c) m.name f.cursor ≡ (to_next now numbers).cursor
        = ap (λ (y : State). cursor_at y m.name f.cursor) (fetch_is ∙ ap (λ x. (fetched_from x).0) e)
        ∙ set_stays s.cursors m.name f.cursor (to_next now numbers).cursor (CursorState.over_numbers numbers k) e refl in
        let further = (next_goes_on now (unwrap_or k 0 + 1) numbers h).further number (sym (ap number_on is) ∙ on) in
        omega (arith, further)
    by_state (CursorState.over_rows rows place) e h number on =
        let reached = (fetched now (move_of r.parameters (orientation_of f)) (CursorState.over_rows rows place)).cursor in
        let is : cursor_at (stepped p s c) m.name f.cursor ≡ reached
        = ap (λ (y : State). cursor_at y m.name f.cursor) (fetch_is ∙ ap (λ x. (fetched_from x).0) e)
        ∙ set_stays s.cursors m.name f.cursor reached (CursorState.over_rows rows place) e refl in
        let none : None ≡ Some number = sym (ap number_on is) ∙ on in
        cc

    -- It comes to a row of a greater number than that of the row on which the cursor was.
    pub fetch_goes_on : (number : ℕ) → number_on (cursor_at (stepped p s c) m.name f.cursor) ≡ Some number → unwrap_or (number_on old) 0 < number
    fetch_goes_on = by_state old refl (all m.name f.cursor)

-- ---- at first

pub first_rise : (p : Program) → CursorsRise (first_state p)
first_rise p = λ k name. subst Rises (sym (first_closed p k name)) tt
