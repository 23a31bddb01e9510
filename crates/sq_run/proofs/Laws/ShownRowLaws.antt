-- A FETCH of an updatable cursor shows rows as they are now, whose numbers met the cursor's conditions when it was opened
-- (ISO/IEC 9075:1992, 13.2 and 13.3).
use Rattle.std.proofs.Common.{ap, inl, inr, subst, sym, ◌∙◌, append_assoc}
use Rattle.std.proofs.lemmas.List.{append-nil}
use Rattle.std.proofs.lemmas.List.Sums.{fold-append}
use Rattle.std.specs.Cmp.Lexicographic.{same_text}
use Rattle.std.specs.List.{AllByRecursion, IsAmong, list_any}
use Rattle.std.specs.Prelude.{◌≡◌, ◌⊎◌, ⊤, ℕ, Bool, true, false, ◌&&◌, ◌||◌, List, [], ◌∷◌, ◌++◌, map, find, flat_map, fold, if◌then◌else◌, Option, unwrap_or, option_map, refl, Some, None, Ok, Err}
use Rattle.sq_lex.specs.declared.name.Name.{Name}
use Rattle.sq_value.specs.Key.{in_columns}
use Rattle.sq_value.specs.declared.truth.Truth.{Truth}
use Rattle.sq_value.specs.declared.truth.Truth.TheVariants.{True, False, Unknown}
use Rattle.sq_store.specs.Content.{Content}
use Rattle.sq_store.specs.declared.table.Numbered.{Numbered}
use Rattle.sq_tree.specs.declared.module.Cursor.{Cursor}
use Rattle.sq_tree.specs.declared.module.ModuleText.{ModuleText}
use Rattle.sq_tree.specs.declared.module.Procedure.{Procedure}
use Rattle.sq_tree.specs.declared.statement.Statement.{Statement}
use Rattle.sq_tree.specs.declared.statement.Statement.TheVariants as statement
use Rattle.sq_tree.specs.declared.statement.Where.{Where}
use Rattle.sq_tree.specs.declared.statement.Where.TheVariants as rows_where
use Rattle.sq_meaning.specs.Environment.{Env, Item as FromItem, Row, same_name}
use Rattle.sq_meaning.specs.Expression.{Reading}
use Rattle.sq_meaning.specs.Query.{is_true}
use Rattle.sq_meaning.specs.Spelled.{Named, listed}
use Rattle.sq_meaning.specs.Status.{Outcome, kept}
use Rattle.sq_meaning.specs.Target.{Level, Target, chosen, chosen_numbers, level_truth}
use Rattle.sq_meaning.specs.declared.status.Status.TheVariants as status
use Rattle.sq_meaning.proofs.AnswerLaws.{all_flat_mapped, all_mapped, all_true, all_weaker}
use Rattle.sq_meaning.proofs.Bind.{bind_ok}
use Rattle.sq_meaning.specs.Change.{insert_outcome, outer_env, reading_in, rows_at}
use Rattle.sq_meaning.specs.Cursor.{CursorState, Fetched, Move, at_number, before_numbers, fetched, is_open, number_on, off_row, to_next}
use Rattle.sq_meaning.specs.Machine.{Call, CursorEntry, Outcomes, Program, Running, State, all_closed, behind_delete, change_by, cursor_at, cursor_now, delete_rows, ends_with, entries_of, fetch_cursor, fetch_reply, fetch_to, first_state, is_entry, move_of, moved, numbered_row, numbers_or_rows, open_by, open_cursor, opened, outcome, performed, performed_if, replied, running, set_cursor, setting, shown_now, stepped, surroundings, update_rows}
use Rattle.sq_meaning.specs.Module.{cursor_named, cursors, module_named, procedure_named}
use Rattle.sq_meaning.specs.Parameter.{replied_row, replied_with}
use Rattle.sq_meaning.specs.Run.{RunItem, after_item}
use Rattle.sq_meaning.specs.WellFormedStatement.{is_well_formed_procedure, orientation_of, updatable_cursor}
use Rattle.sq_run.specs.ShownRows.{FetchReply, FetchShowsRowsNow, Fetches, IsMet, StaysOpen, WasMet, performing, state_after}
use Rattle.sq_run.proofs.Laws.CalledAs.{called_as, no_module, no_procedure}
use Rattle.sq_run.proofs.Laws.FetchLaws.{set_stays}
use Rattle.sq_run.proofs.Laws.IntegrityLaws.{all_among}
use Rattle.sq_run.proofs.Steps.Projected.{closed_found, set_found, state_at, state_in, still_there}

-- ---- rows that are chosen meet the conditions

true_only : (o : Outcome Truth) → is_true o ≡ Ok true → o ≡ Ok True
true_only (Ok True) e = refl
true_only (Ok False) e = cc
true_only (Ok Unknown) e = cc
true_only (Err s) e = cc

kept_true : {A : Type 0} (P : A → Type 0) (test : A → Outcome Bool) (xs ys : List A) → AllByRecursion P xs → kept test xs ≡ Ok ys
    → AllByRecursion (λ x. P x × (test x ≡ Ok true)) ys
kept_true P test [] ys p e = let none : [] ≡ ys = cc in subst (AllByRecursion (λ x. P x × (test x ≡ Ok true))) none tt
kept_true {A} P test (x ∷ xs) ys p e =
    let first = bind_ok (test x) _ ys e in
    let others = bind_ok (kept test xs) (λ zs. Ok (if first.0 then x ∷ zs else zs)) ys first.2 in
    let all : (if first.0 then x ∷ others.0 else others.0) ≡ ys = cc in
    subst (AllByRecursion (λ y. P y × (test y ≡ Ok true))) all (chosen_if first.0 first.1 others.0 (kept_true P test xs others.0 p.1 others.1))
  where
    chosen_if : (b : Bool) → test x ≡ Ok b → (zs : List A) → AllByRecursion (λ y. P y × (test y ≡ Ok true)) zs
        → AllByRecursion (λ y. P y × (test y ≡ Ok true)) (if b then x ∷ zs else zs)
    chosen_if true e zs h = ((p.0, e), h)
    chosen_if false e zs h = h

module _ (m : Reading Named) (env : Env FromItem) where
  abbrev AllMet : List Level → Row → Type 0
  AllMet levels row = AllByRecursion (λ level. level_truth m env level row ≡ Ok True) levels

  chosen_met : (P : Numbered → Type 0) (levels : List Level) (rows found : List Numbered) → AllByRecursion P rows
      → chosen m env levels rows ≡ Ok found → AllByRecursion (λ r. P r × AllMet levels r.row) found
  chosen_met P [] rows found p e =
      let same : rows ≡ found = cc in subst (AllByRecursion (λ r. P r × ⊤)) same (all_weaker P (λ r. P r × ⊤) (λ r h. (h, tt)) rows p)
  chosen_met P (level ∷ levels) rows found p e =
      let some = bind_ok (kept (λ r. is_true (level_truth m env level r.row)) rows) (chosen m env levels) found e in
      let passed = kept_true P (λ r. is_true (level_truth m env level r.row)) rows some.0 p some.1 in
      let Q : Numbered → Type 0 = λ r. P r × (is_true (level_truth m env level r.row) ≡ Ok true) in
      all_weaker (λ r. Q r × AllMet levels r.row) (λ r. P r × AllMet (level ∷ levels) r.row)
      (λ r h. ((h.0).0, (true_only (level_truth m env level r.row) (h.0).1, h.1))) found
      (chosen_met Q levels some.0 found passed some.2)

numbers_met : (r : Running) (target : Target) (numbers : List ℕ)
    → chosen_numbers (reading_in (setting r)) (outer_env (setting r)) target (rows_at (setting r) target.place) ≡ Ok numbers
    → AllByRecursion (IsMet r target) numbers
numbers_met r target numbers e =
    let rows : List Numbered = rows_at (setting r) target.place in
    let found = bind_ok (chosen (reading_in (setting r)) (outer_env (setting r)) target.levels rows) (λ xs. Ok (map (λ x. x.number) xs)) numbers e in
    let same : map (λ x. x.number) found.0 ≡ numbers = cc in
    let met = chosen_met (reading_in (setting r)) (outer_env (setting r)) (IsAmong rows) target.levels rows found.0 (all_among rows) found.1 in
    subst (AllByRecursion (IsMet r target)) same
    (all_mapped (λ x. IsAmong rows x × AllMet (reading_in (setting r)) (outer_env (setting r)) target.levels x.row) (IsMet r target) (λ x. x.number)
    (λ x h. record { row = x; is_there = h.0; numbered = refl; conditions = h.1 }) found.0 met)

-- ---- what a statement makes of cursors

-- where one is set: it is closed, or opened, or a FETCH goes on with it, or it is on no row any more
pub data Set (r : Running) (x : Statement) (o : Outcomes) (name : Name) (c : CursorState) : Type 0 where
  closes : c ≡ CursorState.closed → Set r x o name c
  opens : x ≡ statement.Open name → (d : Cursor) → cursor_named r.in_module name ≡ Some d → opened r d ≡ Ok c
      → o.1 ≡ replied_with status.SuccessfulCompletion → Set r x o name c
  fetches : is_open (cursor_now r name) ≡ true → (now : ℕ → Option Row) (move : Move) → c ≡ (fetched now move (cursor_now r name)).cursor → Set r x o name c
  leaves : c ≡ off_row (cursor_now r name) → Set r x o name c

pub data Turn (r : Running) (x : Statement) (o : Outcomes) : Type 0 where
  stays : (o.0).cursors ≡ r.state.cursors → Turn r x o
  all_close : (o.0).cursors ≡ all_closed r.state.cursors → Turn r x o
  sets : (name : Name) (c : CursorState) → (o.0).cursors ≡ map (set_cursor r.in_module.name name c) r.state.cursors → Set r x o name c → Turn r x o

turn_named : (r : Running) (x : Statement) (c : Option Cursor) (f : Cursor → Outcomes) → ((d : Cursor) → c ≡ Some d → Turn r x (f d))
    → Turn r x (unwrap_or (option_map f c) (ends_with r status.SyntaxErrorOrAccessRuleViolation))
turn_named r x None f h = Turn.stays refl
turn_named r x (Some d) f h = h d refl

turn_if : (r : Running) (x : Statement) (b : Bool) (o p : Outcomes) → (b ≡ true → Turn r x o) → Turn r x p → Turn r x (if b then o else p)
turn_if r x true o p g h = g refl
turn_if r x false o p g h = h

turn_open : (r : Running) (name : Name) (d : Cursor) → cursor_named r.in_module name ≡ Some d → (o : Outcome CursorState) → opened r d ≡ o
    → Turn r (statement.Open name) (open_by r name o)
turn_open r name d named (Ok c) e = Turn.sets name c refl (Set.opens refl d named e refl)
turn_open r name d named (Err s) e = Turn.stays refl

turn_change : (r : Running) (x : Statement) (o : Outcome Content) → Turn r x (change_by r r.state o)
turn_change r x (Ok content) = Turn.stays refl
turn_change r x (Err s) = Turn.stays refl

turn_delete : (r : Running) (x : Statement) (w : Option Where) (o : Outcome Content) → Turn r x (change_by r (behind_delete r w) o)
turn_delete r x None o = turn_change r x o
turn_delete r x (Some (rows_where.Condition c)) o = turn_change r x o
turn_delete r x (Some (rows_where.CurrentOf cursor)) (Ok content) = Turn.sets cursor (off_row (cursor_now r cursor)) refl (Set.leaves refl)
turn_delete r x (Some (rows_where.CurrentOf cursor)) (Err s) = Turn.stays refl

pub turn : (r : Running) (x : Statement) → Turn r x (performed r x)
turn r (statement.Open name) =
    turn_named r (statement.Open name) (cursor_named r.in_module name) (open_cursor r name)
    (λ d e. turn_if r (statement.Open name) (is_open (cursor_now r name)) (ends_with r status.InvalidCursorState) (open_by r name (opened r d)) (λ h. Turn.stays refl) (turn_open r name d e (opened r d) refl))
turn r (statement.Fetch f) =
    turn_named r (statement.Fetch f) (cursor_named r.in_module f.cursor) (fetch_cursor r f)
    (λ d e. turn_if r (statement.Fetch f) (is_open (cursor_now r f.cursor))
    (fetch_to r f (fetched (shown_now r (updatable_cursor (surroundings r) d)) (move_of r.parameters (orientation_of f)) (cursor_now r f.cursor)))
    (ends_with r status.InvalidCursorState)
    (λ h. Turn.sets f.cursor (fetched (shown_now r (updatable_cursor (surroundings r) d)) (move_of r.parameters (orientation_of f)) (cursor_now r f.cursor)).cursor refl
    (Set.fetches h (shown_now r (updatable_cursor (surroundings r) d)) (move_of r.parameters (orientation_of f)) refl)) (Turn.stays refl))
turn r (statement.Close name) =
    turn_if r (statement.Close name) (is_open (cursor_now r name)) (moved r name CursorState.closed, replied_with status.SuccessfulCompletion) (ends_with r status.InvalidCursorState)
    (λ h. Turn.sets name CursorState.closed refl (Set.closes refl)) (Turn.stays refl)
turn r (statement.Select s) = Turn.stays refl
turn r (statement.Insert i) = turn_change r (statement.Insert i) (insert_outcome (setting r) i)
turn r (statement.Update u) = turn_change r (statement.Update u) (update_rows r u)
turn r (statement.Delete x) = turn_delete r (statement.Delete x) x.target (delete_rows r x)
turn r (statement.Commit work) = Turn.all_close refl
turn r (statement.Rollback work) = Turn.all_close refl

-- ---- what is found under a name

none_named : {A : Type 0} (test : A → Bool) (xs : List A) → list_any test xs ≡ false → find test xs ≡ None
none_named test [] e = refl
none_named {A} test (x ∷ xs) e = by_test (test x) e (none_named test xs)
  where
    by_test : (b : Bool) → (b || list_any test xs) ≡ false → (list_any test xs ≡ false → find test xs ≡ None) → (if b then Some x else find test xs) ≡ None
    by_test true e h = cc
    by_test false e h = h e

-- where a cursor is set, each is as it was, but for that one
pub set_or_not : (m name k other : Name) (c : CursorState) (es : List CursorEntry)
    → (state_at (map (set_cursor m name c) es) k other ≡ state_at es k other)
    ⊎ ((k ≡ m) × (other ≡ name) × (state_at (map (set_cursor m name c) es) k other ≡ c))
set_or_not m name k other c es = by_there (list_any (is_entry k other) es) refl
  where
    by_names : (a b : Bool) → same_name k m ≡ a → same_name other name ≡ b
        → state_at (map (set_cursor m name c) es) k other ≡ (if a && b then c else state_at es k other)
        → (state_at (map (set_cursor m name c) es) k other ≡ state_at es k other)
        ⊎ ((k ≡ m) × (other ≡ name) × (state_at (map (set_cursor m name c) es) k other ≡ c))
    by_names true true e f h = inr (same_text k m (sym e), same_text other name (sym f), h)
    by_names true false e f h = inl h
    by_names false b e f h = inl h

    by_there : (b : Bool) → list_any (is_entry k other) es ≡ b
        → (state_at (map (set_cursor m name c) es) k other ≡ state_at es k other)
        ⊎ ((k ≡ m) × (other ≡ name) × (state_at (map (set_cursor m name c) es) k other ≡ c))
    by_there true e = by_names (same_name k m) (same_name other name) refl refl (set_found m name k other c es e)
    by_there false e =
        inl (ap state_in (none_named (is_entry k other) (map (set_cursor m name c) es) (still_there m name k other c es ∙ e))
        ∙ sym (ap state_in (none_named (is_entry k other) es e)))

-- where all are closed
closed_at : (k other : Name) (es : List CursorEntry) → AllByRecursion (λ e. e.state ≡ CursorState.closed) es → state_at es k other ≡ CursorState.closed
closed_at k other [] h = refl
closed_at k other (e ∷ es) h = by_test (is_entry k other e) (closed_at k other es h.1)
  where
    by_test : (b : Bool) → state_at es k other ≡ CursorState.closed → state_in (if b then Some e else find (is_entry k other) es) ≡ CursorState.closed
    by_test true others = h.0
    by_test false others = others

pub first_closed : (p : Program) (k other : Name) → cursor_at (first_state p) k other ≡ CursorState.closed
first_closed p k other =
    closed_at k other (flat_map entries_of p.modules)
    (all_flat_mapped (λ x. ⊤) (λ e. e.state ≡ CursorState.closed) entries_of
    (λ x t. all_mapped (λ c. ⊤) (λ e. e.state ≡ CursorState.closed) (λ c. record { in_module = x.name; name = c.name; state = CursorState.closed }) (λ c u. refl) (cursors x) (all_true (cursors x)))
    p.modules (all_true p.modules))

-- ---- what is kept of each updatable cursor

-- A cursor over numbers of which P holds goes on over such.
abbrev Over : (ℕ → Type 0) → CursorState → Type 0
Over P CursorState.closed = ⊤
Over P (CursorState.over_numbers numbers on) = AllByRecursion P numbers
Over P (CursorState.over_rows rows place) = ⊥

-- what comes next, if anything does
data Next (P : ℕ → Type 0) (now : ℕ → Option Row) (f : Fetched) : Type 0 where
  none : f.row ≡ None → Over P f.cursor → Next P now f
  some : (number : ℕ) (behind : List ℕ) (row : Row) → P number → now number ≡ Some row → AllByRecursion P behind
      → f ≡ record { cursor = CursorState.over_numbers behind (Some number); row = Some row } → Next P now f

next_is : (P : ℕ → Type 0) (now : ℕ → Option Row) (numbers : List ℕ) → AllByRecursion P numbers → Next P now (to_next now numbers)
next_is P now [] h = Next.none refl tt
next_is P now (n ∷ numbers) h = by_row (next_is P now numbers h.1) (now n) refl
  where
    by_row : Next P now (to_next now numbers) → (o : Option Row) → now n ≡ o → Next P now (at_number numbers n (to_next now numbers) o)
    by_row further None e = further
    by_row further (Some row) e = Next.some n numbers row h.0 e h.1 refl

over_next : (P : ℕ → Type 0) (now : ℕ → Option Row) (f : Fetched) → Next P now f → Over P f.cursor
over_next P now f (Next.none e h) = h
over_next P now f (Next.some n behind row h e all same) = subst (λ (g : Fetched). Over P g.cursor) (sym same) all

over_fetched : (P : ℕ → Type 0) (now : ℕ → Option Row) (move : Move) (c : CursorState) → Over P c → Over P (fetched now move c).cursor
over_fetched P now move CursorState.closed h = tt
over_fetched P now move (CursorState.over_numbers numbers on) h = over_next P now (to_next now numbers) (next_is P now numbers h)
over_fetched P now move (CursorState.over_rows rows place) h = absurd h

over_off : (P : ℕ → Type 0) (c : CursorState) → Over P c → Over P (off_row c)
over_off P CursorState.closed h = tt
over_off P (CursorState.over_numbers numbers on) h = h
over_off P (CursorState.over_rows rows place) h = absurd h

over_weaker : (P Q : ℕ → Type 0) (c : CursorState) → (is_open c ≡ true → (n : ℕ) → P n → Q n) → Over P c → Over Q c
over_weaker P Q CursorState.closed f h = tt
over_weaker P Q (CursorState.over_numbers numbers on) f h = all_weaker P Q (f refl) numbers h
over_weaker P Q (CursorState.over_rows rows place) f h = absurd h

some_same : {A : Type 0} (x y : A) → Some x ≡ Some y → x ≡ y
some_same x y e = cc

module _ (p : Program) where
  abbrev updatable : ModuleText → Cursor → Option Target
  updatable m d = updatable_cursor (record { elements = p.elements; in_module = m; parameters = [] }) d

  abbrev now_at : List RunItem → ModuleText → Name → CursorState
  now_at items m name = cursor_at (state_after p items) m.name name

  -- where the cursor of this name is updatable, it is over numbers that met its conditions
  abbrev IsKept : List RunItem → ModuleText → Name → CursorState → Type 0
  IsKept items m name c = (d : Cursor) (target : Target) → cursor_named m name ≡ Some d → updatable m d ≡ Some target
      → Over (WasMet p items m name target) c

  abbrev AllKept : List RunItem → Type 0
  AllKept items = (m : ModuleText) (name : Name) → module_named p.modules m.name ≡ Some m → IsKept items m name (now_at items m name)

  -- ---- one item more

  stays_open : (k name : Name) (s : State) (later : List RunItem) (i : RunItem) → StaysOpen p k name s later
      → is_open (cursor_at (fold (after_item p) s (later ++ i ∷ [])) k name) ≡ true → StaysOpen p k name s (later ++ i ∷ [])
  stays_open k name s [] i h e = (h, e)
  stays_open k name s (j ∷ later) i h e = (h.0, stays_open k name (after_item p s j) later i h.1 e)

  still_met : (items : List RunItem) (i : RunItem) (m : ModuleText) (name : Name) (target : Target) → is_open (now_at (items ++ i ∷ []) m name) ≡ true
      → (n : ℕ) → WasMet p items m name target n → WasMet p (items ++ i ∷ []) m name target n
  still_met items i m name target open_now n w =
      let are : items ++ i ∷ [] ≡ w.earlier ++ RunItem.call w.opening ∷ (w.later ++ i ∷ [])
      = ap (λ xs. xs ++ i ∷ []) w.are ∙ append_assoc w.earlier (RunItem.call w.opening ∷ w.later) (i ∷ []) in
      let state : state_after p (items ++ i ∷ []) ≡ fold (after_item p) (stepped p (state_after p w.earlier) w.opening) (w.later ++ i ∷ [])
      = ap (state_after p) are ∙ fold-append (after_item p) (first_state p) w.earlier (RunItem.call w.opening ∷ (w.later ++ i ∷ [])) in
      record {
        earlier = w.earlier;
        opening = w.opening;
        later = w.later ++ i ∷ [];
        are = are;
        procedure = w.procedure;
        is_in_module = w.is_in_module;
        is_procedure = w.is_procedure;
        opens = w.opens;
        done = w.done;
        met = w.met;
        open_since =
            stays_open m.name name (stepped p (state_after p w.earlier) w.opening) w.later i w.open_since
            (ap (λ (s : State). is_open (cursor_at s m.name name)) (sym state) ∙ open_now);
      }

  -- a cursor that is now what one over numbers that met them makes of it
  kept_as : (items : List RunItem) (i : RunItem) (m : ModuleText) (name : Name) (c : CursorState) → now_at (items ++ i ∷ []) m name ≡ c
      → IsKept items m name c → IsKept (items ++ i ∷ []) m name (now_at (items ++ i ∷ []) m name)
  kept_as items i m name c e h = λ d target named is.
      subst (Over (WasMet p (items ++ i ∷ []) m name target)) (sym e)
      (over_weaker (WasMet p items m name target) (WasMet p (items ++ i ∷ []) m name target) c
      (λ is_now. still_met items i m name target (ap is_open e ∙ is_now)) (h d target named is))

  -- a cursor that a call has just opened
  module _ (items : List RunItem) (c : Call) (m : ModuleText) (is_m : module_named p.modules c.in_module ≡ Some m) (q : Procedure)
      (is_q : procedure_named m c.procedure ≡ Some q) where
    abbrev run : Running
    run = running p (state_after p items) c.values m q

    abbrev next : List RunItem
    next = items ++ RunItem.call c ∷ []

    next_state : state_after p next ≡ stepped p (state_after p items) c
    next_state = fold-append (after_item p) (first_state p) items (RunItem.call c ∷ [])

    just_met : (name : Name) (target : Target) → q.statement ≡ statement.Open name
        → replied p (state_after p items) c ≡ replied_with status.SuccessfulCompletion → is_open (now_at next m name) ≡ true → (n : ℕ)
        → IsMet run target n → WasMet p next m name target n
    just_met name target is_open_of done open_now n met = record {
      earlier = items;
      opening = c;
      later = [];
      are = refl;
      procedure = q;
      is_in_module = is_m;
      is_procedure = is_q;
      opens = is_open_of;
      done = done;
      met = met;
      open_since = ap (λ (s : State). is_open (cursor_at s m.name name)) (sym next_state) ∙ open_now;
    }

    just_opened : (name : Name) (d e : Cursor) (target : Target) (x : CursorState) → q.statement ≡ statement.Open name
        → replied p (state_after p items) c ≡ replied_with status.SuccessfulCompletion → now_at next m name ≡ x
        → cursor_named m name ≡ Some d → opened run d ≡ Ok x → cursor_named m name ≡ Some e → updatable m e ≡ Some target
        → Over (WasMet p next m name target) x
    just_opened name d e target x is_open_of done is_now named has_opened also is =
        let same : d ≡ e = some_same d e (sym named ∙ also) in
        let has : numbers_or_rows run e (Some target) ≡ Ok x
        = ap (numbers_or_rows run e) (sym is) ∙ sym (ap (opened run) same) ∙ has_opened in
        let numbers = bind_ok (chosen_numbers (reading_in (setting run)) (outer_env (setting run)) target (rows_at (setting run) target.place)) (λ ns. Ok (before_numbers ns)) x has in
        let over : before_numbers numbers.0 ≡ x = cc in
        let open_now : is_open (now_at next m name) ≡ true = ap is_open (is_now ∙ sym over) in
        subst (Over (WasMet p next m name target)) over
        (all_weaker (IsMet run target) (WasMet p next m name target) (just_met name target is_open_of done open_now) numbers.0
        (numbers_met run target numbers.0 numbers.1))

    set_kept : (o : Outcomes) → outcome p (state_after p items) c ≡ o → (name : Name) (x : CursorState) → now_at next m name ≡ x
        → IsKept items m name (now_at items m name) → Set run q.statement o name x → IsKept next m name (now_at next m name)
    set_kept o out name x e h (Set.closes is) = kept_as items (RunItem.call c) m name CursorState.closed (e ∙ is) (λ d target named updates. tt)
    set_kept o out name x e h (Set.opens is_open_of d named has_opened done) = λ f target also is.
        subst (Over (WasMet p next m name target)) (sym e)
        (just_opened name d f target x is_open_of (ap (λ (y : Outcomes). y.1) out ∙ done) e named has_opened also is)
    set_kept o out name x e h (Set.fetches was_open now move is) =
        kept_as items (RunItem.call c) m name (fetched now move (now_at items m name)).cursor (e ∙ is)
        (λ d target named updates. over_fetched (WasMet p items m name target) now move (now_at items m name) (h d target named updates))
    set_kept o out name x e h (Set.leaves is) =
        kept_as items (RunItem.call c) m name (off_row (now_at items m name)) (e ∙ is)
        (λ d target named updates. over_off (WasMet p items m name target) (now_at items m name) (h d target named updates))

    -- every cursor, after the call
    turned : (o : Outcomes) → outcome p (state_after p items) c ≡ o → AllKept items → module_named p.modules m.name ≡ Some m → Turn run q.statement o → AllKept next
    turned o out all own (Turn.stays e) k name is_k =
        kept_as items (RunItem.call c) k name (now_at items k name)
        (ap (λ (s : State). cursor_at s k.name name) (next_state ∙ ap (λ (y : Outcomes). y.0) out) ∙ ap (λ es. state_at es k.name name) e) (all k name is_k)
    turned o out all own (Turn.all_close e) k name is_k =
        kept_as items (RunItem.call c) k name CursorState.closed
        (ap (λ (s : State). cursor_at s k.name name) (next_state ∙ ap (λ (y : Outcomes). y.0) out) ∙ ap (λ es. state_at es k.name name) e
        ∙ closed_found k.name name (state_after p items).cursors) (λ d target named updates. tt)
    turned o out all own (Turn.sets other x e set) k name is_k = by_names (set_or_not m.name other k.name name x (state_after p items).cursors)
      where
        is_next : (j n : Name) → cursor_at (state_after p next) j n ≡ state_at (map (set_cursor m.name other x) (state_after p items).cursors) j n
        is_next j n =
            ap (λ (s : State). cursor_at s j n) (next_state ∙ ap (λ (y : Outcomes). y.0) out) ∙ ap (λ es. state_at es j n) e

        by_names : (state_at (map (set_cursor m.name other x) (state_after p items).cursors) k.name name ≡ state_at (state_after p items).cursors k.name name)
            ⊎ ((k.name ≡ m.name) × (name ≡ other) × (state_at (map (set_cursor m.name other x) (state_after p items).cursors) k.name name ≡ x))
            → IsKept next k name (now_at next k name)
        by_names (inl h) = kept_as items (RunItem.call c) k name (now_at items k name) (is_next k.name name ∙ h) (all k name is_k)
        by_names (inr h) =
            let same : m ≡ k = some_same m k (sym own ∙ ap (module_named p.modules) (sym h.0) ∙ is_k) in
            let set_now : now_at next m other ≡ x = is_next m.name other ∙ sym (λ i. state_at (map (set_cursor m.name other x) (state_after p items).cursors) (h.0 i) (h.1 i)) ∙ h.2 in
            subst (λ (n : Name). IsKept next k n (now_at next k n)) (sym h.1)
            (subst (λ (j : ModuleText). IsKept next j other (now_at next j other)) same
            (set_kept o out other x set_now (all m other own) set))

  -- ---- every item

  found_passes : {A : Type 0} (test : A → Bool) (xs : List A) (x : A) → find test xs ≡ Some x → test x ≡ true
  found_passes test [] x e = cc
  found_passes {A} test (y ∷ ys) x e = by_test (test y) refl e (found_passes test ys x)
    where
      by_test : (b : Bool) → test y ≡ b → (if b then Some y else find test ys) ≡ Some x → (find test ys ≡ Some x → test x ≡ true) → test x ≡ true
      by_test true is e h = ap test (sym (some_same y x e)) ∙ is
      by_test false is e h = h e

  -- a module is found by its own name
  own_name : (name : Name) (m : ModuleText) → module_named p.modules name ≡ Some m → module_named p.modules m.name ≡ Some m
  own_name name m e =
      let same : m.name ≡ name = same_text m.name name (sym (found_passes (λ x. same_name x.name name) p.modules m e)) in
      ap (module_named p.modules) same ∙ e

  first_kept : AllKept []
  first_kept = λ m name is_m d target named is. subst (Over (WasMet p [] m name target)) (sym (first_closed p m.name name)) tt

  unchanged : (items : List RunItem) → AllKept items → (i : RunItem) → after_item p (state_after p items) i ≡ state_after p items → AllKept (items ++ i ∷ [])
  unchanged items all i e = λ m name is_m.
      kept_as items i m name (now_at items m name)
      (ap (λ (s : State). cursor_at s m.name name) (fold-append (after_item p) (first_state p) items (i ∷ []) ∙ e)) (all m name is_m)

  call_kept : (items : List RunItem) → AllKept items → (c : Call) → AllKept (items ++ RunItem.call c ∷ [])
  call_kept items all c = by_module (module_named p.modules c.in_module) refl
    where
      s : State
      s = state_after p items

      by_rules : (m : ModuleText) → module_named p.modules c.in_module ≡ Some m → (q : Procedure) → procedure_named m c.procedure ≡ Some q
          → (b : Bool) → is_well_formed_procedure p.elements m q ≡ b → AllKept (items ++ RunItem.call c ∷ [])
      by_rules m is_m q is_q true e =
          turned items c m is_m q is_q (performed (running p s c.values m q) q.statement)
          (called_as p s c m is_m q is_q ∙ ap (λ b. performed_if b (running p s c.values m q)) e) all (own_name c.in_module m is_m)
          (turn (running p s c.values m q) q.statement)
      by_rules m is_m q is_q false e =
          unchanged items all (RunItem.call c)
          (ap (λ (o : Outcomes). o.0) (called_as p s c m is_m q is_q ∙ ap (λ b. performed_if b (running p s c.values m q)) e))

      by_procedure : (m : ModuleText) → module_named p.modules c.in_module ≡ Some m → (o : Option Procedure) → procedure_named m c.procedure ≡ o
          → AllKept (items ++ RunItem.call c ∷ [])
      by_procedure m is_m None e = unchanged items all (RunItem.call c) (ap (λ (o : Outcomes). o.0) (no_procedure p s c m is_m e))
      by_procedure m is_m (Some q) e = by_rules m is_m q e (is_well_formed_procedure p.elements m q) refl

      by_module : (o : Option ModuleText) → module_named p.modules c.in_module ≡ o → AllKept (items ++ RunItem.call c ∷ [])
      by_module None e = unchanged items all (RunItem.call c) (ap (λ (o : Outcomes). o.0) (no_module p s c e))
      by_module (Some m) e = by_procedure m e (procedure_named m c.procedure) refl

  item_kept : (items : List RunItem) → AllKept items → (i : RunItem) → AllKept (items ++ i ∷ [])
  item_kept items all (RunItem.call c) = call_kept items all c
  item_kept items all (RunItem.show name) = unchanged items all (RunItem.show name) refl

  kept_along : (done todo : List RunItem) → AllKept done → AllKept (done ++ todo)
  kept_along done [] all = subst AllKept (sym (append-nil done)) all
  kept_along done (i ∷ todo) all =
      subst AllKept (append_assoc done (i ∷ []) todo) (kept_along (done ++ i ∷ []) todo (item_kept done all i))

  -- After any items each updatable cursor is closed, or over numbers that met its conditions when it was opened.
  pub always_kept : (items : List RunItem) → AllKept items
  always_kept items = kept_along [] items first_kept

  -- ---- FETCH

  module _ (items : List RunItem) (c : Call) (is : Fetches p c) where
    abbrev s : State
    s = state_after p items

    abbrev r : Running
    r = performing p items c is

    abbrev now : ℕ → Option Row
    now = shown_now r (Some is.target)

    abbrev move : Move
    move = move_of r.parameters (orientation_of is.fetch)

    abbrev old : CursorState
    old = now_at items is.in_module is.fetch.cursor

    abbrev fetched_from : CursorState → Outcomes
    fetched_from x = if is_open x then fetch_to r is.fetch (fetched now move x) else ends_with r status.InvalidCursorState

    fetch_is : outcome p s c ≡ fetched_from old
    fetch_is =
        called_as p s c is.in_module is.is_in_module is.procedure is.is_procedure ∙ ap (λ (b : Bool). performed_if b r) is.is_sound
        ∙ ap (performed r) is.statement_is
        ∙ ap (λ (o : Option Cursor). unwrap_or (option_map (fetch_cursor r is.fetch) o) (ends_with r status.SyntaxErrorOrAccessRuleViolation)) is.is_cursor
        ∙ ap (λ (o : Option Target). if is_open old then fetch_to r is.fetch (fetched (shown_now r o) move old) else ends_with r status.InvalidCursorState) is.is_updatable

    shown_row : (number : ℕ) (shown : Row) → now number ≡ Some shown
        → (row : Row) × (numbered_row (setting r) is.target.place number ≡ Some row) × (in_columns row is.target.columns ≡ shown)
    shown_row number shown e = by_row (numbered_row (setting r) is.target.place number) refl e
      where
        by_row : (o : Option Row) → numbered_row (setting r) is.target.place number ≡ o → option_map (λ row. in_columns row is.target.columns) o ≡ Some shown
            → (row : Row) × (numbered_row (setting r) is.target.place number ≡ Some row) × (in_columns row is.target.columns ≡ shown)
        by_row None at f = cc
        by_row (Some row) at f = (row, at, some_same (in_columns row is.target.columns) shown f)

    by_next : (numbers : List ℕ) (on : Option ℕ) → old ≡ CursorState.over_numbers numbers on
        → Next (WasMet p items is.in_module is.fetch.cursor is.target) now (to_next now numbers) → FetchReply p items c is
    by_next numbers on e (Next.none no_row h) =
        FetchReply.no_row (ap (λ (o : Outcomes). o.1) (fetch_is ∙ ap fetched_from e) ∙ ap (fetch_reply r is.fetch) no_row)
    by_next numbers on e (Next.some number behind shown met there all same) =
        let found = shown_row number shown there in
        let done : outcome p s c ≡ fetch_to r is.fetch (record { cursor = CursorState.over_numbers behind (Some number); row = Some shown })
        = fetch_is ∙ ap fetched_from e ∙ ap (fetch_to r is.fetch) same in
        FetchReply.shows (record {
          number = number;
          row = found.0;
          is_now = found.1;
          reply = ap (λ (o : Outcomes). o.1) done ∙ ap (λ x. replied_row r.parameters (listed is.fetch.targets) x) (sym found.2);
          was_met = met;
          is_on =
              ap (λ (o : Outcomes). number_on (cursor_at o.0 is.in_module.name is.fetch.cursor)) done
              ∙ ap number_on (set_stays s.cursors is.in_module.name is.fetch.cursor (CursorState.over_numbers behind (Some number)) (CursorState.over_numbers numbers on) e refl);
        })

    by_state : (x : CursorState) → old ≡ x → Over (WasMet p items is.in_module is.fetch.cursor is.target) x → FetchReply p items c is
    by_state CursorState.closed e h = FetchReply.not_open (ap (λ (o : Outcomes). o.1) (fetch_is ∙ ap fetched_from e))
    by_state (CursorState.over_numbers numbers on) e h =
        by_next numbers on e (next_is (WasMet p items is.in_module is.fetch.cursor is.target) now numbers h)
    by_state (CursorState.over_rows rows place) e h = absurd h

    fetch_shows : FetchReply p items c is
    fetch_shows =
        by_state old refl
        (always_kept items is.in_module is.fetch.cursor (own_name c.in_module is.in_module is.is_in_module) is.cursor is.target is.is_cursor is.is_updatable)

pub fetch_shows_rows_now : (p : Program) → FetchShowsRowsNow p
unfolding FetchShowsRowsNow
fetch_shows_rows_now p = λ items c is. fetch_shows p items c is
