-- UPDATE keeps what the states of a session and of the machine are to each other, and ends alike (ISO/IEC
-- 9075:1992, 13.9 and 13.10), where it comes to the same tables or the same status. Rows keep their
-- numbers; a walk that is listed goes on over the numbers that were left to it, and any other has the same rows.
use Rattle.std.proofs.Common.{◌≡◌, ℕ, zero, suc, ◌≤◌, Bool, true, false, cond, List, [], ◌∷◌, drop, filter, map, Option, Some, refl, sym, ap, subst, ◌∙◌, eqb-true, Ok}
use Rattle.std.specs.Prelude.{◌==◌, find, if◌then◌else◌, is_some, nat_eq, slice_set, unwrap_or}
use Rattle.sq_tree.specs.declared.statement.Update.{Update}
use Rattle.sq_value.specs.declared.value.Value.{Value}
use Rattle.sq_store.specs.Content.{Content, table_at, with_table}
use Rattle.sq_store.specs.Rising.{has_rising_rows}
use Rattle.sq_store.specs.declared.table.Numbered.{Numbered}
use Rattle.sq_meaning.specs.Status.{Outcome}
use Rattle.sq_meaning.specs.Change.{Which, replaced, update_outcome, with_replaced}
use Rattle.sq_meaning.specs.Cursor as machine
use Rattle.sq_meaning.specs.Machine.{CursorEntry, Running, change_by, setting, update_rows}
use Rattle.sq_bound.specs.declared.statement.BoundUpdate.{BoundUpdate}
use Rattle.sq_module.specs.declared.program.DeclaredCursor.{DeclaredCursor}
use Rattle.sq_change.specs.Statement.{base_of}
use Rattle.sq_session.specs.Cursors.{go_on, goes_on, is_listed, listed, numbers_left}
use Rattle.sq_session.specs.Kind.{Updating, conditions_in}
use Rattle.sq_session.specs.Schemas.{Schemas}
use Rattle.sq_session.specs.State.{State, is_there, left}
use Rattle.sq_session.specs.Step.{HasTables, MayUpdate, UpdateComesTo, seen_in, walks_listed}
use Rattle.sq_session.specs.declared.cursor.CursorState.{CursorState}
use Rattle.sq_session.specs.declared.cursor.CursorState.TheVariants as cursor
use Rattle.sq_session.specs.declared.cursor.NumbersCursor.{NumbersCursor}
use Rattle.sq_session.specs.declared.reply.Done.{Done}
use Rattle.sq_session.specs.declared.walk.WalkingCursor.{WalkingCursor}
use Rattle.sq_run.proofs.OpenCursors.Below.{meant_below}
use Rattle.sq_run.proofs.Changed.Completed.{updated_is}
use Rattle.sq_run.proofs.OpenCursors.CursorsKept.{stricter}
use Rattle.sq_run.proofs.Steps.DeleteSame.{change_same}
use Rattle.sq_run.proofs.OpenCursors.NumbersLeft.{AreBelow, SameNumbers}
use Rattle.sq_run.proofs.OpenCursors.SameCursors.{AreSame}
use Rattle.sq_run.proofs.Steps.SameStates.{SameCursor, SameReply, SameStates}
use Rattle.sq_run.proofs.Changed.UnreadRows.{SameRows, unread_rows}
use Rattle.sq_run.proofs.OpenCursors.WalkLeft.{SameWalk}

-- ---- rows keep their numbers

pub number_kept : (changed : List Numbered) (r : Numbered) → (replaced changed r).number ≡ r.number
number_kept [] r = refl
number_kept (c ∷ changed) r = by_test (c.number == r.number) refl (number_kept changed r)
  where
    by_test : (b : Bool) → (c.number == r.number) ≡ b → (replaced changed r).number ≡ r.number
        → (unwrap_or (cond b (Some c) (find (λ x. x.number == r.number) changed)) r).number ≡ r.number
    by_test true is others = eqb-true c.number r.number is
    by_test false is others = others

there_kept : (changed : List Numbered) (n : ℕ) (rows : List Numbered)
    → is_some (find (λ r. nat_eq r.number n) (map (replaced changed) rows)) ≡ is_some (find (λ r. nat_eq r.number n) rows)
there_kept changed n [] = refl
there_kept changed n (r ∷ rows) =
    ap (λ k. is_some (cond (nat_eq k n) (Some (replaced changed r)) (find (λ x. nat_eq x.number n) (map (replaced changed) rows)))) (number_kept changed r)
    ∙ by_test (nat_eq r.number n) (there_kept changed n rows)
  where
    by_test : (b : Bool)
        → is_some (find (λ x. nat_eq x.number n) (map (replaced changed) rows)) ≡ is_some (find (λ x. nat_eq x.number n) rows)
        → is_some (cond b (Some (replaced changed r)) (find (λ x. nat_eq x.number n) (map (replaced changed) rows)))
        ≡ is_some (cond b (Some r) (find (λ x. nat_eq x.number n) rows))
    by_test true e = refl
    by_test false e = e

-- ---- one table changes

-- the rows that are there under each number are there afterwards
there_at : (content : Content) (place : ℕ) (changed : List Numbered) (k n : ℕ)
    → is_there (table_at (slice_set content place (with_replaced (table_at content place) changed)) k) n ≡ is_there (table_at content k) n
there_at [] place changed k n = refl
there_at (t ∷ content) zero changed zero n = there_kept changed n t.rows
there_at (t ∷ content) zero changed (suc k) n = refl
there_at (t ∷ content) (suc place) changed zero n = refl
there_at (t ∷ content) (suc place) changed (suc k) n = there_at content place changed k n

-- The next number of the table is the same.
next_at : (content : Content) (place : ℕ) (changed : List Numbered) (k : ℕ)
    → (table_at (slice_set content place (with_replaced (table_at content place) changed)) k).next ≡ (table_at content k).next
next_at [] place changed k = refl
next_at (t ∷ content) zero changed zero = refl
next_at (t ∷ content) zero changed (suc k) = refl
next_at (t ∷ content) (suc place) changed zero = refl
next_at (t ∷ content) (suc place) changed (suc k) = next_at content place changed k

-- ---- cursors

filters_alike : (p q : ℕ → Bool) → ((n : ℕ) → q n ≡ p n) → (xs : List ℕ) → filter q xs ≡ filter p xs
filters_alike p q h [] = refl
filters_alike p q h (x ∷ xs) = (λ i. cond (h x i) (x ∷ filters_alike p q h xs i) (filters_alike p q h xs i))

all_left : {A : Type 0} (xs : List A) → drop 0 xs ≡ xs
all_left [] = refl
all_left (x ∷ xs) = refl

module _ (before after : Content) (u : BoundUpdate) (on : Option ℕ)
    (there : (k n : ℕ) → is_there (table_at after k) n ≡ is_there (table_at before k) n)
    (next : (k : ℕ) → (table_at after k).next ≡ (table_at before k).next) (unread : SameRows u on before after) where
  alike : (k : ℕ) (xs : List ℕ) → filter (is_there (table_at after k)) xs ≡ filter (is_there (table_at before k)) xs
  alike k xs = filters_alike (is_there (table_at before k)) (is_there (table_at after k)) (there k) xs

  numbers_stay : (c : NumbersCursor) (x : machine.CursorState) → SameNumbers (table_at before c.table) c x → SameNumbers (table_at after c.table) c x
  numbers_stay c x h = record {
    numbers = h.numbers;
    is = h.is;
    same = alike c.table h.numbers ∙ h.same ∙ sym (alike c.table (left c));
    below = subst (λ n. AreBelow n h.numbers) (sym (next c.table)) h.below;
    left_below = subst (λ n. AreBelow n (left c)) (sym (next c.table)) h.left_below;
  }

  walk_stays : (d : DeclaredCursor) (c : WalkingCursor) (x : machine.CursorState)
      → SameWalk (conditions_in d.cursor.body) d.user (table_at before c.table) c x → (b : Bool) → is_listed u on d c ≡ b
      → SameCursor after d (if b then cursor.Numbers (listed d before c) else cursor.Walking c) x
  walk_stays d c x h false is = record {
    numbers = h.numbers;
    is = h.is;
    same = alike c.table h.numbers ∙ h.same ∙ unread d c is;
    below = subst (λ n. AreBelow n h.numbers) (sym (next c.table)) h.below;
    marked = subst (λ n. c.mark ≤ n) (sym (next c.table)) h.marked;
  }
  walk_stays d c x h true is = record {
    numbers = h.numbers;
    is = h.is;
    same =
        alike c.table h.numbers
        ∙ stricter (is_there (table_at before c.table)) (is_there (table_at before c.table)) (λ n e. e) h.numbers
        ∙ ap (filter (is_there (table_at before c.table))) (h.same ∙ sym (all_left (numbers_left d before c)))
        ∙ sym (alike c.table (left (listed d before c)));
    below = subst (λ n. AreBelow n h.numbers) (sym (next c.table)) h.below;
    left_below =
        subst (AreBelow (table_at after c.table).next) (sym (all_left (numbers_left d before c)))
        (meant_below (conditions_in d.cursor.body) c.values d.user c.next c.mark (table_at after c.table).next (table_at before c.table).rows
        (subst (λ n. c.mark ≤ n) (sym (next c.table)) h.marked));
  }

  cursor_stays : (d : DeclaredCursor) (c : CursorState) (x : machine.CursorState) → SameCursor before d c x
      → SameCursor after d (goes_on u on before d c) x
  cursor_stays d cursor.Closed x h = h
  cursor_stays d (cursor.Rows c) x h = h
  cursor_stays d (cursor.Numbers c) x h = numbers_stay c x h
  cursor_stays d (cursor.Walking c) x h = walk_stays d c x h (is_listed u on d c) refl

  pub cursors_stay : (ds : List DeclaredCursor) (cs : List CursorState) (es : List CursorEntry)
      → AreSame (SameCursor before) ds cs es → AreSame (SameCursor after) ds (go_on u on before ds cs) es
  cursors_stay [] [] [] h = tt
  cursors_stay (d ∷ ds) (c ∷ cs) (e ∷ es) h = (cursor_stays d c e.state h.0, cursors_stay ds cs es h.1)
  cursors_stay _ _ _ h = absurd h

-- ---- the statement

module _ (s : State) (r : Running) (u : Updating) (on : Option ℕ) (same : SameStates u.cursors s r.state) where
  pub rows_replaced : (x : Update) (which : Which) (content : Content) → SameRows u.statement on s.tables content
      → update_outcome (setting r) x which ≡ Ok content
      → SameStates u.cursors (record (walks_listed u on s) { tables = content }) (record r.state { tables = content })
  rows_replaced x which content unread e =
      let replaced_in = updated_is (setting r) x which content e in
      record {
        tables = refl;
        committed = same.committed;
        cursors =
            cursors_stay s.tables content u.statement on
            (λ k n. ap (λ (c : Content). is_there (table_at c k) n) (replaced_in.is ∙ (λ i. with_table (same.tables i) replaced_in.place (with_replaced (table_at (same.tables i) replaced_in.place) replaced_in.changed)))
            ∙ there_at s.tables replaced_in.place replaced_in.changed k n)
            (λ k. ap (λ (c : Content). (table_at c k).next) (replaced_in.is ∙ (λ i. with_table (same.tables i) replaced_in.place (with_replaced (table_at (same.tables i) replaced_in.place) replaced_in.changed)))
            ∙ next_at s.tables replaced_in.place replaced_in.changed k)
            unread u.cursors s.cursors r.state.cursors same.cursors;
      }

  -- what it comes to by place and by name
  module _ (schemas : Schemas) (values : List Value) (shown : HasTables schemas s.tables)
      (rising : (place : ℕ) → has_rising_rows (table_at s.tables place) ≡ true) (x : Update) (which : Which)
      (alike : (done : Outcome Content) → UpdateComesTo schemas u values on s.tables done → done ≡ update_outcome (setting r) x which) where
    pub rows_update : (done : Outcome Content) → UpdateComesTo schemas u values on s.tables done → (content : Content)
        → update_outcome (setting r) x which ≡ Ok content
        → SameStates u.cursors (record (walks_listed u on s) { tables = content }) (record r.state { tables = content })
    rows_update done comes content e =
        let tables = shown u.caller.user in
        rows_replaced x which content
        (unread_rows tables.0 (seen_in schemas u.caller values s.tables) schemas.bases u.statement on content (rising (base_of u.statement.target))
        (sym (comes tables.0 tables.1) ∙ alike done comes ∙ e)) e

    -- UPDATE keeps what the states are to each other, and ends alike.
    pub update_same : update_rows r x ≡ update_outcome (setting r) x which → (d : Done) (after : State)
        → MayUpdate schemas u values on s d after
        → SameStates u.cursors after (change_by r r.state (update_rows r x)).0 × SameReply d (change_by r r.state (update_rows r x)).1
    update_same rows_are d after h =
        subst (λ o. SameStates u.cursors after (change_by r r.state o).0 × SameReply d (change_by r r.state o).1) (sym rows_are)
        (change_same u.cursors s r same (walks_listed u on s) r.state h.0 (update_outcome (setting r) x which) (alike h.0 h.1) (rows_update h.0 h.1) d after h.2)
