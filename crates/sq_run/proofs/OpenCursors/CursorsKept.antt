-- Where rows of tables go, cursors stay what they are to each other (ISO/IEC 9075:1992, 13.3, 13.6 and
-- 13.7): numbers under which there is no row any more are left out, and a walk no longer has those rows.
use Rattle.std.proofs.Common.{◌≡◌, ℕ, ◌+◌, ◌≤◌, cond, not, Bool, true, false, List, [], ◌∷◌, filter, map, Some, None, refl, sym, ap, subst, ◌∙◌, arith, eqb-true}
use Rattle.std.specs.Prelude.{find, is_some, nat_eq, nat_le, nat_lt}
use Rattle.std.specs.List.{AllByRecursion}
use Rattle.std.proofs.lemmas.Bool.{false_from_ne_true}
use Rattle.sq_lex.specs.declared.name.Name.{Name}
use Rattle.sq_value.specs.declared.value.Value.{Value}
use Rattle.sq_store.specs.Content.{Content, table_at}
use Rattle.sq_store.specs.Rising.{has_rising_rows, rising_between}
use Rattle.sq_store.specs.declared.table.Numbered.{Numbered}
use Rattle.sq_store.specs.declared.table.Table.{Table}
use Rattle.sq_meaning.specs.Change.{is_numbered, without}
use Rattle.sq_meaning.specs.Cursor as machine
use Rattle.sq_meaning.specs.Machine.{CursorEntry}
use Rattle.sq_bound.specs.declared.condition.BoundCond.{BoundCond}
use Rattle.sq_module.specs.declared.program.DeclaredCursor.{DeclaredCursor}
use Rattle.sq_session.specs.Kind.{conditions_in}
use Rattle.sq_session.specs.State.{is_there, left}
use Rattle.sq_session.specs.Walk.{is_meant, numbers_meant}
use Rattle.sq_session.specs.declared.cursor.CursorState.{CursorState}
use Rattle.sq_session.specs.declared.cursor.CursorState.TheVariants as cursor
use Rattle.sq_session.specs.declared.cursor.NumbersCursor.{NumbersCursor}
use Rattle.sq_session.specs.declared.walk.WalkingCursor.{WalkingCursor}
use Rattle.sq_run.proofs.Changed.RowsAgain.{AreAbove, above, itself, rest_rises}
use Rattle.sq_run.proofs.OpenCursors.NumbersLeft.{SameNumbers}
use Rattle.sq_run.proofs.OpenCursors.SameCursors.{AreSame}
use Rattle.sq_run.proofs.Steps.SameStates.{SameCursor}
use Rattle.sq_run.proofs.OpenCursors.WalkLeft.{SameWalk, all_kept}

-- ---- lists

-- what passes a stricter test passes the other, too
pub stricter : {A : Type 0} (p q : A → Bool) → ((x : A) → q x ≡ true → p x ≡ true) → (xs : List A) → filter q xs ≡ filter q (filter p xs)
stricter p q h [] = refl
stricter {A} p q h (x ∷ xs) = by_tests (p x) (q x) refl (h x) (stricter p q h xs)
  where
    by_tests : (a b : Bool) → q x ≡ b → (q x ≡ true → a ≡ true) → filter q xs ≡ filter q (filter p xs)
        → cond b (x ∷ filter q xs) (filter q xs) ≡ filter q (cond a (x ∷ filter p xs) (filter p xs))
    by_tests true true is f e = ap (λ l. x ∷ l) e ∙ sym (ap (λ b. cond b (x ∷ filter q (filter p xs)) (filter q (filter p xs))) is)
    by_tests true false is f e = e ∙ sym (ap (λ b. cond b (x ∷ filter q (filter p xs)) (filter q (filter p xs))) is)
    by_tests false false is f e = e
    by_tests false true is f e = cc (f is)

swapped : {A : Type 0} (p q : A → Bool) (xs : List A) → filter p (filter q xs) ≡ filter q (filter p xs)
swapped p q [] = refl
swapped {A} p q (x ∷ xs) = by_tests (p x) (q x) refl refl (swapped p q xs)
  where
    by_tests : (a b : Bool) → p x ≡ a → q x ≡ b → filter p (filter q xs) ≡ filter q (filter p xs)
        → filter p (cond b (x ∷ filter q xs) (filter q xs)) ≡ filter q (cond a (x ∷ filter p xs) (filter p xs))
    by_tests true true f g e =
        ap (λ b. cond b (x ∷ filter p (filter q xs)) (filter p (filter q xs))) f ∙ ap (λ l. x ∷ l) e
        ∙ sym (ap (λ b. cond b (x ∷ filter q (filter p xs)) (filter q (filter p xs))) g)
    by_tests true false f g e = e ∙ sym (ap (λ b. cond b (x ∷ filter q (filter p xs)) (filter q (filter p xs))) g)
    by_tests false true f g e = ap (λ b. cond b (x ∷ filter p (filter q xs)) (filter p (filter q xs))) f ∙ e
    by_tests false false f g e = e

-- ---- numbers

-- none of greater numbers is under a number
pub none_above : (n : ℕ) (rows : List Numbered) → AreAbove (n + 1) rows → find (λ r. nat_eq r.number n) rows ≡ None
none_above n [] h = refl
none_above n (x ∷ rows) h =
    ap (λ b. cond b (Some x) (find (λ r. nat_eq r.number n) rows))
    (false_from_ne_true (nat_eq x.number n) (λ is. let same : x.number ≡ n = eqb-true x.number n is in let more : n + 1 ≤ x.number = h.0 in absurd (omega (arith, same, more))))
    ∙ none_above n rows h.1

-- ---- rows that go

module _ (keep : Numbered → Bool) where
  still_there : (n : ℕ) (rows : List Numbered) → is_some (find (λ r. nat_eq r.number n) (filter keep rows)) ≡ true
      → is_some (find (λ r. nat_eq r.number n) rows) ≡ true
  still_there n [] e = e
  still_there n (x ∷ rows) e = by_tests (keep x) (nat_eq x.number n) refl (still_there n rows) e
    where
      by_tests : (a b : Bool) → nat_eq x.number n ≡ b
          → (is_some (find (λ r. nat_eq r.number n) (filter keep rows)) ≡ true → is_some (find (λ r. nat_eq r.number n) rows) ≡ true)
          → is_some (find (λ r. nat_eq r.number n) (cond a (x ∷ filter keep rows) (filter keep rows))) ≡ true
          → is_some (cond b (Some x) (find (λ r. nat_eq r.number n) rows)) ≡ true
      by_tests a true is others e = refl
      by_tests true false is others e =
          others (sym (ap (λ b. is_some (cond b (Some x) (find (λ r. nat_eq r.number n) (filter keep rows)))) is) ∙ e)
      by_tests false false is others e = others e

  abbrev IsKept : List Numbered → Numbered → Type 0
  IsKept rows r = is_some (find (λ x. nat_eq x.number r.number) (filter keep rows)) ≡ keep r

  kept_behind : (x : Numbered) (rows some : List Numbered) → AreAbove (x.number + 1) some → AllByRecursion (IsKept rows) some
      → AllByRecursion (IsKept (x ∷ rows)) some
  kept_behind x rows [] up h = tt
  kept_behind x rows (r ∷ some) up h = (by_test (keep x) h.0, kept_behind x rows some up.1 h.1)
    where
      other : nat_eq x.number r.number ≡ false
      other = false_from_ne_true (nat_eq x.number r.number) (λ is. let same : x.number ≡ r.number = eqb-true x.number r.number is in let more : x.number + 1 ≤ r.number = up.0 in absurd (omega (arith, same, more)))

      by_test : (a : Bool) → is_some (find (λ y. nat_eq y.number r.number) (filter keep rows)) ≡ keep r
          → is_some (find (λ y. nat_eq y.number r.number) (cond a (x ∷ filter keep rows) (filter keep rows))) ≡ keep r
      by_test true e = ap (λ b. is_some (cond b (Some x) (find (λ y. nat_eq y.number r.number) (filter keep rows)))) other ∙ e
      by_test false e = e

  -- a row is there afterwards where it is kept
  each_kept : (low next : ℕ) (rows : List Numbered) → rising_between low rows next ≡ true → AllByRecursion (IsKept rows) rows
  each_kept low next [] h = tt
  each_kept low next (x ∷ rows) h =
      let up : AreAbove (x.number + 1) rows = above (x.number + 1) next rows (rest_rises low next x rows h) in
      (first up (keep x) refl, kept_behind x rows rows up (each_kept (x.number + 1) next rows (rest_rises low next x rows h)))
    where
      first : AreAbove (x.number + 1) rows → (a : Bool) → keep x ≡ a
          → is_some (find (λ y. nat_eq y.number x.number) (cond a (x ∷ filter keep rows) (filter keep rows))) ≡ keep x
      first up true is = ap (λ b. is_some (cond b (Some x) (find (λ y. nat_eq y.number x.number) (filter keep rows)))) (itself x.number) ∙ sym is
      first up false is =
          ap is_some (none_above x.number (filter keep rows) (all_kept (λ y. x.number + 1 ≤ y.number) keep rows up)) ∙ sym is

  numbers_of_kept : (there : ℕ → Bool) (rows : List Numbered) → AllByRecursion (λ r. there r.number ≡ keep r) rows
      → filter there (map (λ r. r.number) rows) ≡ map (λ r. r.number) (filter keep rows)
  numbers_of_kept there [] h = refl
  numbers_of_kept there (r ∷ rows) h =
      ap (λ b. cond b (r.number ∷ filter there (map (λ x. x.number) rows)) (filter there (map (λ x. x.number) rows))) h.0
      ∙ by_test (keep r) (numbers_of_kept there rows h.1)
    where
      by_test : (b : Bool) → filter there (map (λ x. x.number) rows) ≡ map (λ x. x.number) (filter keep rows)
          → cond b (r.number ∷ filter there (map (λ x. x.number) rows)) (filter there (map (λ x. x.number) rows))
          ≡ map (λ x. x.number) (cond b (r ∷ filter keep rows) (filter keep rows))
      by_test true e = ap (λ l. r.number ∷ l) e
      by_test false e = e

-- ---- cursors

module _ (t : Table) (gone : List ℕ) (rising : has_rising_rows t ≡ true) where
  abbrev keep_row : Numbered → Bool
  keep_row r = not (is_numbered gone r)

  fewer : (n : ℕ) → is_there (without t gone) n ≡ true → is_there t n ≡ true
  fewer n e = still_there keep_row n t.rows e

  pub numbers_kept : (c : NumbersCursor) (x : machine.CursorState) → SameNumbers t c x → SameNumbers (without t gone) c x
  numbers_kept c x h = record {
    numbers = h.numbers;
    is = h.is;
    same =
        stricter (is_there t) (is_there (without t gone)) fewer h.numbers ∙ ap (filter (is_there (without t gone))) h.same
        ∙ sym (stricter (is_there t) (is_there (without t gone)) fewer (left c));
    below = h.below;
    left_below = h.left_below;
  }

  -- a walk has the rows that are kept
  walked_kept : (conditions : List BoundCond) (user : Name) (values : List Value) (from mark : ℕ)
      → filter (is_there (without t gone)) (numbers_meant conditions values user from mark t.rows)
      ≡ numbers_meant conditions values user from mark (without t gone).rows
  walked_kept conditions user values from mark =
      numbers_of_kept keep_row (is_there (without t gone)) (filter (is_meant conditions values user) (filter (λ r. nat_lt r.number mark) (filter (λ r. nat_le from r.number) t.rows)))
      (all_kept (λ r. is_there (without t gone) r.number ≡ keep_row r) (is_meant conditions values user) (filter (λ r. nat_lt r.number mark) (filter (λ r. nat_le from r.number) t.rows))
      (all_kept (λ r. is_there (without t gone) r.number ≡ keep_row r) (λ r. nat_lt r.number mark) (filter (λ r. nat_le from r.number) t.rows)
      (all_kept (λ r. is_there (without t gone) r.number ≡ keep_row r) (λ r. nat_le from r.number) t.rows (each_kept keep_row 1 t.next t.rows rising))))
      ∙ ap (map (λ (r : Numbered). r.number))
      (swapped keep_row (is_meant conditions values user) (filter (λ r. nat_lt r.number mark) (filter (λ r. nat_le from r.number) t.rows))
      ∙ ap (filter (is_meant conditions values user)) (swapped keep_row (λ r. nat_lt r.number mark) (filter (λ r. nat_le from r.number) t.rows))
      ∙ ap (λ l. filter (is_meant conditions values user) (filter (λ r. nat_lt r.number mark) l)) (swapped keep_row (λ r. nat_le from r.number) t.rows))

  pub walk_kept : (conditions : List BoundCond) (user : Name) (c : WalkingCursor) (x : machine.CursorState)
      → SameWalk conditions user t c x → SameWalk conditions user (without t gone) c x
  walk_kept conditions user c x h = record {
    numbers = h.numbers;
    is = h.is;
    same =
        stricter (is_there t) (is_there (without t gone)) fewer h.numbers ∙ ap (filter (is_there (without t gone))) h.same
        ∙ walked_kept conditions user c.values c.next c.mark;
    below = h.below;
    marked = h.marked;
  }

-- ---- all cursors, where rows of some tables go

module _ (before after : Content) (gone : ℕ → List ℕ)
    (rising : (place : ℕ) → has_rising_rows (table_at before place) ≡ true)
    (removed : (place : ℕ) → table_at after place ≡ without (table_at before place) (gone place)) where
  cursor_kept : (d : DeclaredCursor) (c : CursorState) (x : machine.CursorState) → SameCursor before d c x → SameCursor after d c x
  cursor_kept d cursor.Closed x h = h
  cursor_kept d (cursor.Rows c) x h = h
  cursor_kept d (cursor.Numbers c) x h =
      subst (λ t. SameNumbers t c x) (sym (removed c.table)) (numbers_kept (table_at before c.table) (gone c.table) (rising c.table) c x h)
  cursor_kept d (cursor.Walking c) x h =
      subst (λ t. SameWalk (conditions_in d.cursor.body) d.user t c x) (sym (removed c.table))
      (walk_kept (table_at before c.table) (gone c.table) (rising c.table) (conditions_in d.cursor.body) d.user c x h)

  -- Each cursor of the session is still what it was to the machine's.
  pub cursors_kept : (ds : List DeclaredCursor) (cs : List CursorState) (es : List CursorEntry)
      → AreSame (SameCursor before) ds cs es → AreSame (SameCursor after) ds cs es
  cursors_kept [] [] [] h = tt
  cursors_kept (d ∷ ds) (c ∷ cs) (e ∷ es) h = (cursor_kept d c e.state h.0, cursors_kept ds cs es h.1)
  cursors_kept _ _ _ h = absurd h
