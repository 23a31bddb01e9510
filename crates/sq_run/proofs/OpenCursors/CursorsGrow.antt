-- Where rows are put behind those of tables, cursors stay what they are to each other (ISO/IEC
-- 9075:1992, 13.3 and 13.8): no number that is left to one is that of a new row, and new rows are
-- behind the mark of a walk.
use Rattle.std.proofs.Common.{◌≡◌, ℕ, zero, suc, ◌+◌, ◌≤◌, ◌<◌, ◌++◌, cond, Bool, true, false, List, [], ◌∷◌, filter, map, Option, Some, None, refl, sym, ap, ◌∙◌, arith, ltb-true}
use Rattle.std.proofs.lemmas.List.{append-nil, append_assoc}
use Rattle.std.proofs.lemmas.List.Elements.{filter-append}
use Rattle.std.proofs.lemmas.List.Folds.{find-append}
use Rattle.std.specs.Prelude.{find, is_some, nat_eq, nat_le, nat_lt, slice_set}
use Rattle.std.specs.Option.{option_or}
use Rattle.std.proofs.lemmas.Bool.{false_from_ne_true}
use Rattle.sq_lex.specs.declared.name.Name.{Name}
use Rattle.sq_value.specs.declared.value.Value.{Value}
use Rattle.sq_store.specs.Content.{Content, inserted, row_at, table_at}
use Rattle.sq_store.specs.declared.table.Numbered.{Numbered}
use Rattle.sq_store.specs.declared.table.Table.{Table}
use Rattle.sq_meaning.specs.Environment.{Row}
use Rattle.sq_meaning.proofs.AnswerLaws.{all_weaker}
use Rattle.sq_meaning.specs.Change.{with_rows}
use Rattle.sq_meaning.specs.Cursor as machine
use Rattle.sq_meaning.specs.Machine.{CursorEntry}
use Rattle.sq_bound.specs.declared.condition.BoundCond.{BoundCond}
use Rattle.sq_module.specs.declared.program.DeclaredCursor.{DeclaredCursor}
use Rattle.sq_session.specs.Kind.{conditions_in}
use Rattle.sq_session.specs.State.{is_there, left}
use Rattle.sq_session.specs.Walk.{is_meant, numbers_meant, rows_between, rows_from}
use Rattle.sq_session.specs.declared.cursor.CursorState.{CursorState}
use Rattle.sq_session.specs.declared.cursor.CursorState.TheVariants as cursor
use Rattle.sq_session.specs.declared.cursor.NumbersCursor.{NumbersCursor}
use Rattle.sq_session.specs.declared.walk.WalkingCursor.{WalkingCursor}
use Rattle.sq_run.proofs.Changed.RowsAgain.{AreAbove}
use Rattle.sq_run.proofs.OpenCursors.CursorsKept.{none_above}
use Rattle.sq_run.proofs.OpenCursors.NumbersLeft.{AreBelow, SameNumbers}
use Rattle.sq_run.proofs.OpenCursors.SameCursors.{AreSame}
use Rattle.sq_run.proofs.Steps.SameStates.{SameCursor}
use Rattle.sq_run.proofs.OpenCursors.WalkLeft.{SameWalk}

-- ---- a table that grows

-- new rows stand behind those of before, under numbers from the next on
pub record IsGrown (t u : Table) : Type 0 where
  pub new : List Numbered
  pub rows : u.rows ≡ t.rows ++ new
  pub above : AreAbove t.next new
  pub next : t.next ≤ u.next

pub itself_grown : (t : Table) → IsGrown t t
itself_grown t =
    let same : t.next ≤ t.next = omega arith in
    record { new = []; rows = sym (append-nil t.rows); above = tt; next = same }

rows_grown : (t : Table) (rows : List Row) → IsGrown t (with_rows t rows)
rows_grown t [] = itself_grown t
rows_grown t (row ∷ rows) =
    let others = rows_grown (inserted t row) rows in
    let further : t.next + 1 ≤ (with_rows (inserted t row) rows).next = others.next in
    let first : t.next ≤ t.next = omega arith in
    let more : t.next ≤ (with_rows (inserted t row) rows).next = omega (arith, further) in
    record {
      new = record { number = t.next; row = row } ∷ others.new;
      rows = others.rows ∙ append_assoc t.rows (record { number = t.next; row = row } ∷ []) others.new;
      above = (first, all_weaker (λ r. t.next + 1 ≤ r.number) (λ r. t.next ≤ r.number) (λ r le. omega (arith, le)) others.new others.above);
      next = more;
    }

-- One of the tables grows.
pub grown_at : (content : Content) (place : ℕ) (rows : List Row) (k : ℕ)
    → IsGrown (table_at content k) (table_at (slice_set content place (with_rows (table_at content place) rows)) k)
grown_at [] place rows k = itself_grown (table_at [] k)
grown_at (t ∷ content) zero rows zero = rows_grown t rows
grown_at (t ∷ content) zero rows (suc k) = itself_grown (table_at content k)
grown_at (t ∷ content) (suc place) rows zero = itself_grown t
grown_at (t ∷ content) (suc place) rows (suc k) = grown_at content place rows k

-- ---- cursors

none_marked : (from mark : ℕ) (new : List Numbered) → AreAbove mark new → rows_between from mark new ≡ []
none_marked from mark [] h = refl
none_marked from mark (r ∷ new) h = by_place (nat_le from r.number) (none_marked from mark new h.1)
  where
    by_place : (b : Bool) → rows_between from mark new ≡ []
        → filter (λ x. nat_lt x.number mark) (cond b (r ∷ rows_from from new) (rows_from from new)) ≡ []
    by_place false e = e
    by_place true e =
        let further : mark ≤ r.number = h.0 in
        ap (λ b. cond b (r ∷ rows_between from mark new) (rows_between from mark new))
        (false_from_ne_true (nat_lt r.number mark) (λ is. let less : r.number < mark = ltb-true r.number mark is in absurd (omega (arith, further, less)))) ∙ e

module _ (t u : Table) (g : IsGrown t u) where
  there_before : (n : ℕ) → n < t.next → is_there u n ≡ is_there t n
  there_before n less =
      ap (λ rows. is_some (find (λ r. nat_eq r.number n) rows)) g.rows
      ∙ ap is_some (find-append (λ r. nat_eq r.number n) t.rows g.new ∙ ap (option_or (row_at t n)) none_new)
      ∙ or_none (row_at t n)
    where
      none_new : find (λ r. nat_eq r.number n) g.new ≡ None
      none_new =
          none_above n g.new
          (all_weaker (λ r. t.next ≤ r.number) (λ r. n + 1 ≤ r.number) (λ r le. omega (arith, less, le)) g.new g.above)

      or_none : (o : Option Numbered) → is_some (option_or o None) ≡ is_some o
      or_none None = refl
      or_none (Some r) = refl

  filter_before : (numbers : List ℕ) → AreBelow t.next numbers → filter (is_there u) numbers ≡ filter (is_there t) numbers
  filter_before [] h = refl
  filter_before (n ∷ numbers) h =
      (λ i. cond (there_before n h.0 i) (n ∷ filter_before numbers h.1 i) (filter_before numbers h.1 i))

  still_below : (numbers : List ℕ) → AreBelow t.next numbers → AreBelow u.next numbers
  still_below numbers h =
      let more : t.next ≤ u.next = g.next in all_weaker (λ n. n < t.next) (λ n. n < u.next) (λ n less. omega (arith, less, more)) numbers h

  numbers_grow : (c : NumbersCursor) (x : machine.CursorState) → SameNumbers t c x → SameNumbers u c x
  numbers_grow c x h = record {
    numbers = h.numbers;
    is = h.is;
    same = filter_before h.numbers h.below ∙ h.same ∙ sym (filter_before (left c) h.left_below);
    below = still_below h.numbers h.below;
    left_below = still_below (left c) h.left_below;
  }

  -- a walk has the same rows
  walked_before : (conditions : List BoundCond) (user : Name) (values : List Value) (from mark : ℕ) → mark ≤ t.next
      → numbers_meant conditions values user from mark u.rows ≡ numbers_meant conditions values user from mark t.rows
  walked_before conditions user values from mark le =
      ap (λ rows. map (λ (r : Numbered). r.number) (filter (is_meant conditions values user) rows)) between
    where
      between : rows_between from mark u.rows ≡ rows_between from mark t.rows
      between =
          ap (rows_between from mark) g.rows
          ∙ ap (filter (λ (r : Numbered). nat_lt r.number mark)) (filter-append (λ r. nat_le from r.number) t.rows g.new)
          ∙ filter-append (λ r. nat_lt r.number mark) (rows_from from t.rows) (rows_from from g.new)
          ∙ ap (λ rows. rows_between from mark t.rows ++ rows)
          (none_marked from mark g.new (all_weaker (λ r. t.next ≤ r.number) (λ r. mark ≤ r.number) (λ r further. omega (arith, le, further)) g.new g.above))
          ∙ append-nil (rows_between from mark t.rows)

  walk_grows : (conditions : List BoundCond) (user : Name) (c : WalkingCursor) (x : machine.CursorState)
      → SameWalk conditions user t c x → SameWalk conditions user u c x
  walk_grows conditions user c x h =
      let before : c.mark ≤ t.next = h.marked in
      let more : t.next ≤ u.next = g.next in
      let marked : c.mark ≤ u.next = omega (arith, before, more) in
      record {
        numbers = h.numbers;
        is = h.is;
        same = filter_before h.numbers h.below ∙ h.same ∙ sym (walked_before conditions user c.values c.next c.mark h.marked);
        below = still_below h.numbers h.below;
        marked = marked;
      }

-- ---- all cursors, where tables grow

module _ (before after : Content) (grown : (place : ℕ) → IsGrown (table_at before place) (table_at after place)) where
  cursor_grows : (d : DeclaredCursor) (c : CursorState) (x : machine.CursorState) → SameCursor before d c x → SameCursor after d c x
  cursor_grows d cursor.Closed x h = h
  cursor_grows d (cursor.Rows c) x h = h
  cursor_grows d (cursor.Numbers c) x h = numbers_grow (table_at before c.table) (table_at after c.table) (grown c.table) c x h
  cursor_grows d (cursor.Walking c) x h =
      walk_grows (table_at before c.table) (table_at after c.table) (grown c.table) (conditions_in d.cursor.body) d.user c x h

  -- Each cursor of the session is still what it was to the machine's.
  pub cursors_grow : (ds : List DeclaredCursor) (cs : List CursorState) (es : List CursorEntry)
      → AreSame (SameCursor before) ds cs es → AreSame (SameCursor after) ds cs es
  cursors_grow [] [] [] h = tt
  cursors_grow (d ∷ ds) (c ∷ cs) (e ∷ es) h = (cursor_grows d c e.state h.0, cursors_grow ds cs es h.1)
  cursors_grow _ _ _ h = absurd h
