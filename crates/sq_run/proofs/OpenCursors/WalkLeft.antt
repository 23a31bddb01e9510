-- A FETCH of a cursor that walks comes to the row that the machine's cursor comes to over the numbers that
-- OPEN fixed (ISO/IEC 9075:1992, 13.3), where these are, but for those that are gone, the numbers of the
-- rows that the walk still has.
use Rattle.std.proofs.Common.{◌≡◌, ℕ, ◌+◌, ◌≤◌, ◌<◌, cond, Bool, true, false, List, [], ◌∷◌, drop, filter, map, Option, Some, None, refl, sym, ap, subst, ◌∙◌, arith, leb-true, le-leb, ltb-true}
use Rattle.std.specs.Prelude.{◌&&◌, find, is_some, nat_le, nat_lt, slice_get}
use Rattle.std.specs.List.{AllByRecursion}
use Rattle.std.specs.Option.{option_and_then, option_map}
use Rattle.std.proofs.lemmas.Bool.{false_from_ne_true}
use Rattle.sq_lex.specs.declared.name.Name.{Name}
use Rattle.sq_store.specs.Content.{row_at}
use Rattle.sq_store.specs.Rising.{has_rising_rows, rising_between}
use Rattle.sq_store.specs.declared.table.Numbered.{Numbered}
use Rattle.sq_store.specs.declared.table.Table.{Table}
use Rattle.sq_meaning.specs.Environment.{Row}
use Rattle.sq_meaning.specs.Cursor.{CursorState, to_next}
use Rattle.sq_bound.specs.declared.condition.BoundCond.{BoundCond}
use Rattle.sq_session.specs.Fetch.{walked_to}
use Rattle.sq_session.specs.State.{is_there}
use Rattle.sq_session.specs.Walk.{first_meant, is_meant, numbers_meant, rows_between, rows_from}
use Rattle.sq_session.specs.declared.walk.WalkingCursor.{WalkingCursor}
use Rattle.sq_run.proofs.Changed.RowsAgain.{AreAbove, above, all_there, all_within, rest_rises}
use Rattle.sq_run.proofs.OpenCursors.NumbersLeft.{AreBelow, below_dropped, first, first_is, firsts_alike, next_cursor, next_row, others_are}

-- ---- rows that are kept

-- the number of the first
first_number : (test : Numbered → Bool) (rows : List Numbered)
    → slice_get (map (λ r. r.number) (filter test rows)) 0 ≡ option_map (λ r. r.number) (find test rows)
first_number test [] = refl
first_number test (r ∷ rows) = by_test (test r) (first_number test rows)
  where
    by_test : (b : Bool) → slice_get (map (λ x. x.number) (filter test rows)) 0 ≡ option_map (λ x. x.number) (find test rows)
        → slice_get (map (λ x. x.number) (cond b (r ∷ filter test rows) (filter test rows))) 0
        ≡ option_map (λ x. x.number) (cond b (Some r) (find test rows))
    by_test true e = refl
    by_test false e = e

-- all are kept that are from a number on
pub all_from : (from low : ℕ) (rows : List Numbered) → from ≤ low → AreAbove low rows → rows_from from rows ≡ rows
all_from from low [] le h = refl
all_from from low (r ∷ rows) le h =
    let further : from ≤ r.number = omega (arith, le, h.0) in
    ap (λ b. cond b (r ∷ rows_from from rows) (rows_from from rows)) (le-leb from r.number further)
    ∙ ap (λ l. r ∷ l) (all_from from low rows le h.1)

pub all_kept : (P : Numbered → Type 0) (test : Numbered → Bool) (rows : List Numbered) → AllByRecursion P rows
    → AllByRecursion P (filter test rows)
all_kept P test [] h = tt
all_kept P test (r ∷ rows) h = by_test (test r) (all_kept P test rows h.1)
  where
    by_test : (b : Bool) → AllByRecursion P (filter test rows) → AllByRecursion P (cond b (r ∷ filter test rows) (filter test rows))
    by_test true others = (h.0, others)
    by_test false others = others

pub kept_pass : (test : Numbered → Bool) (rows : List Numbered) → AllByRecursion (λ r. test r ≡ true) (filter test rows)
kept_pass test [] = tt
kept_pass test (r ∷ rows) = by_test (test r) refl (kept_pass test rows)
  where
    by_test : (b : Bool) → test r ≡ b → AllByRecursion (λ x. test x ≡ true) (filter test rows)
        → AllByRecursion (λ x. test x ≡ true) (cond b (r ∷ filter test rows) (filter test rows))
    by_test true h others = (h, others)
    by_test false h others = others

-- what passes two tests, one after the other
pub filtered_both : (p q : Numbered → Bool) (rows : List Numbered) → filter q (filter p rows) ≡ filter (λ r. p r && q r) rows
filtered_both p q [] = refl
filtered_both p q (r ∷ rows) = by_first (p r) (filtered_both p q rows)
  where
    by_first : (b : Bool) → filter q (filter p rows) ≡ filter (λ x. p x && q x) rows
        → filter q (cond b (r ∷ filter p rows) (filter p rows))
        ≡ cond (b && q r) (r ∷ filter (λ x. p x && q x) rows) (filter (λ x. p x && q x) rows)
    by_first true e = ap (λ l. cond (q r) (r ∷ l) l) e
    by_first false e = e

found_is : (P : Numbered → Type 0) (test : Numbered → Bool) (rows : List Numbered) (r : Numbered) → AllByRecursion P rows
    → find test rows ≡ Some r → P r
found_is P test [] r h e = cc
found_is P test (x ∷ rows) r h e = by_test (test x) (found_is P test rows r h.1) e
  where
    by_test : (b : Bool) → (find test rows ≡ Some r → P r) → cond b (Some x) (find test rows) ≡ Some r → P r
    by_test true others e = let same : x ≡ r = cc in subst P same h.0
    by_test false others e = others e

none_found : (test : Numbered → Bool) (rows : List Numbered) → find test rows ≡ None → filter test rows ≡ []
none_found test [] e = refl
none_found test (x ∷ rows) e = by_test (test x) (none_found test rows) e
  where
    by_test : (b : Bool) → (find test rows ≡ None → filter test rows ≡ []) → cond b (Some x) (find test rows) ≡ None
        → cond b (x ∷ filter test rows) (filter test rows) ≡ []
    by_test true others e = cc
    by_test false others e = others e

-- nothing is between a number and itself
none_between : (mark : ℕ) (rows : List Numbered) → rows_between mark mark rows ≡ []
none_between mark [] = refl
none_between mark (r ∷ rows) = by_place (nat_le mark r.number) refl (none_between mark rows)
  where
    by_place : (b : Bool) → nat_le mark r.number ≡ b → rows_between mark mark rows ≡ []
        → filter (λ x. nat_lt x.number mark) (cond b (r ∷ rows_from mark rows) (rows_from mark rows)) ≡ []
    by_place false h e = e
    by_place true h e =
        let from : mark ≤ r.number = leb-true mark r.number h in
        ap (λ b. cond b (r ∷ rows_between mark mark rows) (rows_between mark mark rows))
        (false_from_ne_true (nat_lt r.number mark) (λ is. let less : r.number < mark = ltb-true r.number mark is in absurd (omega (arith, from, less)))) ∙ e

module _ (test : Numbered → Bool) (mark : ℕ) where
  abbrev before_mark : List Numbered → List Numbered
  before_mark rows = filter (λ r. nat_lt r.number mark) rows

  abbrev among : ℕ → List Numbered → List Numbered
  among from rows = filter test (before_mark (rows_from from rows))

  abbrev found : ℕ → List Numbered → Option Numbered
  found from rows = find test (before_mark (rows_from from rows))

  -- what is found is not before the number from which it is looked for, nor before any row
  found_from : (from : ℕ) (rows : List Numbered) (r : Numbered) → found from rows ≡ Some r → from ≤ r.number
  found_from from rows r e =
      leb-true from r.number
      (found_is (λ x. nat_le from x.number ≡ true) test (before_mark (rows_from from rows)) r
      (all_kept (λ x. nat_le from x.number ≡ true) (λ x. nat_lt x.number mark) (rows_from from rows) (kept_pass (λ x. nat_le from x.number) rows)) e)

  found_above : (low from : ℕ) (rows : List Numbered) (r : Numbered) → AreAbove low rows → found from rows ≡ Some r → low ≤ r.number
  found_above low from rows r h e =
      found_is (λ x. low ≤ x.number) test (before_mark (rows_from from rows)) r
      (all_kept (λ x. low ≤ x.number) (λ x. nat_lt x.number mark) (rows_from from rows)
      (all_kept (λ x. low ≤ x.number) (λ x. nat_le from x.number) rows h)) e

  -- a row that is before the number is passed over
  passed_over : (n : ℕ) (x : Numbered) (rows : List Numbered) → (n ≤ x.number → ⊥) → among n (x ∷ rows) ≡ among n rows
  passed_over n x rows h =
      ap (λ b. filter test (before_mark (cond b (x ∷ rows_from n rows) (rows_from n rows))))
      (false_from_ne_true (nat_le n x.number) (λ is. h (leb-true n x.number is)))

  -- by what is asked of the first row
  among_first : (x : Numbered) (later : List Numbered) (a : Bool)
      → filter test (filter (λ r. nat_lt r.number mark) (cond a (x ∷ later) later))
      ≡ cond a (filter test (cond (nat_lt x.number mark) (x ∷ before_mark later) (before_mark later))) (filter test (before_mark later))
  among_first x later true = refl
  among_first x later false = refl

  among_marked : (x : Numbered) (later : List Numbered) (b : Bool)
      → filter test (cond b (x ∷ later) later) ≡ cond b (cond (test x) (x ∷ filter test later) (filter test later)) (filter test later)
  among_marked x later true = refl
  among_marked x later false = refl

  found_first : (x : Numbered) (later : List Numbered) (a : Bool)
      → find test (filter (λ r. nat_lt r.number mark) (cond a (x ∷ later) later))
      ≡ cond a (find test (cond (nat_lt x.number mark) (x ∷ before_mark later) (before_mark later))) (find test (before_mark later))
  found_first x later true = refl
  found_first x later false = refl

  found_marked : (x : Numbered) (later : List Numbered) (b : Bool)
      → find test (cond b (x ∷ later) later) ≡ cond b (cond (test x) (Some x) (find test later)) (find test later)
  found_marked x later true = refl
  found_marked x later false = refl

  -- those behind the first
  rest_among : (from low next : ℕ) (rows : List Numbered) (r : Numbered) → rising_between low rows next ≡ true
      → found from rows ≡ Some r → drop 1 (among from rows) ≡ among (r.number + 1) rows
  rest_among from low next [] r rising e = cc
  rest_among from low next (x ∷ rows) r rising e =
      ap (drop 1) (among_first x (rows_from from rows) (nat_le from x.number))
      ∙ ap (λ l. drop 1 (cond (nat_le from x.number) l (among from rows))) (among_marked x (before_mark (rows_from from rows)) (nat_lt x.number mark))
      ∙ by_tests (nat_le from x.number) (nat_lt x.number mark) (test x) refl
      (sym (ap (λ o. cond (nat_le from x.number) o (found from rows)) (found_marked x (before_mark (rows_from from rows)) (nat_lt x.number mark)))
      ∙ sym (found_first x (rows_from from rows) (nat_le from x.number)) ∙ e)
      (rest_among from (x.number + 1) next rows r (rest_rises low next x rows rising))
    where
      up : AreAbove (x.number + 1) rows
      up = above (x.number + 1) next rows (rest_rises low next x rows rising)

      behind : found from rows ≡ Some r → (r.number + 1 ≤ x.number → ⊥)
      behind found_there le = let more : x.number + 1 ≤ r.number = found_above (x.number + 1) from rows r up found_there in absurd (omega (arith, more, le))

      by_tests : (a b c : Bool) → nat_le from x.number ≡ a
          → cond a (cond b (cond c (Some x) (found from rows)) (found from rows)) (found from rows) ≡ Some r
          → (found from rows ≡ Some r → drop 1 (among from rows) ≡ among (r.number + 1) rows)
          → drop 1 (cond a (cond b (cond c (x ∷ among from rows) (among from rows)) (among from rows)) (among from rows))
          ≡ among (r.number + 1) (x ∷ rows)
      by_tests false b c h e others = others e ∙ sym (passed_over (r.number + 1) x rows (behind e))
      by_tests true false c h e others = others e ∙ sym (passed_over (r.number + 1) x rows (behind e))
      by_tests true true false h e others = others e ∙ sym (passed_over (r.number + 1) x rows (behind e))
      by_tests true true true h e others =
          let same : x ≡ r = cc in
          let le : from ≤ x.number = leb-true from x.number h in
          let further : from ≤ x.number + 1 = omega (arith, le) in
          let itself : x.number + 1 ≤ x.number + 1 = omega arith in
          ap (λ l. filter test (before_mark l)) (all_from from (x.number + 1) rows further up ∙ sym (all_from (x.number + 1) (x.number + 1) rows itself up))
          ∙ sym (passed_over (x.number + 1) x rows (λ more. absurd (omega (arith, more))))
          ∙ ap (λ (y : Numbered). among (y.number + 1) (x ∷ rows)) same

-- ---- a walk

module _ (conditions : List BoundCond) (user : Name) where
  -- the numbers of the rows that a walk still has are left to the machine's cursor, but for those that are
  -- gone, and both are on the same
  pub record SameWalk (t : Table) (c : WalkingCursor) (x : CursorState) : Type 0 where
    pub numbers : List ℕ
    pub is : x ≡ CursorState.over_numbers numbers c.on
    pub same : filter (is_there t) numbers ≡ numbers_meant conditions c.values user c.next c.mark t.rows
    pub below : AreBelow t.next numbers
    pub marked : c.mark ≤ t.next

  abbrev pub reached : Table → WalkingCursor → Option Numbered
  reached t c = first_meant conditions c.values user c.next c.mark t.rows

  -- what it comes to is there under its number
  pub reached_there : (t : Table) (c : WalkingCursor) → has_rising_rows t ≡ true → (r : Numbered) → reached t c ≡ Some r
      → row_at t r.number ≡ Some r
  reached_there t c rising r e =
      found_is (λ x. row_at t x.number ≡ Some x) (is_meant conditions c.values user) (rows_between c.next c.mark t.rows) r
      (all_kept (λ x. row_at t x.number ≡ Some x) (λ x. nat_lt x.number c.mark) (rows_from c.next t.rows)
      (all_kept (λ x. row_at t x.number ≡ Some x) (λ x. nat_le c.next x.number) t.rows (all_there 1 t.next t.rows t.rows rising (all_within t.rows)))) e

  left_walked : (t : Table) (c : WalkingCursor) → has_rising_rows t ≡ true → (o : Option Numbered) → reached t c ≡ o
      → drop 1 (numbers_meant conditions c.values user c.next c.mark t.rows)
      ≡ numbers_meant conditions c.values user (walked_to c o).next c.mark t.rows
  left_walked t c rising None e =
      ap (λ l. drop 1 (map (λ (r : Numbered). r.number) l)) (none_found (is_meant conditions c.values user) (rows_between c.next c.mark t.rows) e)
      ∙ sym (ap (λ l. map (λ (r : Numbered). r.number) (filter (is_meant conditions c.values user) l)) (none_between c.mark t.rows))
  left_walked t c rising (Some r) e =
      mapped (filter (is_meant conditions c.values user) (rows_between c.next c.mark t.rows))
      ∙ ap (map (λ (x : Numbered). x.number)) (rest_among (is_meant conditions c.values user) c.mark c.next 1 t.next t.rows r rising e)
    where
      mapped : (rows : List Numbered) → drop 1 (map (λ x. x.number) rows) ≡ map (λ x. x.number) (drop 1 rows)
      mapped [] = refl
      mapped (x ∷ rows) = refl

  -- FETCH keeps it so, and comes to the row that the walk comes to.
  pub walk_same : (t : Table) (now : ℕ → Option Row) → ((n : ℕ) → is_some (now n) ≡ is_there t n) → has_rising_rows t ≡ true
      → (c : WalkingCursor) (x : CursorState) (h : SameWalk t c x)
      → SameWalk t (walked_to c (reached t c)) (to_next now h.numbers).cursor
      × ((to_next now h.numbers).row ≡ option_and_then now (option_map (λ r. r.number) (reached t c)))
  walk_same t now alike rising c x h = (
    record {
      numbers = drop (first (is_there t) h.numbers + 1) h.numbers;
      is =
          next_cursor now h.numbers
          ∙ (λ i. CursorState.over_numbers (drop (firsts_alike t now alike h.numbers i + 1) h.numbers) (slice_get h.numbers (firsts_alike t now alike h.numbers i)))
          ∙ ap (CursorState.over_numbers (drop (first (is_there t) h.numbers + 1) h.numbers)) (on_same ∙ sym (on_walked (reached t c)));
      same =
          others_are (is_there t) h.numbers ∙ ap (drop 1) h.same ∙ left_walked t c rising (reached t c) refl
          ∙ ap (λ values. numbers_meant conditions values user (walked_to c (reached t c)).next c.mark t.rows) (sym (values_walked (reached t c)))
          ∙ ap (λ mark. numbers_meant conditions (walked_to c (reached t c)).values user (walked_to c (reached t c)).next mark t.rows) (sym (mark_walked (reached t c)));
      below = below_dropped t.next (first (is_there t) h.numbers + 1) h.numbers h.below;
      marked = subst (λ m. m ≤ t.next) (sym (mark_walked (reached t c))) h.marked;
    },
    next_row now h.numbers ∙ (λ i. option_and_then now (slice_get h.numbers (firsts_alike t now alike h.numbers i))) ∙ ap (option_and_then now) on_same,
  )
    where
      on_walked : (o : Option Numbered) → (walked_to c o).on ≡ option_map (λ r. r.number) o
      on_walked None = refl
      on_walked (Some r) = refl

      values_walked : (o : Option Numbered) → (walked_to c o).values ≡ c.values
      values_walked None = refl
      values_walked (Some r) = refl

      mark_walked : (o : Option Numbered) → (walked_to c o).mark ≡ c.mark
      mark_walked None = refl
      mark_walked (Some r) = refl

      on_same : slice_get h.numbers (first (is_there t) h.numbers) ≡ option_map (λ r. r.number) (reached t c)
      on_same =
          first_is (is_there t) h.numbers ∙ ap (λ xs. slice_get xs 0) h.same
          ∙ first_number (is_meant conditions c.values user) (rows_between c.next c.mark t.rows)
