-- A walk that is not listed before an UPDATE has the same rows after it (ISO/IEC 9075:1992, 13.3, 13.9 and 13.10). If
-- its conditions read no column that gets a value, each row is under its number as before, and in the columns that the
-- conditions read. Else the row that changes is not left to it.
use Rattle.std.proofs.Common.{◌≡◌, ℕ, zero, suc, cond, Bool, true, false, List, [], ◌∷◌, filter, map, Option, Some, None, refl, sym, ap, subst, ◌∙◌, eqb-true, eq-eqb, Ok, Err}
use Rattle.std.specs.Prelude.{⊤, ◌&&◌, if◌then◌else◌, nat_eq, nat_le, nat_lt, slice_get, slice_set, IfOk}
use Rattle.std.specs.List.{AllByRecursion, AllZip}
use Rattle.std.proofs.lemmas.Bool.{or_parts}
use Rattle.sq_lex.specs.declared.name.Name.{Name}
use Rattle.sq_value.specs.declared.value.Value.{Value}
use Rattle.sq_store.specs.Content.{Content, replaced, row_at, table_at, with_table}
use Rattle.sq_store.specs.Rising.{has_rising_rows}
use Rattle.sq_store.specs.declared.table.Numbered.{Numbered}
use Rattle.sq_store.specs.declared.table.Table.{Table}
use Rattle.sq_meaning.specs.Environment.{Row}
use Rattle.sq_meaning.specs.Status.{Outcome, and_then, each, well_formed}
use Rattle.sq_meaning.specs.declared.status.Status.TheVariants.{IntegrityConstraintViolation}
use Rattle.sq_meaning.specs.Change.{with_values}
use Rattle.sq_meaning.specs.Constraints.{demanded}
use Rattle.sq_bound.specs.Fits.{under}
use Rattle.sq_bound.specs.declared.condition.BoundCond.{BoundCond}
use Rattle.sq_bound.specs.declared.names.BaseTable.{BaseTable}
use Rattle.sq_bound.specs.declared.statement.BoundAssignment.{BoundAssignment}
use Rattle.sq_bound.specs.declared.statement.BoundUpdate.{BoundUpdate}
use Rattle.sq_change.specs.Constraints as by_place
use Rattle.sq_change.specs.Made.{Seen, Shown, numbered_updated, numbers_changed, row_updated, rows_updated, updated_under, value_set, value_stored}
use Rattle.sq_change.specs.Performed as performed
use Rattle.sq_change.specs.Statement.{base_of, update_made, with_replaced}
use Rattle.sq_module.specs.declared.program.DeclaredCursor.{DeclaredCursor}
use Rattle.sq_session.specs.Cursors.{is_listed, may_change_left, numbers_left}
use Rattle.sq_session.specs.Kind.{conditions_in}
use Rattle.sq_session.specs.Reads.{AreAlike, is_assigned, one_reads}
use Rattle.sq_session.specs.Walk.{is_meant, numbers_meant, rows_between, rows_from}
use Rattle.sq_session.specs.declared.walk.WalkingCursor.{WalkingCursor}
use Rattle.sq_session.proofs.Walks.Unread.{unread}
use Rattle.sq_run.proofs.Changed.Changes.{base_is_under}
use Rattle.sq_run.proofs.Changed.PassedRows.{changed_not_left, not_left_same}
use Rattle.sq_run.proofs.Places.Outcomes.{each_so, if_any, if_each, if_one, if_then, known_of}
use Rattle.sq_run.proofs.Changed.RowsAgain.{all_there, all_within, row_among}

-- ---- a row with new values

unequal : (a b : ℕ) → nat_eq a b ≡ false → a ≡ b → ⊥
unequal a b h e = let same : nat_eq a b ≡ true = eq-eqb a b e in cc

other_place : (row : Row) (place position : ℕ) (v : Value) → (place ≡ position → ⊥)
    → slice_get row position ≡ slice_get (slice_set row place v) position
other_place [] place position v h = refl
other_place (x ∷ row) zero zero v h = absurd (h refl)
other_place (x ∷ row) zero (suc position) v h = refl
other_place (x ∷ row) (suc place) zero v h = refl
other_place (x ∷ row) (suc place) (suc position) v h = other_place row place position v (λ e. h (ap suc e))

module _ (assignments : List BoundAssignment) where
  -- a value for the column of each assignment
  abbrev AreFor : List BoundAssignment → List (ℕ × Value) → Type 0
  AreFor = AllZip (λ a given. given.0 ≡ a.column.position)

  others_stay : (sets : List BoundAssignment) (given : List (ℕ × Value)) → AreFor sets given → (row : Row) (position : ℕ)
      → is_assigned sets position ≡ false → slice_get row position ≡ slice_get (with_values given row) position
  others_stay [] [] h row position none = refl
  others_stay [] (g ∷ given) h row position none = absurd h
  others_stay (a ∷ sets) [] h row position none = absurd h
  others_stay (a ∷ sets) (g ∷ given) h row position none =
      let n = or_parts (nat_eq a.column.position position) (is_assigned sets position) none in
      other_place row g.0 position g.1 (λ e. unequal a.column.position position n.0 (sym h.0 ∙ e))
      ∙ others_stay sets given h.1 (slice_set row g.0 g.1) position n.1

  module _ (shown : Shown) (s : Seen) where
    row_alike : (row : Row) → IfOk (row_updated shown s assignments row) (AreAlike assignments row)
    row_alike row =
        if_one (each (value_set shown s row) assignments) (λ given. with_values given row) (AreFor assignments)
        (AreAlike assignments row) (if_each (value_set shown s row) (λ a given. given.0 ≡ a.column.position) one assignments)
        (λ given are position none. others_stay assignments given are row position none)
      where
        one : (a : BoundAssignment) → IfOk (value_set shown s row a) (λ given. given.0 ≡ a.column.position)
        one a =
            if_one (value_stored shown s (row ∷ []) a.column.domain a.value) (λ v. (a.column.position, v)) (λ v. ⊤)
            (λ (given : ℕ × Value). given.0 ≡ a.column.position)
            (if_any (value_stored shown s (row ∷ []) a.column.domain a.value)) (λ v any. refl)

    -- a changed row stands for the one under its number
    abbrev IsFor : Table → Numbered → Type 0
    IsFor t c = (r : Numbered) × (row_at t c.number ≡ Some r) × AreAlike assignments r.row c.row

    updated_for : (t : Table) (number : ℕ) → IfOk (updated_under shown s assignments t number) (IsFor t)
    updated_for t number = by_row (row_at t number) refl
      where
        by_row : (o : Option Numbered) → row_at t number ≡ o
            → IfOk (and_then (well_formed o) (numbered_updated shown s assignments)) (IsFor t)
        by_row None e = tt
        by_row (Some r) e =
            if_one (row_updated shown s assignments r.row) (λ row. record { number = r.number; row = row }) (AreAlike assignments r.row)
            (IsFor t) (row_alike r.row)
            (λ row alike. (r, ap (row_at t) (row_among t.rows number r e).0 ∙ e, alike))

    pub all_for : (place : ℕ) (numbers : List ℕ)
        → IfOk (rows_updated shown s assignments place numbers) (AllByRecursion (IsFor (table_at s.tables place)))
    all_for place numbers =
        each_so (updated_under shown s assignments (table_at s.tables place)) (IsFor (table_at s.tables place))
        (updated_for (table_at s.tables place)) numbers

  -- ---- a table with changed rows

  -- under the same number, and the same in each column that gets no value
  abbrev pub IsLike : Numbered → Numbered → Type 0
  IsLike r c = (r.number ≡ c.number) × AreAlike assignments r.row c.row

  abbrev AreLike : List Numbered → List Numbered → Type 0
  AreLike = AllZip IsLike

  itself_like : (rows : List Numbered) → AreLike rows rows
  itself_like [] = tt
  itself_like (r ∷ rows) = ((refl, λ position none. refl), itself_like rows)

  module _ (t : Table) where
    one_replaced : (c : Numbered) (r : Numbered) → row_at t c.number ≡ Some r → AreAlike assignments r.row c.row
        → (rows now : List Numbered) → AllByRecursion (λ x. row_at t x.number ≡ Some x) rows → AreLike rows now
        → AreLike rows (map (λ x. if nat_eq x.number c.number then record { number = c.number; row = c.row } else x) now)
    one_replaced c r there alike [] [] at like = tt
    one_replaced c r there alike [] (y ∷ now) at like = absurd like
    one_replaced c r there alike (x ∷ rows) [] at like = absurd like
    one_replaced c r there alike (x ∷ rows) (y ∷ now) at like =
        (by_number (nat_eq y.number c.number) refl, one_replaced c r there alike rows now at.1 like.1)
      where
        by_number : (b : Bool) → nat_eq y.number c.number ≡ b
            → IsLike x (if b then record { number = c.number; row = c.row } else y)
        by_number false e = like.0
        by_number true e =
            let same : x.number ≡ c.number = like.0.0 ∙ eqb-true y.number c.number e in
            let found : r ≡ x = cc (sym there ∙ ap (row_at t) (sym same) ∙ at.0) in
            (same, subst (λ (z : Numbered). AreAlike assignments z.row c.row) found alike)

    all_replaced : (changed : List Numbered)
        → AllByRecursion (λ c. (r : Numbered) × (row_at t c.number ≡ Some r) × AreAlike assignments r.row c.row) changed
        → (now : Table) → AllByRecursion (λ x. row_at t x.number ≡ Some x) t.rows → AreLike t.rows now.rows
        → AreLike t.rows (with_replaced now changed).rows
    all_replaced [] h now at like = like
    all_replaced (c ∷ changed) h now at like =
        all_replaced changed h.1 (replaced now c.number c.row) at
        (one_replaced c h.0.0 h.0.1 h.0.2 t.rows now.rows at like)

  -- ---- the rows that a walk means

  kept_alike : (test : Numbered → Bool) → ((x y : Numbered) → IsLike x y → test x ≡ test y) → (rows now : List Numbered)
      → AreLike rows now → AreLike (filter test rows) (filter test now)
  kept_alike test h [] [] like = tt
  kept_alike test h [] (y ∷ now) like = absurd like
  kept_alike test h (x ∷ rows) [] like = absurd like
  kept_alike test h (x ∷ rows) (y ∷ now) like = by_tests (test x) (test y) (h x y like.0) (kept_alike test h rows now like.1)
    where
      by_tests : (a b : Bool) → a ≡ b → AreLike (filter test rows) (filter test now)
          → AreLike (cond a (x ∷ filter test rows) (filter test rows)) (cond b (y ∷ filter test now) (filter test now))
      by_tests true true e others = (like.0, others)
      by_tests false false e others = others
      by_tests true false e others = cc
      by_tests false true e others = cc

  numbers_alike : (rows now : List Numbered) → AreLike rows now → map (λ r. r.number) rows ≡ map (λ r. r.number) now
  numbers_alike [] [] like = refl
  numbers_alike [] (y ∷ now) like = absurd like
  numbers_alike (x ∷ rows) [] like = absurd like
  numbers_alike (x ∷ rows) (y ∷ now) like = (λ i. like.0.0 i ∷ numbers_alike rows now like.1 i)

  pub meant_alike : (conditions : List BoundCond) → one_reads assignments conditions ≡ false → (values : List Value) (user : Name)
      (from mark : ℕ) (rows now : List Numbered) → AreLike rows now
      → numbers_meant conditions values user from mark rows ≡ numbers_meant conditions values user from mark now
  meant_alike conditions none values user from mark rows now like =
      numbers_alike (filter (is_meant conditions values user) (rows_between from mark rows)) (filter (is_meant conditions values user) (rows_between from mark now))
      (kept_alike (is_meant conditions values user) (λ x y k. unread assignments conditions none values user x y k.1) (rows_between from mark rows) (rows_between from mark now)
      (kept_alike (λ r. nat_lt r.number mark) (λ x y k. ap (λ n. nat_lt n mark) k.0) (rows_from from rows) (rows_from from now)
      (kept_alike (λ r. nat_le from r.number) (λ x y k. ap (nat_le from) k.0) rows now like)))

-- ---- the tables

other_table : (content : Content) (place : ℕ) (t : Table) (k : ℕ) → (k ≡ place → ⊥)
    → table_at content k ≡ table_at (slice_set content place t) k
other_table [] place t k h = refl
other_table (x ∷ content) zero t zero h = absurd (h refl)
other_table (x ∷ content) zero t (suc k) h = refl
other_table (x ∷ content) (suc place) t zero h = refl
other_table (x ∷ content) (suc place) t (suc k) h = other_table content place t k (λ e. h (ap suc e))

same_place : (P : List Numbered → Type 0) (content : Content) (place : ℕ) (t : Table) → P (table_at content place).rows → P t.rows
    → P (table_at (slice_set content place t) place).rows
same_place P [] place t before after = before
same_place P (x ∷ content) zero t before after = after
same_place P (x ∷ content) (suc place) t before after = same_place P content place t before after

-- what an UPDATE comes to by place
pub record IsUpdated (shown : Shown) (s : Seen) (u : BoundUpdate) (on : Option ℕ) (after : Content) : Type 0 where
  pub changed : List Numbered
  pub made : update_made shown s u on ≡ Ok changed
  pub is : after ≡ with_table s.tables (under u.target).table.place (with_replaced (table_at s.tables (under u.target).table.place) changed)

-- where a walk is not listed, it has the same rows
abbrev pub SameRows : BoundUpdate → Option ℕ → Content → Content → Type 0
SameRows u on before after = (d : DeclaredCursor) (c : WalkingCursor) → is_listed u on d c ≡ false
    → numbers_left d before c ≡ numbers_left d after c

module _ (shown : Shown) (s : Seen) (bases : List BaseTable) (u : BoundUpdate) (on : Option ℕ) (after : Content)
    (rising : has_rising_rows (table_at s.tables (base_of u.target)) ≡ true)
    (e : performed.update_outcome shown s bases u on ≡ Ok after) where
  abbrev next : List Numbered → Content
  next rows = with_table s.tables (under u.target).table.place (with_replaced (table_at s.tables (under u.target).table.place) rows)

  updated : IsUpdated shown s u on after
  updated = by_made (update_made shown s u on) refl e
    where
      by_steps : (rows : List Numbered) (o p q : Outcome (Unit {0}))
          → and_then o (λ _. and_then p (λ _. and_then q (λ _. Ok (next rows)))) ≡ Ok after → after ≡ next rows
      by_steps rows (Ok a) (Ok b) (Ok c) e = let same : next rows ≡ after = cc in sym same
      by_steps rows (Ok a) (Ok b) (Err st) e = cc
      by_steps rows (Ok a) (Err st) q e = cc
      by_steps rows (Err st) p q e = cc

      by_made : (o : Outcome (List Numbered)) → update_made shown s u on ≡ o
          → and_then o (λ rows. by_place.completed shown s bases (under u.target) (map (λ r. r.row) rows) (with_replaced (table_at s.tables (under u.target).table.place) rows)) ≡ Ok after
          → IsUpdated shown s u on after
      by_made (Err st) is e = cc
      by_made (Ok rows) is e = record {
        changed = rows;
        made = is;
        is =
            by_steps rows (by_place.rows_met shown s (under u.target) (map (λ r. r.row) rows))
            (by_place.keys_met (under u.target).table (with_replaced (table_at s.tables (under u.target).table.place) rows))
            (demanded (by_place.references_met bases (next rows)) IntegrityConstraintViolation) e;
      }

  abbrev base : Table
  base = table_at s.tables (base_of u.target)

  after_is : after ≡ with_table s.tables (base_of u.target) (with_replaced base updated.changed)
  after_is =
      updated.is
      ∙ ap (λ place. with_table s.tables place (with_replaced (table_at s.tables place) updated.changed)) (base_is_under u.target)

  made_for : AllByRecursion (λ c. (r : Numbered) × (row_at base c.number ≡ Some r) × AreAlike u.assignments r.row c.row) updated.changed
  made_for =
      known_of (update_made shown s u on)
      (AllByRecursion (λ c. (r : Numbered) × (row_at base c.number ≡ Some r) × AreAlike u.assignments r.row c.row)) updated.changed
      (if_then (numbers_changed shown s u.target on) (rows_updated shown s u.assignments (base_of u.target)) (λ numbers. ⊤)
      (AllByRecursion (λ c. (r : Numbered) × (row_at base c.number ≡ Some r) × AreAlike u.assignments r.row c.row))
      (if_any (numbers_changed shown s u.target on)) (λ numbers any. all_for u.assignments shown s (base_of u.target) numbers))
      updated.made

  rows_like : AllZip (IsLike u.assignments) base.rows (with_replaced base updated.changed).rows
  rows_like =
      all_replaced u.assignments base updated.changed made_for base (all_there 1 base.next base.rows base.rows rising (all_within base.rows))
      (itself_like u.assignments base.rows)

  abbrev rows_left : DeclaredCursor → WalkingCursor → Table → List ℕ
  rows_left d c t = numbers_meant (conditions_in d.cursor.body) c.values d.user c.next c.mark t.rows

  -- the base table after it, of which something is known where it has the changed rows, and where it is as before
  base_after : (P : List Numbered → Type 0) → P base.rows → P (with_replaced base updated.changed).rows
      → P (table_at after (base_of u.target)).rows
  base_after P before now =
      subst (λ (content : Content). P (table_at content (base_of u.target)).rows) (sym after_is)
      (same_place P s.tables (base_of u.target) (with_replaced base updated.changed) before now)

  pub unread_rows : SameRows u on s.tables after
  unread_rows d c none = by_table (nat_eq c.table (base_of u.target)) refl none
    where
      by_reading : (b : Bool) → one_reads u.assignments (conditions_in d.cursor.body) ≡ b → (b && may_change_left u.target on c) ≡ false
          → rows_left d c base ≡ rows_left d c (table_at after (base_of u.target))
      by_reading false unread h =
          meant_alike u.assignments (conditions_in d.cursor.body) unread c.values d.user c.next c.mark base.rows (table_at after (base_of u.target)).rows
          (base_after (AllZip (IsLike u.assignments) base.rows) (itself_like u.assignments base.rows) rows_like)
      by_reading true read h =
          base_after (λ rows. rows_left d c base ≡ numbers_meant (conditions_in d.cursor.body) c.values d.user c.next c.mark rows) refl
          (not_left_same c (conditions_in d.cursor.body) d.user updated.changed
          (changed_not_left c shown s u.assignments (base_of u.target) updated.changed u.target on h updated.made) base)

      by_table : (b : Bool) → nat_eq c.table (base_of u.target) ≡ b
          → ((b && one_reads u.assignments (conditions_in d.cursor.body)) && may_change_left u.target on c) ≡ false
          → rows_left d c (table_at s.tables c.table) ≡ rows_left d c (table_at after c.table)
      by_table false is h =
          ap (rows_left d c) (other_table s.tables (base_of u.target) (with_replaced base updated.changed) c.table (unequal c.table (base_of u.target) is)
          ∙ ap (λ (content : Content). table_at content c.table) (sym after_is))
      by_table true is h =
          let here : c.table ≡ base_of u.target = eqb-true c.table (base_of u.target) is in
          subst (λ k. rows_left d c (table_at s.tables k) ≡ rows_left d c (table_at after k)) (sym here)
          (by_reading (one_reads u.assignments (conditions_in d.cursor.body)) refl h)
