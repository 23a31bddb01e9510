-- A walk to which the changed row is not left has the same rows after a positioned UPDATE (ISO/IEC 9075:1992, 13.3 and
-- 13.9): the walk has passed the row, or the row was inserted after OPEN.
use Rattle.std.proofs.Common.{◌≡◌, ℕ, cond, Bool, true, false, List, [], ◌∷◌, filter, map, Option, Some, None, refl, sym, ap, ◌∙◌, eqb-true, Ok}
use Rattle.std.specs.Prelude.{⊤, if◌then◌else◌, nat_eq, nat_le, nat_lt, IfOk}
use Rattle.std.specs.List.{AllByRecursion}
use Rattle.sq_lex.specs.declared.name.Name.{Name}
use Rattle.sq_store.specs.Content.{replaced, row_at, table_at}
use Rattle.sq_store.specs.declared.table.Numbered.{Numbered}
use Rattle.sq_store.specs.declared.table.Table.{Table}
use Rattle.sq_meaning.specs.Status.{and_then, well_formed}
use Rattle.sq_meaning.specs.Words.{is_some_and}
use Rattle.sq_bound.specs.declared.condition.BoundCond.{BoundCond}
use Rattle.sq_bound.specs.declared.statement.BoundAssignment.{BoundAssignment}
use Rattle.sq_bound.specs.declared.statement.ChangeTarget.{ChangeTarget}
use Rattle.sq_bound.specs.declared.statement.ChangeTarget.TheVariants as target
use Rattle.sq_change.specs.Made.{Seen, Shown, number_given, numbered_updated, numbers_changed, row_updated, rows_updated, updated_under}
use Rattle.sq_change.specs.Statement.{with_replaced}
use Rattle.sq_session.specs.Cursors.{is_left, may_change_left}
use Rattle.sq_session.specs.Walk.{is_meant, numbers_meant}
use Rattle.sq_session.specs.declared.walk.WalkingCursor.{WalkingCursor}
use Rattle.sq_run.proofs.Changed.RowsAgain.{row_among}
use Rattle.sq_run.proofs.OpenCursors.WalkLeft.{filtered_both}
use Rattle.sq_run.proofs.Places.Outcomes.{if_any, if_one, known_of}

-- ---- rows whose numbers pass a test, beside others that are replaced

module _ (test : ℕ → Bool) where
  abbrev passing : List Numbered → List Numbered
  passing rows = filter (λ r. test r.number) rows

  one_beside : (c : Numbered) → test c.number ≡ false → (rows : List Numbered)
      → passing rows ≡ passing (map (λ r. if nat_eq r.number c.number then record { number = c.number; row = c.row } else r) rows)
  one_beside c fails [] = refl
  one_beside c fails (r ∷ rows) =
      by_number (map (λ x. if nat_eq x.number c.number then record { number = c.number; row = c.row } else x) rows)
      (nat_eq r.number c.number) refl (one_beside c fails rows)
    where
      by_number : (now : List Numbered) (b : Bool) → nat_eq r.number c.number ≡ b → passing rows ≡ passing now
          → passing (r ∷ rows) ≡ passing ((if b then record { number = c.number; row = c.row } else r) ∷ now)
      by_number now true is same =
          ap (λ b. cond b (r ∷ passing rows) (passing rows)) (ap test (eqb-true r.number c.number is) ∙ fails)
          ∙ same ∙ sym (ap (λ b. cond b (record { number = c.number; row = c.row } ∷ passing now) (passing now)) fails)
      by_number now false is same = (λ i. cond (test r.number) (r ∷ same i) (same i))

  pub all_beside : (changed : List Numbered) → AllByRecursion (λ c. test c.number ≡ false) changed → (t : Table)
      → passing t.rows ≡ passing (with_replaced t changed).rows
  all_beside [] fail t = refl
  all_beside (c ∷ changed) fail t = one_beside c fail.0 t.rows ∙ all_beside changed fail.1 (replaced t c.number c.row)

-- ---- a walk

module _ (c : WalkingCursor) where
  -- the changed rows are not left to the walk
  abbrev pub AreNotLeft : List Numbered → Type 0
  AreNotLeft changed = AllByRecursion (λ r. is_left c r.number ≡ false) changed

  -- So it has the same rows.
  pub not_left_same : (conditions : List BoundCond) (user : Name) (changed : List Numbered) → AreNotLeft changed → (t : Table)
      → numbers_meant conditions c.values user c.next c.mark t.rows
      ≡ numbers_meant conditions c.values user c.next c.mark (with_replaced t changed).rows
  not_left_same conditions user changed h t =
      ap (λ rows. map (λ (r : Numbered). r.number) (filter (is_meant conditions c.values user) rows))
      (filtered_both (λ r. nat_le c.next r.number) (λ r. nat_lt r.number c.mark) t.rows
      ∙ all_beside (is_left c) changed h t
      ∙ sym (filtered_both (λ r. nat_le c.next r.number) (λ r. nat_lt r.number c.mark) (with_replaced t changed).rows))

  module _ (shown : Shown) (s : Seen) (assignments : List BoundAssignment) (place : ℕ) (changed : List Numbered) where
    one_changed : (n : ℕ) → is_left c n ≡ false
        → IfOk (updated_under shown s assignments (table_at s.tables place) n) (λ r. is_left c r.number ≡ false)
    one_changed n passed = by_row (row_at (table_at s.tables place) n) refl
      where
        by_row : (o : Option Numbered) → row_at (table_at s.tables place) n ≡ o
            → IfOk (and_then (well_formed o) (numbered_updated shown s assignments)) (λ r. is_left c r.number ≡ false)
        by_row None e = tt
        by_row (Some r) e =
            if_one (row_updated shown s assignments r.row) (λ row. record { number = r.number; row = row }) (λ row. ⊤)
            (λ (x : Numbered). is_left c x.number ≡ false) (if_any (row_updated shown s assignments r.row))
            (λ row any. ap (is_left c) (row_among (table_at s.tables place).rows n r e).0 ∙ passed)

    -- A positioned UPDATE whose row is not left to the walk changes no row that is left to it.
    pub changed_not_left : (t : ChangeTarget) (on : Option ℕ) → may_change_left t on c ≡ false
        → and_then (numbers_changed shown s t on) (rows_updated shown s assignments place) ≡ Ok changed → AreNotLeft changed
    changed_not_left (target.Searched t) on none made = cc
    changed_not_left (target.Positioned p) on none made = by_number on none made
      where
        by_number : (o : Option ℕ) → is_some_and (is_left c) o ≡ false
            → and_then (number_given o) (rows_updated shown s assignments place) ≡ Ok changed → AreNotLeft changed
        by_number None none made = cc
        by_number (Some n) none made =
            known_of (rows_updated shown s assignments place (n ∷ [])) AreNotLeft changed
            (if_one (updated_under shown s assignments (table_at s.tables place) n) (λ r. r ∷ []) (λ r. is_left c r.number ≡ false)
            AreNotLeft (one_changed n none) (λ r passed. (passed, tt)))
            made
