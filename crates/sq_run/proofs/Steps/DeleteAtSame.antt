-- A positioned DELETE changes the row that both cursors are on, takes both off it, and ends alike
-- (ISO/IEC 9075:1992, 13.6).
use Rattle.std.proofs.Common.{◌≡◌, ℕ, true, List, Option, Some, None, refl, sym, ap, subst, ◌∙◌, Ok}
use Rattle.std.specs.Prelude.{◌==◌, find, is_some, option_and_then, option_map, slice_get}
use Rattle.sq_lex.specs.declared.name.Name.{Name}
use Rattle.sq_tree.specs.declared.«module».Cursor.{Cursor}
use Rattle.sq_tree.specs.declared.statement.Delete.{Delete}
use Rattle.sq_tree.specs.declared.statement.Where.TheVariants as rows_where
use Rattle.sq_value.specs.declared.value.Value.{Value}
use Rattle.sq_store.specs.Content.{Content, row_at, table_at}
use Rattle.sq_store.specs.Rising.{has_rising_rows}
use Rattle.sq_store.specs.declared.table.Numbered.{Numbered}
use Rattle.sq_meaning.specs.Status.{Outcome, and_then, or_status}
use Rattle.sq_meaning.specs.Target.{Target}
use Rattle.sq_meaning.specs.declared.status.Status.TheVariants as status
use Rattle.sq_meaning.specs.Module.{cursor_named}
use Rattle.sq_meaning.specs.WellFormedStatement.{updatable_cursor}
use Rattle.sq_meaning.specs.Change.{Which, delete_outcome}
use Rattle.sq_meaning.specs.Cursor as machine
use Rattle.sq_meaning.specs.Machine as by_name
use Rattle.sq_meaning.specs.Machine.{Running, behind_delete, change_by, current_number, cursor_now, delete_rows, moved, row_is_there, setting, surroundings}
use Rattle.sq_bound.specs.declared.statement.ChangeTarget.TheVariants as change
use Rattle.sq_bound.specs.declared.statement.PositionedTarget.{PositionedTarget}
use Rattle.sq_module.specs.declared.program.DeclaredCursor.{DeclaredCursor}
use Rattle.sq_session.specs.Kind.{Caller}
use Rattle.sq_session.specs.Schemas.{Schemas}
use Rattle.sq_session.specs.State.{State, cursor_at, number_on, off_row}
use Rattle.sq_session.specs.Step.{DeleteComesTo, MayDeleteAt, is_on_row, left_row, on_row}
use Rattle.sq_session.specs.declared.cursor.CursorState.{CursorState}
use Rattle.sq_session.specs.declared.cursor.CursorState.TheVariants as cursor
use Rattle.sq_session.specs.declared.reply.Done.{Done}
use Rattle.sq_run.proofs.Steps.DeleteSame.{change_same, rows_gone_at}
use Rattle.sq_run.proofs.OpenCursors.SameCursors.{IsOnly}
use Rattle.sq_run.proofs.Steps.SameStates.{SameCursor, SameReply, SameStates, ended_same, moved_same, now_same}

-- Both cursors are on the same number.
pub on_same : (tables : Content) (d : DeclaredCursor) (y : CursorState) (x : machine.CursorState) → SameCursor tables d y x
    → machine.number_on x ≡ number_on y
on_same tables d cursor.Closed x h = ap machine.number_on h
on_same tables d (cursor.Rows c) x h = ap machine.number_on h
on_same tables d (cursor.Numbers c) x h = ap machine.number_on h.is
on_same tables d (cursor.Walking c) x h = ap machine.number_on h.is

-- Both cursors are taken off their row alike.
pub off_same : (tables : Content) (d : DeclaredCursor) (y : CursorState) (x : machine.CursorState) → SameCursor tables d y x
    → SameCursor tables d (off_row y) (machine.off_row x)
off_same tables d cursor.Closed x h = ap machine.off_row h
off_same tables d (cursor.Rows c) x h = ap machine.off_row h
off_same tables d (cursor.Numbers c) x h = record { numbers = h.numbers; is = ap machine.off_row h.is; same = h.same; below = h.below; left_below = h.left_below }
off_same tables d (cursor.Walking c) x h = record { numbers = h.numbers; is = ap machine.off_row h.is; same = h.same; below = h.below; marked = h.marked }

module _ (declared : List DeclaredCursor) (s : State) (r : Running) (same : SameStates declared s r.state) (name : Name)
    (p : PositionedTarget)
    (only : IsOnly (SameCursor s.tables) r.in_module.name name r.state.cursors p.cursor) (c : DeclaredCursor)
    (there : slice_get declared p.cursor ≡ Some c) (cur : Cursor) (is_named : cursor_named r.in_module name ≡ Some cur) (target : Target)
    (meant : updatable_cursor (surroundings r) cur ≡ Some target) (place : target.place ≡ p.base) where
  now_is : SameCursor s.tables c (cursor_at s p.cursor) (cursor_now r name)
  now_is = now_same declared s r same name p.cursor only c there

  -- the number that both are on, if its row is there
  pub current_is : current_number r name ≡ option_and_then (λ n. option_map (λ x. n) (row_at (table_at s.tables p.base) n)) (on_row s p)
  current_is =
      ap (λ o. option_and_then (λ k. option_and_then (λ t. option_and_then (row_is_there r t) (machine.number_on (cursor_now r name))) (updatable_cursor (surroundings r) k)) o) is_named
      ∙ ap (λ o. option_and_then (λ t. option_and_then (row_is_there r t) (machine.number_on (cursor_now r name))) o) meant
      ∙ ap (option_and_then (row_is_there r target)) (on_same s.tables c (cursor_at s p.cursor) (cursor_now r name) now_is)
      ∙ by_number (on_row s p)
    where
      of_row : (n : ℕ) (o : Option Numbered) → option_map (λ row. n) (option_map (λ x. x.row) o) ≡ option_map (λ x. n) o
      of_row n None = refl
      of_row n (Some x) = refl

      by_number : (o : Option ℕ)
          → option_and_then (row_is_there r target) o ≡ option_and_then (λ n. option_map (λ x. n) (row_at (table_at s.tables p.base) n)) o
      by_number None = refl
      by_number (Some n) =
          (λ i. option_map (λ row. n) (option_map (λ x. x.row) (find (λ x. x.number == n) (table_at (same.tables i) (place i)).rows)))
          ∙ of_row n (row_at (table_at s.tables p.base) n)

  module _ (x : Delete) (is_at : x.target ≡ Some (rows_where.CurrentOf name))
      (rising : (k : ℕ) → has_rising_rows (table_at s.tables k) ≡ true) (schemas : Schemas) (caller : Caller) (values : List Value)
      (alike : (n : ℕ) (row : Numbered) → row_at (table_at s.tables p.base) n ≡ Some row → on_row s p ≡ Some n → (done : Outcome Content)
      → DeleteComesTo schemas caller values (change.Positioned p) (on_row s p) s.tables done
      → done ≡ delete_outcome (setting r) x (Which.numbered n)) where
    abbrev deleted : Outcome Content
    deleted = and_then (and_then (or_status status.InvalidCursorState (current_number r name)) (λ n. Ok (Which.numbered n))) (delete_outcome (setting r) x)

    abbrev Both : Done → State → Outcome Content → Type 0
    Both d after o =
        SameStates declared after (change_by r (moved r name (machine.off_row (cursor_now r name))) o).0
        × SameReply d (change_by r (moved r name (machine.off_row (cursor_now r name))) o).1

    moved_off : SameStates declared (left_row s p) (moved r name (machine.off_row (cursor_now r name)))
    moved_off =
        moved_same declared s r same name p.cursor only c there (off_row (cursor_at s p.cursor)) (machine.off_row (cursor_now r name))
        (off_same s.tables c (cursor_at s p.cursor) (cursor_now r name) now_is)

    by_row : (on : Option ℕ) → on_row s p ≡ on → (found : Option Numbered)
        → option_and_then (row_at (table_at s.tables p.base)) on ≡ found → (d : Done) (after : State)
        → MayDeleteAt (is_some found) schemas caller p values s d after
        → Both d after (and_then (and_then (or_status status.InvalidCursorState (option_and_then (λ n. option_map (λ z. n) (row_at (table_at s.tables p.base) n)) on)) (λ n. Ok (Which.numbered n))) (delete_outcome (setting r) x))
    by_row None on (Some row) found d after h = cc
    by_row None on None found d after h =
        (subst (λ y. SameStates declared y r.state) (sym h.1) same, ended_same d status.InvalidCursorState h.0)
    by_row (Some n) on None found d after h =
        subst (λ o. Both d after (and_then (and_then (or_status status.InvalidCursorState (option_map (λ z. n) o)) (λ k. Ok (Which.numbered k))) (delete_outcome (setting r) x))) (sym found)
        (subst (λ y. SameStates declared y r.state) (sym h.1) same, ended_same d status.InvalidCursorState h.0)
    by_row (Some n) on (Some row) found d after h =
        subst (λ o. Both d after (and_then (and_then (or_status status.InvalidCursorState (option_map (λ z. n) o)) (λ k. Ok (Which.numbered k))) (delete_outcome (setting r) x))) (sym found)
        (change_same declared s r same (left_row s p) (moved r name (machine.off_row (cursor_now r name))) h.0 (delete_outcome (setting r) x (Which.numbered n))
        (alike n row found on h.0 h.1)
        (rows_gone_at declared s r same rising (left_row s p) (moved r name (machine.off_row (cursor_now r name))) moved_off.committed moved_off.cursors x (Which.numbered n)) d after h.2)

    -- A positioned DELETE keeps what the states are to each other, and ends alike.
    pub delete_at_same : (d : Done) (after : State) → MayDeleteAt (is_on_row s p) schemas caller p values s d after
        → SameStates declared after (change_by r (behind_delete r x.target) (delete_rows r x)).0
        × SameReply d (change_by r (behind_delete r x.target) (delete_rows r x)).1
    delete_at_same d after h =
        subst (λ w. SameStates declared after (change_by r (behind_delete r w) (and_then (by_name.which_rows r w) (delete_outcome (setting r) x))).0
        × SameReply d (change_by r (behind_delete r w) (and_then (by_name.which_rows r w) (delete_outcome (setting r) x))).1) (sym is_at)
        (subst (λ o. Both d after (and_then (and_then (or_status status.InvalidCursorState o) (λ n. Ok (Which.numbered n))) (delete_outcome (setting r) x))) (sym current_is)
        (by_row (on_row s p) refl (option_and_then (row_at (table_at s.tables p.base)) (on_row s p)) refl d after h))
