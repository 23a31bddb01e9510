-- A positioned UPDATE changes the row that both cursors are on, leaves them on it, and ends alike
-- (ISO/IEC 9075:1992, 13.9).
use Rattle.std.proofs.Common.{◌≡◌, ℕ, true, false, List, Option, Some, None, refl, sym, subst, Ok, Err}
use Rattle.std.specs.Prelude.{is_some, option_and_then, option_map, slice_get}
use Rattle.sq_lex.specs.declared.name.Name.{Name}
use Rattle.sq_tree.specs.declared.«module».Cursor.{Cursor}
use Rattle.sq_tree.specs.declared.statement.Update.{Update}
use Rattle.sq_tree.specs.declared.statement.Where.TheVariants as rows_where
use Rattle.sq_value.specs.declared.value.Value.{Value}
use Rattle.sq_store.specs.Content.{Content, row_at, table_at}
use Rattle.sq_store.specs.Rising.{has_rising_rows}
use Rattle.sq_store.specs.declared.table.Numbered.{Numbered}
use Rattle.sq_meaning.specs.Status.{Outcome, and_then, or_status}
use Rattle.sq_meaning.specs.Target.{Target}
use Rattle.sq_meaning.specs.declared.status.Status.TheVariants as status
use Rattle.sq_meaning.specs.Module.{cursor_named}
use Rattle.sq_meaning.specs.WellFormedStatement.{updatable_cursor}
use Rattle.sq_meaning.specs.Change.{Which, update_outcome}
use Rattle.sq_meaning.specs.Machine as by_name
use Rattle.sq_meaning.specs.Machine.{Running, change_by, setting, surroundings, update_rows}
use Rattle.sq_bound.specs.declared.statement.PositionedTarget.{PositionedTarget}
use Rattle.sq_module.specs.declared.program.DeclaredCursor.{DeclaredCursor}
use Rattle.sq_session.specs.Kind.{Updating}
use Rattle.sq_session.specs.Schemas.{Schemas}
use Rattle.sq_session.specs.State.{State}
use Rattle.sq_session.specs.Step.{HasTables, MayUpdateAt, UpdateComesTo, is_on_row, on_row, walks_listed}
use Rattle.sq_session.specs.declared.reply.Done.{Done}
use Rattle.sq_run.proofs.Steps.DeleteAtSame.{current_is}
use Rattle.sq_run.proofs.Steps.DeleteSame.{change_same}
use Rattle.sq_run.proofs.OpenCursors.SameCursors.{IsOnly}
use Rattle.sq_run.proofs.Steps.SameStates.{SameCursor, SameReply, SameStates, ended_same}
use Rattle.sq_run.proofs.Steps.UpdateSame.{rows_update}

module _ (s : State) (r : Running) (u : Updating) (same : SameStates u.cursors s r.state) (name : Name) (p : PositionedTarget)
    (only : IsOnly (SameCursor s.tables) r.in_module.name name r.state.cursors p.cursor) (c : DeclaredCursor)
    (there : slice_get u.cursors p.cursor ≡ Some c) (cur : Cursor) (is_named : cursor_named r.in_module name ≡ Some cur) (target : Target)
    (meant : updatable_cursor (surroundings r) cur ≡ Some target) (place : target.place ≡ p.base) (x : Update)
    (is_at : x.target ≡ Some (rows_where.CurrentOf name)) (schemas : Schemas) (values : List Value) (shown : HasTables schemas s.tables)
    (rising : (k : ℕ) → has_rising_rows (table_at s.tables k) ≡ true)
    (alike : (n : ℕ) (row : Numbered) → row_at (table_at s.tables p.base) n ≡ Some row → on_row s p ≡ Some n → (done : Outcome Content)
    → UpdateComesTo schemas u values (on_row s p) s.tables done → done ≡ update_outcome (setting r) x (Which.numbered n)) where
  abbrev Both : Done → State → Outcome Content → Type 0
  Both d after o = SameStates u.cursors after (change_by r r.state o).0 × SameReply d (change_by r r.state o).1

  -- the row under the number that the cursor is on, if there is one, is changed
  abbrev updated_at : Option ℕ → Outcome Content
  updated_at on = and_then (and_then (or_status status.InvalidCursorState on) (λ n. Ok (Which.numbered n))) (update_outcome (setting r) x)

  refused : (d : Done) (after : State) → MayUpdateAt false schemas u p values s d after → Both d after (Err status.InvalidCursorState)
  refused d after h =
      (subst (λ y. SameStates u.cursors y r.state) (sym h.1) same, ended_same d status.InvalidCursorState h.0)

  by_row : (on : Option ℕ) → on_row s p ≡ on → (found : Option Numbered)
      → option_and_then (row_at (table_at s.tables p.base)) on ≡ found → (d : Done) (after : State)
      → MayUpdateAt (is_some found) schemas u p values s d after
      → Both d after (updated_at (option_and_then (λ n. option_map (λ z. n) (row_at (table_at s.tables p.base) n)) on))
  by_row None on (Some row) found d after h = cc
  by_row None on None found d after h = refused d after h
  by_row (Some n) on None found d after h =
      subst (λ o. Both d after (updated_at (option_map (λ z. n) o))) (sym found) (refused d after h)
  by_row (Some n) on (Some row) found d after h =
      subst (λ o. Both d after (updated_at (option_map (λ z. n) o))) (sym found)
      (change_same u.cursors s r same (walks_listed u (on_row s p) s) r.state h.0 (update_outcome (setting r) x (Which.numbered n)) (alike n row found on h.0 h.1)
      (rows_update s r u (on_row s p) same schemas values shown rising x (Which.numbered n) (alike n row found on) h.0 h.1) d after h.2)

  -- A positioned UPDATE keeps what the states are to each other, and ends alike.
  pub update_at_same : (d : Done) (after : State) → MayUpdateAt (is_on_row s p) schemas u p values s d after
      → SameStates u.cursors after (change_by r r.state (update_rows r x)).0
      × SameReply d (change_by r r.state (update_rows r x)).1
  update_at_same d after h =
      subst (λ w. Both d after (and_then (by_name.which_rows r w) (update_outcome (setting r) x))) (sym is_at)
      (subst (λ o. Both d after (updated_at o)) (sym (current_is u.cursors s r same name p only c there cur is_named target meant place))
      (by_row (on_row s p) refl (option_and_then (row_at (table_at s.tables p.base)) (on_row s p)) refl d after h))
