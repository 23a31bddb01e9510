-- OPEN leaves a session's cursor over what the machine's is over, and ends with the same status
-- (ISO/IEC 9075:1992, 13.2): over the rows of its query in their order, or over the numbers of the rows
-- that an updatable query means.
use Rattle.std.proofs.Common.{◌≡◌, ℕ, Bool, true, false, List, [], ◌∷◌, Some, refl, sym, subst, Ok, Err}
use Rattle.std.specs.Prelude.{if◌then◌else◌, slice_get, IfOk}
use Rattle.sq_lex.specs.declared.name.Name.{Name}
use Rattle.sq_tree.specs.declared.«module».Cursor.{Cursor}
use Rattle.sq_value.specs.declared.value.Value.{Value}
use Rattle.sq_store.specs.Content.{Content, table_at}
use Rattle.sq_meaning.specs.Environment.{Row}
use Rattle.sq_meaning.specs.Status.{Outcome, and_then}
use Rattle.sq_meaning.specs.declared.status.Status.TheVariants as status
use Rattle.sq_meaning.specs.Cursor as machine
use Rattle.sq_meaning.specs.Machine as by_name
use Rattle.sq_meaning.specs.Machine.{Running, cursor_now, moved, open_by, open_cursor}
use Rattle.sq_module.specs.declared.program.DeclaredCursor.{DeclaredCursor}
use Rattle.sq_session.specs.Kind.{Opening}
use Rattle.sq_session.specs.Open.{IsMeantIfAny, IsOpenOver, numbers_opened, rows_opened}
use Rattle.sq_session.specs.Schemas.{Schemas}
use Rattle.sq_session.specs.State.{State, cursor_at, is_open}
use Rattle.sq_session.specs.Step.{MayOpen, MayOpenIf, OpensAs}
use Rattle.sq_session.specs.declared.cursor.CursorState.{CursorState}
use Rattle.sq_session.specs.declared.reply.Done.{Done}
use Rattle.sq_run.proofs.OpenCursors.NumbersLeft.{AreBelow}
use Rattle.sq_run.proofs.OpenCursors.SameCursors.{IsOnly}
use Rattle.sq_run.proofs.Steps.SameStates.{SameCursor, SameReply, SameStates, ended_same, moved_same, now_same, open_same}

-- Both are open over the same rows, or end with the same status.
abbrev pub OpensAlike : Content → DeclaredCursor → Outcome CursorState → Outcome machine.CursorState → Type 0
OpensAlike tables d (Ok c) o = (x : machine.CursorState) × (o ≡ Ok x) × SameCursor tables d c x
OpensAlike tables d (Err st) o = o ≡ Err st

-- over the same rows,
pub rows_alike : (tables : Content) (d : DeclaredCursor) (found : Outcome (List Row))
    → OpensAlike tables d (rows_opened found) (and_then found (λ rows. Ok (machine.before_rows rows)))
rows_alike tables d (Ok rows) = (machine.before_rows rows, refl, refl)
rows_alike tables d (Err st) = refl

-- or over the same numbers
pub numbers_alike : (tables : Content) (d : DeclaredCursor) (table : ℕ) (found : Outcome (List ℕ))
    → IfOk found (AreBelow (table_at tables table).next)
    → OpensAlike tables d (numbers_opened table found) (and_then found (λ numbers. Ok (machine.before_numbers numbers)))
numbers_alike tables d table (Ok []) below =
    (machine.before_numbers [], refl, record { numbers = []; is = refl; same = refl; below = tt; left_below = tt })
numbers_alike tables d table (Ok (n ∷ numbers)) below =
    (machine.before_numbers (n ∷ numbers), refl, record { numbers = n ∷ numbers; is = refl; same = refl; below = below; left_below = below })
numbers_alike tables d table (Err st) below = refl

module _ (declared : List DeclaredCursor) (s : State) (r : Running) (same : SameStates declared s r.state) (name : Name) (n : ℕ)
    (only : IsOnly (SameCursor s.tables) r.in_module.name name r.state.cursors n) (c : DeclaredCursor)
    (there : slice_get declared n ≡ Some c) (cur : Cursor) where
  by_opened : (opened : Outcome CursorState) (o : Outcome machine.CursorState) → OpensAlike s.tables c opened o → (d : Done)
      (after : State) → OpensAs opened n s d after
      → SameStates declared after (open_by r name o).0 × SameReply d (open_by r name o).1
  by_opened (Ok y) o h d after e =
      subst (λ z. SameStates declared after (open_by r name z).0 × SameReply d (open_by r name z).1) (sym h.1) (
        subst (λ z. SameStates declared z (moved r name h.0)) (sym e.1) (moved_same declared s r same name n only c there y h.0 h.2),
        ended_same d status.SuccessfulCompletion e.0,
      )
  by_opened (Err st) o h d after e =
      subst (λ z. SameStates declared after (open_by r name z).0 × SameReply d (open_by r name z).1) (sym h)
      (subst (λ z. SameStates declared z r.state) (sym e.1) same, ended_same d st e.0)

  -- OPEN keeps what the states are to each other, and ends alike, where both go over the same.
  pub opened_same : (schemas : Schemas) (o : Opening) (values : List Value) → o.cursor ≡ n
      → ((opened : Outcome CursorState) → IsOpenOver o.over values s.tables opened
      → IsMeantIfAny schemas o.body o.user o.parameters values s.tables opened → OpensAlike s.tables c opened (by_name.opened r cur))
      → (d : Done) (after : State) → MayOpen schemas o values s d after
      → SameStates declared after (open_cursor r name cur).0 × SameReply d (open_cursor r name cur).1
  opened_same schemas o values at alike d after e =
      by_open (is_open (cursor_at s n)) (machine.is_open (cursor_now r name))
      (open_same s.tables c (cursor_at s n) (cursor_now r name) (now_same declared s r same name n only c there))
      (subst (λ k. MayOpenIf (is_open (cursor_at s k)) schemas (record o { cursor = k }) values s d after) at e)
    where
      by_open : (a b : Bool) → a ≡ b → MayOpenIf a schemas (record o { cursor = n }) values s d after
          → SameStates declared after (if b then by_name.ends_with r status.InvalidCursorState else open_by r name (by_name.opened r cur)).0
          × SameReply d (if b then by_name.ends_with r status.InvalidCursorState else open_by r name (by_name.opened r cur)).1
      by_open true true q e = (subst (λ z. SameStates declared z r.state) (sym e.1) same, ended_same d status.InvalidCursorState e.0)
      by_open false false q e = by_opened e.0 (by_name.opened r cur) (alike e.0 e.1 e.2) d after e.3
      by_open true false q e = cc
      by_open false true q e = cc
