-- What a session's state is to the machine's (ISO/IEC 9075:1992, 4.21 and 4.28): the tables are the same,
-- now and as they were committed, and so are the cursors, of which the session keeps some as walks over
-- their tables. CLOSE, COMMIT and ROLLBACK keep it so, and end alike.
use Rattle.std.proofs.Common.{◌≡◌, ℕ, Bool, true, false, List, [], ◌∷◌, map, Some, refl, sym, ap, subst}
use Rattle.std.specs.Prelude.{if◌then◌else◌, slice_get}
use Rattle.sq_lex.specs.declared.name.Name.{Name}
use Rattle.sq_store.specs.Content.{Content, table_at}
use Rattle.sq_meaning.specs.declared.status.Status.{Status}
use Rattle.sq_meaning.specs.declared.status.Status.TheVariants as status
use Rattle.sq_meaning.specs.Cursor as machine
use Rattle.sq_meaning.specs.Machine as by_name
use Rattle.sq_meaning.specs.Machine.{CursorEntry, Running, close_cursor, cursor_now, moved}
use Rattle.sq_meaning.specs.Parameter.{Assignment, Reply, replied_with}
use Rattle.sq_module.specs.declared.program.DeclaredCursor.{DeclaredCursor}
use Rattle.sq_session.specs.Kind.{conditions_in}
use Rattle.sq_session.specs.State.{State, cursor_at, is_open, with_cursor}
use Rattle.sq_session.specs.State as session
use Rattle.sq_session.specs.Step.{Ends, MayClose, MayCloseIf}
use Rattle.sq_session.specs.Target.{ended}
use Rattle.sq_session.specs.declared.cursor.CursorState.{CursorState}
use Rattle.sq_session.specs.declared.cursor.CursorState.TheVariants as cursor
use Rattle.sq_session.specs.declared.reply.Done.{Done}
use Rattle.sq_session.specs.declared.reply.Output.{Output}
use Rattle.sq_run.proofs.OpenCursors.NumbersLeft.{SameNumbers}
use Rattle.sq_run.proofs.OpenCursors.SameCursors.{AreSame, IsOnly, closed_same, found_same, set_same}
use Rattle.sq_run.proofs.OpenCursors.WalkLeft.{SameWalk}

-- ---- replies

abbrev pub assignment_of : Output → Assignment
assignment_of o = record { name = o.name; value = o.value }

-- Two replies have the same status and the same values of parameters.
pub record SameReply (d : Done) (reply : Reply) : Type 0 where
  pub status : d.status ≡ reply.status
  pub outputs : map assignment_of d.outputs ≡ reply.outputs

pub ended_same : (d : Done) (st : Status) → d ≡ ended st → SameReply d (replied_with st)
ended_same d st e = subst (λ x. SameReply x (replied_with st)) (sym e) (record { status = refl; outputs = refl })

-- ---- states

-- the session's cursor of a declared one, in these tables, and the machine's
abbrev pub SameCursor : Content → DeclaredCursor → CursorState → machine.CursorState → Type 0
SameCursor tables d cursor.Closed x = x ≡ machine.CursorState.closed
SameCursor tables d (cursor.Rows c) x = x ≡ machine.CursorState.over_rows c.rows c.place
SameCursor tables d (cursor.Numbers c) x = SameNumbers (table_at tables c.table) c x
SameCursor tables d (cursor.Walking c) x = SameWalk (conditions_in d.cursor.body) d.user (table_at tables c.table) c x

pub record SameStates (declared : List DeclaredCursor) (s : State) (x : by_name.State) : Type 0 where
  pub tables : x.tables ≡ s.tables
  pub committed : x.committed ≡ s.committed
  pub cursors : AreSame (SameCursor s.tables) declared s.cursors x.cursors

-- Both cursors are open, or neither is.
pub open_same : (tables : Content) (d : DeclaredCursor) (c : CursorState) (x : machine.CursorState) → SameCursor tables d c x
    → is_open c ≡ machine.is_open x
open_same tables d cursor.Closed x h = sym (ap machine.is_open h)
open_same tables d (cursor.Rows c) x h = sym (ap machine.is_open h)
open_same tables d (cursor.Numbers c) x h = sym (ap machine.is_open h.is)
open_same tables d (cursor.Walking c) x h = sym (ap machine.is_open h.is)

-- ---- COMMIT and ROLLBACK (14.3 and 14.4)

module _ (declared : List DeclaredCursor) (s : State) (x : by_name.State) (same : SameStates declared s x) where
  pub commit_same : (d : Done) (after : State) → Ends (session.committed_state s) d after
      → SameStates declared after (by_name.committed_state x) × SameReply d (replied_with status.SuccessfulCompletion)
  commit_same d after h = (
    subst (λ y. SameStates declared y (by_name.committed_state x)) (sym h.1) (record {
      tables = same.tables;
      committed = same.tables;
      cursors = closed_same (SameCursor s.tables) (λ c. refl) declared s.cursors x.cursors same.cursors;
    }),
    ended_same d status.SuccessfulCompletion h.0,
  )

  any_tables : (tables : Content) (ds : List DeclaredCursor) (cs : List CursorState) (es : List CursorEntry)
      → AreSame (SameCursor s.tables) ds cs es → AreSame (SameCursor tables) ds (session.all_closed cs) (by_name.all_closed es)
  any_tables tables [] [] [] h = tt
  any_tables tables (d ∷ ds) (c ∷ cs) (e ∷ es) h = (refl, any_tables tables ds cs es h.1)
  any_tables tables _ _ _ h = absurd h

  pub rollback_same : (d : Done) (after : State) → Ends (session.rolled_back s) d after
      → SameStates declared after (by_name.rolled_back x) × SameReply d (replied_with status.SuccessfulCompletion)
  rollback_same d after h = (
    subst (λ y. SameStates declared y (by_name.rolled_back x)) (sym h.1) (record {
      tables = same.committed;
      committed = same.committed;
      cursors = any_tables s.committed declared s.cursors x.cursors same.cursors;
    }),
    ended_same d status.SuccessfulCompletion h.0,
  )

-- ---- CLOSE (13.4)

-- a statement of a module names a cursor, which has a number
module _ (declared : List DeclaredCursor) (s : State) (r : Running) (same : SameStates declared s r.state) (name : Name) (n : ℕ)
    (only : IsOnly (SameCursor s.tables) r.in_module.name name r.state.cursors n) (c : DeclaredCursor)
    (there : slice_get declared n ≡ Some c) where
  pub now_same : SameCursor s.tables c (cursor_at s n) (cursor_now r name)
  now_same = found_same (SameCursor s.tables) r.in_module.name name declared s.cursors r.state.cursors n same.cursors only c there

  -- a cursor is set alike
  pub moved_same : (y : CursorState) (x : machine.CursorState) → SameCursor s.tables c y x
      → SameStates declared (with_cursor s n y) (moved r name x)
  moved_same y x h = record {
    tables = same.tables;
    committed = same.committed;
    cursors = set_same (SameCursor s.tables) r.in_module.name name declared s.cursors r.state.cursors n same.cursors only c there y x h;
  }

  abbrev closed_by : Bool → by_name.Outcomes
  closed_by b =
      if b then (moved r name machine.CursorState.closed, replied_with status.SuccessfulCompletion) else (r.state, replied_with status.InvalidCursorState)

  pub close_same : (d : Done) (after : State) → MayClose n s d after
      → SameStates declared after (close_cursor r name).0 × SameReply d (close_cursor r name).1
  close_same d after h =
      by_open (is_open (cursor_at s n)) (machine.is_open (cursor_now r name)) (open_same s.tables c (cursor_at s n) (cursor_now r name) now_same) h
    where
      by_open : (a b : Bool) → a ≡ b → MayCloseIf a n s d after
          → SameStates declared after (closed_by b).0 × SameReply d (closed_by b).1
      by_open true true e h = (
        subst (λ y. SameStates declared y (moved r name machine.CursorState.closed)) (sym h.1) (moved_same cursor.Closed machine.CursorState.closed refl),
        ended_same d status.SuccessfulCompletion h.0,
      )
      by_open false false e h =
          (subst (λ y. SameStates declared y r.state) (sym h.1) same, ended_same d status.InvalidCursorState h.0)
      by_open true false e h = cc
      by_open false true e h = cc
