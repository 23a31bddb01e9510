-- Whatever is true of a cursor is found.
use Rattle.std.proofs.Common.{◌≡◌, ℕ, List, true, false, subst}
use Rattle.sq_store.specs.Content.{Content}
use Rattle.sq_bound.specs.declared.statement.ChangeTarget.{ChangeTarget}
use Rattle.sq_bound.specs.declared.statement.ChangeTarget.TheVariants as target
use Rattle.sq_session.specs.Kind.{Caller, Updating, delete_kind, update_kind}
use Rattle.sq_session.specs.declared.cursor.CursorState.{CursorState}
use Rattle.sq_cause.specs.Cursor.{IsClosedCause, IsCursorCause, IsOpenCause, IsTargetCause, is_open_at}
use Rattle.sq_cause.specs.declared.cause.CursorCause.{CursorCause}
use Rattle.sq_cause.specs.declared.cause.CursorCause.TheVariants as cause

pub open_one : (n : ℕ) (cs : List CursorState) (c : CursorCause) → IsOpenCause n cs c → is_open_at cs n ≡ true
open_one n cs (cause.IsOpen m) h = subst (λ (k : ℕ). is_open_at cs k ≡ true) h.0 h.1
open_one n cs (cause.IsClosed m) h = absurd h
open_one n cs (cause.IsOnNoRow m) h = absurd h
open_one n cs (cause.RowIsGone m number) h = absurd h

pub closed_one : (n : ℕ) (cs : List CursorState) (c : CursorCause) → IsClosedCause n cs c → is_open_at cs n ≡ false
closed_one n cs (cause.IsOpen m) h = absurd h
closed_one n cs (cause.IsClosed m) h = subst (λ (k : ℕ). is_open_at cs k ≡ false) h.0 h.1
closed_one n cs (cause.IsOnNoRow m) h = absurd h
closed_one n cs (cause.RowIsGone m number) h = absurd h

pub of_update : (u : Updating) (t : ChangeTarget) (cs : List CursorState) (tables : Content) (c : CursorCause) → IsCursorCause (update_kind u t) cs tables c → IsTargetCause t cs tables c
of_update u (target.Searched t) cs tables c h = h
of_update u (target.Positioned p) cs tables c h = h

pub of_delete : (caller : Caller) (t : ChangeTarget) (cs : List CursorState) (tables : Content) (c : CursorCause) → IsCursorCause (delete_kind caller t) cs tables c → IsTargetCause t cs tables c
of_delete caller (target.Searched t) cs tables c h = h
of_delete caller (target.Positioned p) cs tables c h = h
