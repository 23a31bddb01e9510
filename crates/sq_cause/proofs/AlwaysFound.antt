-- Causes that are always found.
use Rattle.std.proofs.Common.{◌≡◌, ◌≢◌, ℕ, zero, suc, List, [], ◌∷◌, Option, Some, None, Result, Ok, Err, IfOk, IfSome, refl, sym, subst, ◌∙◌}
use Rattle.std.specs.Prelude.{IsSome}
use Rattle.std.specs.declared.alloc.AllocError.{AllocError}
use Rattle.std.specs.Option.{option_map}
use Rattle.std.specs.Result.{result_err, result_ok}
use Rattle.sq_value.specs.declared.value.Value.{Value}
use Rattle.sq_binder.specs.declared.stop.Fault.{Fault}
use Rattle.sq_meaning.specs.declared.status.Status.{Status}
use Rattle.sq_meaning.specs.declared.status.Status.TheVariants as status
use Rattle.sq_session.specs.Kind.{Kind, Procedure, fault_at, kind_at}
use Rattle.sq_session.specs.Schemas.{Schemas}
use Rattle.sq_session.specs.Session.{Session}
use Rattle.sq_session.specs.State.{State}
use Rattle.sq_cause.specs.Cause.{IsCause, IsStatementCause, status_of}
use Rattle.sq_cause.specs.Cursor.{IsCursorCause}
use Rattle.sq_cause.specs.Left.{IsAlwaysFound, IsFound, IsFoundOf, IsLeft, IsSpecific}
use Rattle.sq_cause.specs.declared.cause.Cause.{Cause}
use Rattle.sq_cause.specs.declared.cause.Cause.TheVariants as cause
use Rattle.sq_cause.specs.declared.cause.CursorCause.{CursorCause}

-- ---- of a statement

only_cursor : (s : Schemas) (k : Kind) (vs : List Value) (state : State) (c : Cause) → IsAlwaysFound c → IsStatementCause s k vs state c → status_of c ≡ status.InvalidCursorState
only_cursor s k vs state (cause.Fault f) always h = absurd h
only_cursor s k vs state (cause.Cursor c) always h = refl
only_cursor s k vs state (cause.Breach table b) always h = absurd always
only_cursor s k vs state (cause.CheckOption table b) always h = absurd always
only_cursor s k vs state (cause.Value v) always h = absurd always
only_cursor s k vs state (cause.Target t) always h = absurd always
only_cursor s k vs state (cause.Select c) always h = absurd always
only_cursor s k vs state (cause.NoRow c) always h = absurd always
only_cursor s k vs state (cause.NoNumber table) always h = absurd always
only_cursor s k vs state (cause.Clause c) always h = absurd always
only_cursor s k vs state (cause.RowEnd r) always h = absurd always
only_cursor s k vs state (cause.Query q) always h = absurd always
only_cursor s k vs state (cause.General st) always h = absurd always

-- with another status there is none
pub none_of_others : (s : Schemas) (k : Kind) (vs : List Value) (state : State) (st : Status) (found : Option Cause) → st ≢ status.InvalidCursorState → IsFoundOf s k vs state st found
none_of_others s k vs state st found other = λ c always e h. absurd (other (sym e ∙ only_cursor s k vs state c always h))

some_cursor : (st : Status) (found : Option CursorCause) → IsSome found → st ≡ status.InvalidCursorState → IsSpecific st (option_map (λ c. cause.Cursor c) found)
some_cursor st None some e = cc
some_cursor st (Some c) some e = sym e

pub cursor_of_statement : (s : Schemas) (k : Kind) (vs : List Value) (state : State) (st : Status) (found : Option CursorCause) → ((c : CursorCause) → IsCursorCause k state.cursors state.tables c → IsSome found)
    → IsFoundOf s k vs state st (option_map (λ c. cause.Cursor c) found)
cursor_of_statement s k vs state st found all = one
  where
    one : (c : Cause) → IsAlwaysFound c → status_of c ≡ st → IsStatementCause s k vs state c → IsSpecific st (option_map (λ c. cause.Cursor c) found)
    one (cause.Fault f) always e h = absurd h
    one (cause.Cursor c) always e h = some_cursor st found (all c h) (sym e)
    one (cause.Breach table b) always e h = absurd always
    one (cause.CheckOption table b) always e h = absurd always
    one (cause.Value v) always e h = absurd always
    one (cause.Target t) always e h = absurd always
    one (cause.Select c) always e h = absurd always
    one (cause.NoRow c) always e h = absurd always
    one (cause.NoNumber table) always e h = absurd always
    one (cause.Clause c) always e h = absurd always
    one (cause.RowEnd r) always e h = absurd always
    one (cause.Query q) always e h = absurd always
    one (cause.General general) always e h = absurd always

pub cursor_told : (s : Schemas) (k : Kind) (vs : List Value) (state : State) (found : Option CursorCause) → IfSome found (IsCursorCause k state.cursors state.tables) → IfSome (option_map (λ c. cause.Cursor c) found) (IsStatementCause s k vs state)
cursor_told s k vs state None h = tt
cursor_told s k vs state (Some c) h = h

pub other_found : (s : Schemas) (k : Kind) (vs : List Value) (state : State) (st : Status) (r : Result (Option Cause) AllocError) → st ≢ status.InvalidCursorState → IfOk r (IsFoundOf s k vs state st)
other_found s k vs state st (Err e) other = tt
other_found s k vs state st (Ok found) other = none_of_others s k vs state st found other

-- ---- of a call

both_of : (r : Result Kind Fault) (k : Kind) (f : Fault) → result_ok r ≡ Some k → result_err r ≡ Some f → ⊥
both_of (Ok x) k f h g = cc
both_of (Err e) k f h g = cc

-- no procedure has both a statement without a fault and a fault
both_at : (ps : List Procedure) (n : ℕ) (k : Kind) (f : Fault) → kind_at ps n ≡ Some k → fault_at ps n ≡ Some f → ⊥
both_at [] n k f h g = cc
both_at (p ∷ ps) zero k f h g = both_of p.statement k f h g
both_at (p ∷ ps) (suc n) k f h g = both_at ps n k f h g

same_kind : (j k : Kind) → (◌≡◌ {A = Option Kind} (Some j) (Some k)) → j ≡ k
same_kind j k e = cc

pub found_of_statement : (s : Session) (n : ℕ) (vs ws : List Value) (k : Kind) (st : Status) (found : Option Cause) → kind_at s.procedures n ≡ Some k → IsFoundOf s.schemas k ws s.state st found → IsFound s n vs st found
found_of_statement s n vs ws k st found at all = one
  where
    one : (c : Cause) → IsAlwaysFound c → status_of c ≡ st → IsCause s n vs c → IsSpecific st found
    one (cause.Fault f) always e h = absurd (both_at s.procedures n k f at h)
    one (cause.Cursor c) always e h =
        all (cause.Cursor c) tt e (subst (λ (j : Kind). IsCursorCause j s.state.cursors s.state.tables c) (same_kind h.kind k (sym h.at ∙ at)) h.cause)
    one (cause.Breach table b) always e h = absurd always
    one (cause.CheckOption table b) always e h = absurd always
    one (cause.Value v) always e h = absurd always
    one (cause.Target t) always e h = absurd always
    one (cause.Select c) always e h = absurd always
    one (cause.NoRow c) always e h = absurd always
    one (cause.NoNumber table) always e h = absurd always
    one (cause.Clause c) always e h = absurd always
    one (cause.RowEnd r) always e h = absurd always
    one (cause.Query q) always e h = absurd always
    one (cause.General general) always e h = absurd always

pub any_found : (s : Session) (n : ℕ) (vs ws : List Value) (k : Kind) (st : Status) (r : Result (Option Cause) AllocError) → kind_at s.procedures n ≡ Some k → IfOk r (IsFoundOf s.schemas k ws s.state st) → IfOk r (IsFound s n vs st)
any_found s n vs ws k st (Err e) at all = tt
any_found s n vs ws k st (Ok found) at all = found_of_statement s n vs ws k st found at all

pub found_of_fault : (s : Session) (n : ℕ) (vs : List Value) (f : Fault) (st : Status) → fault_at s.procedures n ≡ Some f → IsFound s n vs st (Some (cause.Fault f))
found_of_fault s n vs f st at = one
  where
    one : (c : Cause) → IsAlwaysFound c → status_of c ≡ st → IsCause s n vs c → status.SyntaxErrorOrAccessRuleViolation ≡ st
    one (cause.Fault g) always e h = e
    one (cause.Cursor c) always e h = absurd (both_at s.procedures n h.kind f h.at at)
    one (cause.Breach table b) always e h = absurd always
    one (cause.CheckOption table b) always e h = absurd always
    one (cause.Value v) always e h = absurd always
    one (cause.Target t) always e h = absurd always
    one (cause.Select c) always e h = absurd always
    one (cause.NoRow c) always e h = absurd always
    one (cause.NoNumber table) always e h = absurd always
    one (cause.Clause c) always e h = absurd always
    one (cause.RowEnd r) always e h = absurd always
    one (cause.Query q) always e h = absurd always
    one (cause.General general) always e h = absurd always

-- what is left to the general cause
pub left_of : (s : Session) (n : ℕ) (vs : List Value) (st : Status) (found : Option Cause) (c : Cause) → status_of c ≡ st → (IsSpecific st found → IsSpecific st (Some c)) → IsFound s n vs st found → IsLeft s n vs c
left_of s n vs st found (cause.General general) e specific all = λ c always same h. specific (all c always (same ∙ e) h)
left_of s n vs st found (cause.Fault f) e specific all = tt
left_of s n vs st found (cause.Cursor c) e specific all = tt
left_of s n vs st found (cause.Breach table b) e specific all = tt
left_of s n vs st found (cause.CheckOption table b) e specific all = tt
left_of s n vs st found (cause.Value v) e specific all = tt
left_of s n vs st found (cause.Target t) e specific all = tt
left_of s n vs st found (cause.Select c) e specific all = tt
left_of s n vs st found (cause.NoRow c) e specific all = tt
left_of s n vs st found (cause.NoNumber table) e specific all = tt
left_of s n vs st found (cause.Clause c) e specific all = tt
left_of s n vs st found (cause.RowEnd r) e specific all = tt
left_of s n vs st found (cause.Query q) e specific all = tt
