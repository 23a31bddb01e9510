-- Causes of a statement are causes of the call.
use Rattle.std.proofs.Common.{◌≡◌, ◌⊎◌, inl, inr, ℕ, zero, suc, List, [], Option, Some, None, Result, Ok, Err, IfOk, IfSome, refl, sym, subst}
use Rattle.std.specs.declared.alloc.AllocError.{AllocError}
use Rattle.sq_lex.specs.declared.name.Name.{Name}
use Rattle.sq_value.specs.declared.value.Value.{Value}
use Rattle.sq_meaning.specs.declared.status.Status.{Status}
use Rattle.sq_bound.specs.declared.condition.BoundSpecification.{BoundSpecification}
use Rattle.sq_bound.specs.declared.names.ParameterDesc.{ParameterDesc}
use Rattle.sq_bound.specs.declared.statement.BoundStatement.{BoundStatement}
use Rattle.sq_bound.specs.declared.statement.BoundStatement.TheVariants as statement
use Rattle.sq_bound.specs.declared.statement.ChangeTarget.{ChangeTarget}
use Rattle.sq_bound.specs.declared.statement.ChangeTarget.TheVariants as target
use Rattle.sq_module.specs.declared.program.DeclaredCursor.{DeclaredCursor}
use Rattle.sq_session.specs.Kind.{Caller, Kind, Updating, caller_of, delete_kind, kind_at, kind_of, read_parameters, update_kind, updating}
use Rattle.sq_session.specs.Parameter.{started_values}
use Rattle.sq_session.specs.Schemas.{Schemas}
use Rattle.sq_session.specs.Session.{Session}
use Rattle.sq_session.specs.State.{State}
use Rattle.sq_cause.specs.Cause.{IsCause, IsStatementCause}
use Rattle.sq_cause.specs.QueryCause.{IsAmong}
use Rattle.sq_cause.specs.declared.cause.Cause.{Cause}
use Rattle.sq_cause.specs.declared.cause.Cause.TheVariants as cause

-- ---- the values that a statement reads

-- they have no query
none_among : (term : Option ℕ) (q : BoundSpecification) → IsAmong [] term q → ⊥
none_among None q h = cc
none_among (Some zero) q h = cc
none_among (Some (suc n)) q h = cc

-- CLOSE, COMMIT and ROLLBACK read no value: their causes are whatever the values are
close_cause : (s : Schemas) (n : ℕ) (vs ws : List Value) (state : State) (c : Cause) → IsStatementCause s (Kind.closes n) vs state c → IsStatementCause s (Kind.closes n) ws state c
close_cause s n vs ws state (cause.Fault f) h = absurd h
close_cause s n vs ws state (cause.Cursor c) h = h
close_cause s n vs ws state (cause.Breach table b) h = let there = h.leaf_is in cc
close_cause s n vs ws state (cause.CheckOption table b) h = let there = h.leaf_is in cc
close_cause s n vs ws state (cause.Value v) h = absurd h
close_cause s n vs ws state (cause.Target t) h = absurd h
close_cause s n vs ws state (cause.Select c) h = absurd h
close_cause s n vs ws state (cause.NoRow c) h = absurd h
close_cause s n vs ws state (cause.NoNumber table) h = absurd h
close_cause s n vs ws state (cause.Clause c) h = absurd h
close_cause s n vs ws state (cause.RowEnd r) h = let there = h.leaf_is in cc
close_cause s n vs ws state (cause.Query q) h = absurd (none_among q.term h.query h.among)
close_cause s n vs ws state (cause.General st) h = tt

commit_cause : (s : Schemas) (vs ws : List Value) (state : State) (c : Cause) → IsStatementCause s (Kind.commits) vs state c → IsStatementCause s (Kind.commits) ws state c
commit_cause s vs ws state (cause.Fault f) h = absurd h
commit_cause s vs ws state (cause.Cursor c) h = h
commit_cause s vs ws state (cause.Breach table b) h = let there = h.leaf_is in cc
commit_cause s vs ws state (cause.CheckOption table b) h = let there = h.leaf_is in cc
commit_cause s vs ws state (cause.Value v) h = absurd h
commit_cause s vs ws state (cause.Target t) h = absurd h
commit_cause s vs ws state (cause.Select c) h = absurd h
commit_cause s vs ws state (cause.NoRow c) h = absurd h
commit_cause s vs ws state (cause.NoNumber table) h = absurd h
commit_cause s vs ws state (cause.Clause c) h = absurd h
commit_cause s vs ws state (cause.RowEnd r) h = let there = h.leaf_is in cc
commit_cause s vs ws state (cause.Query q) h = absurd (none_among q.term h.query h.among)
commit_cause s vs ws state (cause.General st) h = tt

rollback_cause : (s : Schemas) (vs ws : List Value) (state : State) (c : Cause) → IsStatementCause s (Kind.rolls_back) vs state c → IsStatementCause s (Kind.rolls_back) ws state c
rollback_cause s vs ws state (cause.Fault f) h = absurd h
rollback_cause s vs ws state (cause.Cursor c) h = h
rollback_cause s vs ws state (cause.Breach table b) h = let there = h.leaf_is in cc
rollback_cause s vs ws state (cause.CheckOption table b) h = let there = h.leaf_is in cc
rollback_cause s vs ws state (cause.Value v) h = absurd h
rollback_cause s vs ws state (cause.Target t) h = absurd h
rollback_cause s vs ws state (cause.Select c) h = absurd h
rollback_cause s vs ws state (cause.NoRow c) h = absurd h
rollback_cause s vs ws state (cause.NoNumber table) h = absurd h
rollback_cause s vs ws state (cause.Clause c) h = absurd h
rollback_cause s vs ws state (cause.RowEnd r) h = let there = h.leaf_is in cc
rollback_cause s vs ws state (cause.Query q) h = absurd (none_among q.term h.query h.among)
rollback_cause s vs ws state (cause.General st) h = tt

of_update : (u : Updating) (t : ChangeTarget) → read_parameters (update_kind u t) ≡ u.caller.parameters
of_update u (target.Searched t) = refl
of_update u (target.Positioned p) = refl

of_delete : (caller : Caller) (t : ChangeTarget) → read_parameters (delete_kind caller t) ≡ caller.parameters
of_delete caller (target.Searched t) = refl
of_delete caller (target.Positioned p) = refl

one_read : (s : Schemas) (cs : List DeclaredCursor) (user : Name) (ps : List ParameterDesc) (st : BoundStatement) (vs : List Value) (state : State) (c : Cause)
    → IsStatementCause s (kind_of cs user ps st) (started_values ps vs) state c → IsStatementCause s (kind_of cs user ps st) (started_values (read_parameters (kind_of cs user ps st)) vs) state c
one_read s cs user ps (statement.Open n) vs state c h = h
one_read s cs user ps (statement.Fetch f) vs state c h = h
one_read s cs user ps (statement.Close n) vs state c h = close_cause s n _ _ state c h
one_read s cs user ps (statement.Select q) vs state c h = h
one_read s cs user ps (statement.Insert i) vs state c h = h
one_read s cs user ps (statement.Update u) vs state c h =
    let k : Kind = update_kind (updating cs (caller_of user ps) u) u.target in
    subst (λ (qs : List ParameterDesc). IsStatementCause s k (started_values qs vs) state c) (sym (of_update (updating cs (caller_of user ps) u) u.target)) h
one_read s cs user ps (statement.Delete t) vs state c h =
    let k : Kind = delete_kind (caller_of user ps) t in
    subst (λ (qs : List ParameterDesc). IsStatementCause s k (started_values qs vs) state c) (sym (of_delete (caller_of user ps) t)) h
one_read s cs user ps statement.Commit vs state c h = commit_cause s _ _ state c h
one_read s cs user ps statement.Rollback vs state c h = rollback_cause s _ _ state c h

pub as_read : (s : Schemas) (cs : List DeclaredCursor) (user : Name) (ps : List ParameterDesc) (st : BoundStatement) (vs : List Value) (state : State) (r : Result (Option Cause) AllocError)
    → IfOk r (λ found. IfSome found (IsStatementCause s (kind_of cs user ps st) (started_values ps vs) state))
    → IfOk r (λ found. IfSome found (IsStatementCause s (kind_of cs user ps st) (started_values (read_parameters (kind_of cs user ps st)) vs) state))
as_read s cs user ps st vs state (Err e) h = tt
as_read s cs user ps st vs state (Ok None) h = tt
as_read s cs user ps st vs state (Ok (Some c)) h = one_read s cs user ps st vs state c h

-- ---- a call

one_of_call : (s : Session) (n : ℕ) (vs : List Value) (k : Kind) (c : Cause) → kind_at s.procedures n ≡ Some k → IsStatementCause s.schemas k (started_values (read_parameters k) vs) s.state c → IsCause s n vs c
one_of_call s n vs k (cause.Fault f) at h = absurd h
one_of_call s n vs k (cause.Cursor c) at h = record { kind = k; at = at; cause = h }
one_of_call s n vs k (cause.Breach table b) at h = record { kind = k; at = at; cause = h }
one_of_call s n vs k (cause.CheckOption table b) at h = record { kind = k; at = at; cause = h }
one_of_call s n vs k (cause.Value v) at h = record { kind = k; at = at; cause = h }
one_of_call s n vs k (cause.Target t) at h = record { kind = k; at = at; cause = h }
one_of_call s n vs k (cause.Select c) at h = record { kind = k; at = at; cause = h }
one_of_call s n vs k (cause.NoRow c) at h = record { kind = k; at = at; cause = h }
one_of_call s n vs k (cause.NoNumber table) at h = record { kind = k; at = at; cause = h }
one_of_call s n vs k (cause.Clause c) at h = record { kind = k; at = at; cause = h }
one_of_call s n vs k (cause.RowEnd r) at h = record { kind = k; at = at; cause = h }
one_of_call s n vs k (cause.Query q) at h = record { kind = k; at = at; cause = h }
one_of_call s n vs k (cause.General st) at h = tt

pub of_call : (s : Session) (n : ℕ) (vs : List Value) (k : Kind) (r : Result (Option Cause) AllocError) → kind_at s.procedures n ≡ Some k
    → IfOk r (λ found. IfSome found (IsStatementCause s.schemas k (started_values (read_parameters k) vs) s.state)) → IfOk r (λ found. IfSome found (IsCause s n vs))
of_call s n vs k (Err e) at h = tt
of_call s n vs k (Ok None) at h = tt
of_call s n vs k (Ok (Some c)) at h = one_of_call s n vs k c at h

-- a cause that is kept, or the general one
pub kept_cause : (s : Session) (n : ℕ) (vs : List Value) (found : Option Cause) (c : Cause) (st : Status) → (c ≡ cause.General st) ⊎ (Some c ≡ found) → IfSome found (IsCause s n vs) → IsCause s n vs c
kept_cause s n vs found c st (inl e) h = subst (λ (x : Cause). IsCause s n vs x) (sym e) tt
kept_cause s n vs found c st (inr e) h = subst (λ (f : Option Cause). IfSome f (IsCause s n vs)) (sym e) h
