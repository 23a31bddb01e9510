-- Causes of searched and positioned statements.
use Rattle.std.proofs.Common.{◌≡◌, ℕ, List, Option, Some, None, Result, Ok, Err, IfOk, IfSome, refl, sym, subst}
use Rattle.std.specs.declared.alloc.AllocError.{AllocError}
use Rattle.sq_value.specs.declared.value.Value.{Value}
use Rattle.sq_bound.specs.declared.statement.ChangeTarget.{ChangeTarget}
use Rattle.sq_bound.specs.declared.statement.ChangeTarget.TheVariants as target
use Rattle.sq_session.specs.Kind.{Caller, Updating, delete_kind, update_kind}
use Rattle.sq_session.specs.Schemas.{Schemas}
use Rattle.sq_session.specs.State.{State}
use Rattle.sq_session.specs.Step.{number_meant, seen_in}
use Rattle.sq_cause.specs.Clause.{IsChangeEnd, IsClauseCause}
use Rattle.sq_bound.specs.declared.query.Target.{Target}
use Rattle.sq_change.specs.Made.{Seen}
use Rattle.sq_cause.specs.NoRow.{ChoosesNone, IsNoRowCause, IsNoneOfTarget}
use Rattle.sq_cause.specs.declared.cause.NoRowCause.TheVariants as none
use Rattle.sq_store.specs.Content.{table_at}
use Rattle.sq_bound.specs.Fits.{under}
use Rattle.sq_bound.specs.declared.statement.BoundUpdate.{BoundUpdate}
use Rattle.sq_change.specs.Statement.{Chosen}
use Rattle.sq_cause.specs.SetValue.{IsFaultOfRows, IsSetFault}
use Rattle.sq_cause.specs.Value.{IsValueCause}
use Rattle.sq_cause.specs.declared.cause.ClauseCause.{ClauseCause}
use Rattle.sq_cause.specs.declared.cause.NoRowCause.{NoRowCause}
use Rattle.sq_cause.specs.declared.cause.ValueCause.{ValueCause}

-- ---- no row

pub searched_none : (seen : Seen) (t : ChangeTarget) (u : Target) → t ≡ target.Searched u → ChoosesNone seen t → IsNoneOfTarget seen t (none.Chosen u.base)
searched_none seen t u e h =
    subst (λ (x : ChangeTarget). IsNoneOfTarget seen x (none.Chosen u.base)) (sym e) (refl, subst (λ (x : ChangeTarget). ChoosesNone seen x) e h)

none_of_update : (s : Schemas) (u : Updating) (t : ChangeTarget) (values : List Value) (state : State) (c : NoRowCause) → u.statement.target ≡ t → IsNoneOfTarget (seen_in s u.caller values state.tables) t c
    → IsNoRowCause s (update_kind u t) values state c
none_of_update s u (target.Searched t) values state c e h = subst (λ (x : ChangeTarget). IsNoneOfTarget (seen_in s u.caller values state.tables) x c) (sym e) h
none_of_update s u (target.Positioned p) values state c e h = absurd h

pub none_updated : (s : Schemas) (u : Updating) (values : List Value) (state : State) (r : Result (Option NoRowCause) AllocError) → IfOk r (λ found. IfSome found (IsNoneOfTarget (seen_in s u.caller values state.tables) u.statement.target))
    → IfOk r (λ found. IfSome found (IsNoRowCause s (update_kind u u.statement.target) values state))
none_updated s u values state (Err e) h = tt
none_updated s u values state (Ok None) h = tt
none_updated s u values state (Ok (Some c)) h = none_of_update s u u.statement.target values state c refl h

none_of_delete : (s : Schemas) (caller : Caller) (t : ChangeTarget) (values : List Value) (state : State) (c : NoRowCause) → IsNoneOfTarget (seen_in s caller values state.tables) t c
    → IsNoRowCause s (delete_kind caller t) values state c
none_of_delete s caller (target.Searched t) values state c h = h
none_of_delete s caller (target.Positioned p) values state c h = absurd h

pub none_deleted : (s : Schemas) (caller : Caller) (t : ChangeTarget) (values : List Value) (state : State) (r : Result (Option NoRowCause) AllocError) → IfOk r (λ found. IfSome found (IsNoneOfTarget (seen_in s caller values state.tables) t))
    → IfOk r (λ found. IfSome found (IsNoRowCause s (delete_kind caller t) values state))
none_deleted s caller t values state (Err e) h = tt
none_deleted s caller t values state (Ok None) h = tt
none_deleted s caller t values state (Ok (Some c)) h = none_of_delete s caller t values state c h

-- ---- conditions

end_of_update : (s : Schemas) (u : Updating) (t : ChangeTarget) (values : List Value) (state : State) (c : ClauseCause) → u.statement.target ≡ t → IsChangeEnd s (seen_in s u.caller values state.tables) t c
    → IsClauseCause s (update_kind u t) values state c
end_of_update s u (target.Searched t) values state c e h = subst (λ (x : ChangeTarget). IsChangeEnd s (seen_in s u.caller values state.tables) x c) (sym e) h
end_of_update s u (target.Positioned p) values state c e h = absurd h

pub end_updated : (s : Schemas) (u : Updating) (values : List Value) (state : State) (r : Result (Option ClauseCause) AllocError) → IfOk r (λ found. IfSome found (IsChangeEnd s (seen_in s u.caller values state.tables) u.statement.target))
    → IfOk r (λ found. IfSome found (IsClauseCause s (update_kind u u.statement.target) values state))
end_updated s u values state (Err e) h = tt
end_updated s u values state (Ok None) h = tt
end_updated s u values state (Ok (Some c)) h = end_of_update s u u.statement.target values state c refl h

end_of_delete : (s : Schemas) (caller : Caller) (t : ChangeTarget) (values : List Value) (state : State) (c : ClauseCause) → IsChangeEnd s (seen_in s caller values state.tables) t c → IsClauseCause s (delete_kind caller t) values state c
end_of_delete s caller (target.Searched t) values state c h = h
end_of_delete s caller (target.Positioned p) values state c h = absurd h

pub end_deleted : (s : Schemas) (caller : Caller) (t : ChangeTarget) (values : List Value) (state : State) (r : Result (Option ClauseCause) AllocError) → IfOk r (λ found. IfSome found (IsChangeEnd s (seen_in s caller values state.tables) t))
    → IfOk r (λ found. IfSome found (IsClauseCause s (delete_kind caller t) values state))
end_deleted s caller t values state (Err e) h = tt
end_deleted s caller t values state (Ok None) h = tt
end_deleted s caller t values state (Ok (Some c)) h = end_of_delete s caller t values state c h

-- ---- values

value_of_update : (s : Schemas) (u : Updating) (t : ChangeTarget) (values : List Value) (state : State) (on : Option ℕ) (c : ValueCause) → on ≡ number_meant state t → IsSetFault (seen_in s u.caller values state.tables) u.statement on c
    → IsValueCause s (update_kind u t) values state c
value_of_update s u (target.Searched t) values state on c e h = subst (λ (n : Option ℕ). IsSetFault (seen_in s u.caller values state.tables) u.statement n c) e h
value_of_update s u (target.Positioned p) values state on c e h = subst (λ (n : Option ℕ). IsSetFault (seen_in s u.caller values state.tables) u.statement n c) e h

pub value_updated : (s : Schemas) (u : Updating) (values : List Value) (state : State) (on : Option ℕ) (r : Result (Option ValueCause) AllocError) → on ≡ number_meant state u.statement.target
    → IfOk r (λ found. IfSome found (IsSetFault (seen_in s u.caller values state.tables) u.statement on)) → IfOk r (λ found. IfSome found (IsValueCause s (update_kind u u.statement.target) values state))
value_updated s u values state on (Err e) at h = tt
value_updated s u values state on (Ok None) at h = tt
value_updated s u values state on (Ok (Some c)) at h = value_of_update s u u.statement.target values state on c at h

pub set_found : (seen : Seen) (u : BoundUpdate) (on : Option ℕ) (numbers : List ℕ) (r : Result (Option ValueCause) AllocError) → Chosen seen u.target on numbers
    → IfOk r (λ found. IfSome found (IsFaultOfRows (table_at seen.tables (under u.target).table.place) u seen.values seen.user numbers)) → IfOk r (λ found. IfSome found (IsSetFault seen u on))
set_found seen u on numbers (Err e) chosen h = tt
set_found seen u on numbers (Ok None) chosen h = tt
set_found seen u on numbers (Ok (Some c)) chosen h = record { numbers = numbers; chosen = chosen; of_rows = h }
