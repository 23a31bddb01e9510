-- A statement reads the values of those parameters that its kind names.
use Rattle.std.proofs.Common.{◌≡◌, List, refl, subst, sym, Option, Some, None, IfSome}
use Rattle.sq_lex.specs.declared.name.Name.{Name}
use Rattle.sq_value.specs.declared.value.Value.{Value}
use Rattle.sq_bound.specs.declared.names.ParameterDesc.{ParameterDesc}
use Rattle.sq_bound.specs.declared.statement.BoundStatement.{BoundStatement}
use Rattle.sq_bound.specs.declared.statement.BoundStatement.TheVariants as statement
use Rattle.sq_bound.specs.declared.statement.ChangeTarget.{ChangeTarget}
use Rattle.sq_bound.specs.declared.statement.ChangeTarget.TheVariants as target
use Rattle.sq_module.specs.declared.program.DeclaredCursor.{DeclaredCursor}
use Rattle.sq_session.specs.Kind.{Caller, Kind, Updating, caller_of, delete_kind, kind_of, read_parameters, update_kind, updating}
use Rattle.sq_session.specs.Parameter.{started_values}
use Rattle.sq_session.specs.Schemas.{Schemas}
use Rattle.sq_session.specs.State.{State}
use Rattle.sq_session.specs.Step.{MayStep}
use Rattle.sq_session.specs.declared.reply.Done.{Done}

of_update : (u : Updating) (t : ChangeTarget) → read_parameters (update_kind u t) ≡ u.caller.parameters
of_update u (target.Searched t) = refl
of_update u (target.Positioned p) = refl

of_delete : (caller : Caller) (t : ChangeTarget) → read_parameters (delete_kind caller t) ≡ caller.parameters
of_delete caller (target.Searched t) = refl
of_delete caller (target.Positioned p) = refl

done_as_read : (sc : Schemas) (cs : List DeclaredCursor) (user : Name) (ps : List ParameterDesc) (s : BoundStatement) (vs : List Value) (b : State) (d : Done) (a : State)
    → MayStep sc (kind_of cs user ps s) (started_values ps vs) b d a → MayStep sc (kind_of cs user ps s) (started_values (read_parameters (kind_of cs user ps s)) vs) b d a
done_as_read sc cs user ps (statement.Open n) vs b d a h = h
done_as_read sc cs user ps (statement.Fetch f) vs b d a h = h
done_as_read sc cs user ps (statement.Close n) vs b d a h = h
done_as_read sc cs user ps (statement.Select s) vs b d a h = h
done_as_read sc cs user ps (statement.Insert i) vs b d a h = h
done_as_read sc cs user ps (statement.Update u) vs b d a h =
    let k : Kind = update_kind (updating cs (caller_of user ps) u) u.target in
    subst (λ (qs : List ParameterDesc). MayStep sc k (started_values qs vs) b d a) (sym (of_update (updating cs (caller_of user ps) u) u.target)) h
done_as_read sc cs user ps (statement.Delete t) vs b d a h =
    let k : Kind = delete_kind (caller_of user ps) t in
    subst (λ (qs : List ParameterDesc). MayStep sc k (started_values qs vs) b d a) (sym (of_delete (caller_of user ps) t)) h
done_as_read sc cs user ps statement.Commit vs b d a h = h
done_as_read sc cs user ps statement.Rollback vs b d a h = h

pub as_read : (sc : Schemas) (cs : List DeclaredCursor) (user : Name) (ps : List ParameterDesc) (s : BoundStatement) (vs : List Value) (b : State) (o : Option Done) (a : State)
    → IfSome o (λ d. MayStep sc (kind_of cs user ps s) (started_values ps vs) b d a) → IfSome o (λ d. MayStep sc (kind_of cs user ps s) (started_values (read_parameters (kind_of cs user ps s)) vs) b d a)
as_read sc cs user ps s vs b None a h = tt
as_read sc cs user ps s vs b (Some d) a h = done_as_read sc cs user ps s vs b d a h
