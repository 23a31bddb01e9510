-- A searched statement reads the same as its search.
use Rattle.std.proofs.Common.{◌≡◌, ◌+◌, ◌≤◌, ℕ, List, subst}
use Rattle.sq_lex.specs.declared.name.Name.{Name}
use Rattle.sq_value.specs.declared.value.Value.{Value}
use Rattle.sq_bound.specs.declared.query.Target.{Target}
use Rattle.sq_bound.specs.declared.statement.ChangeTarget.{ChangeTarget}
use Rattle.sq_bound.specs.declared.statement.ChangeTarget.TheVariants as target
use Rattle.sq_query.specs.Keyed.{IsKeyedChange, IsKeyedTarget}

pub searched_read : (u : ChangeTarget) (t : Target) (parameters inputs : List Value) (user caller : Name) (old new : ℕ) → u ≡ target.Searched t → inputs ≡ parameters → caller ≡ user
    → (IsKeyedTarget t inputs caller → new ≤ old + 1) → IsKeyedChange u parameters user → new ≤ old + 1
searched_read u t parameters inputs user caller old new is same_parameters same_user read keyed =
    let searched = rw (same_user, same_parameters) at read in searched (subst (λ (x : ChangeTarget). IsKeyedChange x parameters user) is keyed)
