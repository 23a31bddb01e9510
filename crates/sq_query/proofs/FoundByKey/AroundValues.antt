-- Values that are the same on each line for what is around (ISO/IEC 9075:1992, 6.2 and 6.4).
use Rattle.std.proofs.Common.{◌≡◌, false, List, [], Option, Some, None, Result, sym, subst, Ok, Err}
use Rattle.std.specs.Prelude.{IfOk, IfSome}
use Rattle.sq_lex.specs.declared.name.Name.{Name}
use Rattle.sq_value.specs.SetFunctions.{is_null}
use Rattle.sq_value.specs.declared.value.Value.{Value}
use Rattle.sq_meaning.specs.Environment.{Scope}
use Rattle.sq_meaning.specs.Expression.{value}
use Rattle.sq_meaning.specs.Placed.{by_place}
use Rattle.sq_bound.specs.Expression.{expr_of}
use Rattle.sq_bound.specs.declared.expression.BoundExpr.{BoundExpr}
use Rattle.sq_expression.specs.Frame.{scopes_beyond}
use Rattle.sq_expression.specs.declared.fault.Fault.{Fault}
use Rattle.sq_query.specs.Around.{HasValueBeneath, IsSameAround, IsSameBeneath, IsStanding, beneath}
use Rattle.sq_query.specs.declared.around.Around.{Around}
use Rattle.sq_query.specs.declared.around.Standing.{Standing}
use Rattle.sq_query.specs.declared.around.Standing.TheVariants.{Within}
use Rattle.sq_query.proofs.FoundByKey.LineValues.{same_anywhere, same_beneath}

-- what has a value beneath scopes on no line has it on each line, within these, or whatever is around
module _ (a : Around) (values : List Value) (caller : Name) (e : BoundExpr) where
  pub anywhere_so : (known : Result (Option Value) Fault) → IfOk known (λ k. IfSome k (IsSameBeneath [] values caller e)) → IfOk known (λ k. IfSome k (IsSameAround a values caller e))
  anywhere_so (Err f) h = tt
  anywhere_so (Ok None) h = tt
  anywhere_so (Ok (Some v)) h = (λ tables scopes line is. same_anywhere tables values caller scopes line (expr_of [] e) v (h.0 tables), h.1)

  pub within_so : a.standing ≡ Within → (known : Result (Option Value) Fault) → IfOk known (λ k. IfSome k (IsSameBeneath (scopes_beyond a.lines) values caller e)) → IfOk known (λ k. IfSome k (IsSameAround a values caller e))
  within_so on (Err f) h = tt
  within_so on (Ok None) h = tt
  within_so on (Ok (Some v)) h = (
    λ tables scopes line is.
        let scopes_are : scopes ≡ scopes_beyond a.lines = subst (λ (b : Standing). IsStanding b (scopes_beyond a.lines) scopes) on is in
        subst (λ (ss : List (Scope (Unit {0}))). value (by_place tables) (expr_of [] e) (beneath ss line values caller) ≡ Ok v) (sym scopes_are)
        (same_beneath tables values caller (scopes_beyond a.lines) line (expr_of [] e) v (h.0 tables)),
    h.1,
  )

-- an expression on no row beneath scopes
pub known_beneath : (scopes : List (Scope (Unit {0}))) (values : List Value) (caller : Name) (e : BoundExpr) (r : Result Value Fault) (known : Result (Option Value) Fault) → HasValueBeneath r e scopes values caller
    → IfOk known (λ k. IfSome k (λ w. (r ≡ Ok w) × (is_null w ≡ false))) → IfOk known (λ k. IfSome k (IsSameBeneath scopes values caller e))
known_beneath scopes values caller e r (Err f) has h = tt
known_beneath scopes values caller e r (Ok None) has h = tt
known_beneath scopes values caller e r (Ok (Some w)) has h = (subst (λ (s : Result Value Fault). HasValueBeneath s e scopes values caller) h.0 has, h.1)
