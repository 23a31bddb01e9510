-- Expressions whose values are whole numbers.
use Rattle.std.proofs.Common.{◌≡◌, List, ◌∙◌, ap, Option, Some, None, Ok}
use Rattle.std.specs.Prelude.{ℤ, IfSome}
use Rattle.sq_value.specs.declared.value.Value.{Value}
use Rattle.sq_meaning.specs.Status.{Outcome, ◌>>=◌}
use Rattle.sq_meaning.specs.Environment.{Env, items_in, value_at}
use Rattle.sq_meaning.specs.Expression.{Reading, value}
use Rattle.sq_meaning.specs.Placed.{Placed}
use Rattle.sq_bound.specs.Expression.{PlacedExpr, expr_of, place_meant}
use Rattle.sq_bound.specs.declared.condition.TablePlace.{TablePlace}
use Rattle.sq_bound.specs.declared.expression.Place.{Place}
use Rattle.sq_bound.specs.declared.expression.BoundExpr.{BoundExpr}
use Rattle.sq_bound.specs.declared.expression.BoundExpr.TheVariants as bound
use Rattle.sq_expression.specs.Whole.{whole}
use Rattle.sq_expression.proofs.Expressions.{literal_value, placed_column}

pub whole_literal : (m : Reading (Placed TablePlace)) (env : Env (Unit {0})) (functions : List PlacedExpr) (e : BoundExpr) (v : Value) (r : Option ℤ)
    → e ≡ bound.Literal v → IfSome r (λ n. v ≡ whole n) → IfSome r (λ n. value m (expr_of functions e) env ≡ Ok (whole n))
whole_literal m env functions e v None is h = h
whole_literal m env functions e v (Some n) is h = literal_value m env functions e v is ∙ ap Ok h

pub whole_place : (m : Reading (Placed TablePlace)) (env : Env (Unit {0})) (functions : List PlacedExpr) (e : BoundExpr) (p : Place) (r : Option ℤ)
    → e ≡ bound.Column p → IfSome r (λ n. (m.place (place_meant p) (items_in env) >>= value_at env) ≡ Ok (whole n))
    → IfSome r (λ n. value m (expr_of functions e) env ≡ Ok (whole n))
whole_place m env functions e p None is h = h
whole_place m env functions e p (Some n) is h = placed_column m env functions e p is ∙ h

pub whole_found : (o : Outcome Value) (v : Value) (r : Option ℤ) → o ≡ Ok v → IfSome r (λ n. v ≡ whole n) → IfSome r (λ n. o ≡ Ok (whole n))
whole_found o v None is h = h
whole_found o v (Some n) is h = is ∙ ap Ok h
