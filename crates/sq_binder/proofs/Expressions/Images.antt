-- The part of a bound expression that the definitions see, level by level.
use Rattle.std.proofs.Common.{◌≡◌, ℕ, List, sym, ◌∙◌, ap}
use Rattle.std.specs.Prelude.{fold}
use Rattle.sq_value.specs.declared.value.Value.{Value}
use Rattle.sq_tree.specs.declared.expr.Sign.{Sign}
use Rattle.sq_bound.specs.declared.expression.Place.{Place}
use Rattle.sq_bound.specs.declared.expression.Input.{Input}
use Rattle.sq_bound.specs.declared.expression.BoundExpr.{BoundExpr, fold-roll-BoundExpr}
use Rattle.sq_bound.specs.declared.expression.BoundExpr.TheVariants as bound
use Rattle.sq_bound.specs.declared.expression.BoundExpr.TheOpen as layer
use Rattle.sq_bound.specs.declared.expression.Operation.{Operation, fold_out-Operation}
use Rattle.sq_bound.specs.Expression.{place_meant, parameter_meant}
use Rattle.sq_bound.proofs.ExpressionLaws.{fold_mapped}
use Rattle.sq_binding.specs.Numbered.{Numbered}
use Rattle.sq_binding.specs.Seen.{numbered_of, operation_of}

pub numbered_of-Literal : (v : Value) → numbered_of (bound.Literal v) ≡ Numbered.literal v
unfolding numbered_of
numbered_of-Literal v = ap numbered_of (sym (bound.rolls-Literal v)) ∙ fold-roll-BoundExpr _ _ _ _ (layer.Literal v)

pub numbered_of-Parameter : (p : Input) → numbered_of (bound.Parameter p) ≡ Numbered.parameter (parameter_meant p)
unfolding numbered_of
numbered_of-Parameter p = ap numbered_of (sym (bound.rolls-Parameter p)) ∙ fold-roll-BoundExpr _ _ _ _ (layer.Parameter p)

pub numbered_of-User : numbered_of bound.User ≡ Numbered.user
unfolding numbered_of
numbered_of-User = ap numbered_of (sym bound.rolls-User) ∙ fold-roll-BoundExpr _ _ _ _ layer.User

pub numbered_of-Column : (p : Place) → numbered_of (bound.Column p) ≡ Numbered.column (place_meant p)
unfolding numbered_of
numbered_of-Column p = ap numbered_of (sym (bound.rolls-Column p)) ∙ fold-roll-BoundExpr _ _ _ _ (layer.Column p)

pub numbered_of-SetFunction : (n : ℕ) → numbered_of (bound.SetFunction n) ≡ Numbered.set_function n
unfolding numbered_of
numbered_of-SetFunction n = ap numbered_of (sym (bound.rolls-SetFunction n)) ∙ fold-roll-BoundExpr _ _ _ _ (layer.SetFunction n)

pub numbered_of-Signed : (sign : Sign) (e : BoundExpr) → numbered_of (bound.Signed sign e) ≡ Numbered.signed sign (numbered_of e)
unfolding numbered_of
numbered_of-Signed sign e = ap numbered_of (sym (bound.rolls-Signed sign e)) ∙ fold-roll-BoundExpr _ _ _ _ (layer.Signed sign e)

pub numbered_of-Operations : (first : BoundExpr) (rest : List Operation) → numbered_of (bound.Operations first rest) ≡ fold (λ left o. operation_of o left) (numbered_of first) rest
unfolding numbered_of operation_of
numbered_of-Operations first rest = ap numbered_of (sym (bound.rolls-Operations first rest)) ∙ fold-roll-BoundExpr _ _ _ _ (layer.Operations first rest) ∙ fold_mapped (λ left o. o left) operation_of (numbered_of first) rest

pub operation_of-out : (o : Operation) (left : Numbered) → operation_of o left ≡ Numbered.operation o.operator left (numbered_of o.operand)
unfolding numbered_of operation_of
operation_of-out o left = ap (λ (f : Numbered → Numbered). f left) (fold_out-Operation _ _ _ _ o)

-- bound expressions of one level
pub ruleset images = (numbered_of-Literal, numbered_of-Parameter, numbered_of-User, numbered_of-Column, numbered_of-SetFunction, numbered_of-Signed)
