-- The meaning of a bound expression, level by level.
use Rattle.std.proofs.Common.{◌≡◌, ℕ, List, [], ◌∷◌, refl, sym, ◌∙◌, ap, map}
use Rattle.std.specs.Prelude.{fold, slice_index_or}
use Rattle.sq_value.specs.declared.value.Value.{Value}
use Rattle.sq_tree.specs.declared.expr.Sign.{Sign}
use Rattle.sq_meaning.specs.Syntax.{literal, parameter, user, column, signed}
use Rattle.sq_bound.specs.declared.expression.Place.{Place}
use Rattle.sq_bound.specs.declared.expression.Input.{Input}
use Rattle.sq_bound.specs.declared.expression.BoundExpr.{BoundExpr, fold-roll-BoundExpr}
use Rattle.sq_bound.specs.declared.expression.BoundExpr.TheVariants as bound
use Rattle.sq_bound.specs.declared.expression.BoundExpr.TheOpen as layer
use Rattle.sq_bound.specs.declared.expression.Operation.{Operation, fold_out-Operation}
use Rattle.sq_bound.specs.Expression.{PlacedExpr, expr_of, operation_of, operated, missing, place_meant, parameter_meant}

pub expr_of-Literal : (functions : List PlacedExpr) (v : Value) → expr_of functions (bound.Literal v) ≡ literal v
unfolding expr_of
expr_of-Literal functions v = ap (expr_of functions) (sym (bound.rolls-Literal v)) ∙ fold-roll-BoundExpr _ _ _ _ (layer.Literal v)

pub expr_of-Parameter : (functions : List PlacedExpr) (p : Input) → expr_of functions (bound.Parameter p) ≡ parameter (parameter_meant p)
unfolding expr_of
expr_of-Parameter functions p = ap (expr_of functions) (sym (bound.rolls-Parameter p)) ∙ fold-roll-BoundExpr _ _ _ _ (layer.Parameter p)

pub expr_of-User : (functions : List PlacedExpr) → expr_of functions bound.User ≡ user
unfolding expr_of
expr_of-User functions = ap (expr_of functions) (sym bound.rolls-User) ∙ fold-roll-BoundExpr _ _ _ _ layer.User

pub expr_of-Column : (functions : List PlacedExpr) (p : Place) → expr_of functions (bound.Column p) ≡ column (place_meant p)
unfolding expr_of
expr_of-Column functions p = ap (expr_of functions) (sym (bound.rolls-Column p)) ∙ fold-roll-BoundExpr _ _ _ _ (layer.Column p)

pub expr_of-SetFunction : (functions : List PlacedExpr) (n : ℕ) → expr_of functions (bound.SetFunction n) ≡ slice_index_or functions n missing
unfolding expr_of
expr_of-SetFunction functions n = ap (expr_of functions) (sym (bound.rolls-SetFunction n)) ∙ fold-roll-BoundExpr _ _ _ _ (layer.SetFunction n)

pub expr_of-Signed : (functions : List PlacedExpr) (sign : Sign) (e : BoundExpr) → expr_of functions (bound.Signed sign e) ≡ signed sign (expr_of functions e)
unfolding expr_of
expr_of-Signed functions sign e = ap (expr_of functions) (sym (bound.rolls-Signed sign e)) ∙ fold-roll-BoundExpr _ _ _ _ (layer.Signed sign e)

pub fold_mapped : {A B C : Type 0} (f : C → A → C) (g : B → A) (c : C) (bs : List B) → fold f c (map g bs) ≡ fold (λ x b. f x (g b)) c bs
fold_mapped f g c [] = refl
fold_mapped f g c (b ∷ bs) = fold_mapped f g (f c (g b)) bs

pub expr_of-Operations : (functions : List PlacedExpr) (first : BoundExpr) (rest : List Operation) → expr_of functions (bound.Operations first rest) ≡ fold (λ left o. operation_of functions o left) (expr_of functions first) rest
unfolding expr_of operation_of
expr_of-Operations functions first rest = ap (expr_of functions) (sym (bound.rolls-Operations first rest)) ∙ fold-roll-BoundExpr _ _ _ _ (layer.Operations first rest) ∙ fold_mapped (λ left o. o left) (operation_of functions) (expr_of functions first) rest

pub operation_of-out : (functions : List PlacedExpr) (o : Operation) (left : PlacedExpr) → operation_of functions o left ≡ operated o.operator left (expr_of functions o.operand)
unfolding expr_of operation_of
operation_of-out functions o left = ap (λ (f : PlacedExpr → PlacedExpr). f left) (fold_out-Operation _ _ _ _ o)

pub ruleset expr_of_levels = (expr_of-Literal, expr_of-Parameter, expr_of-User, expr_of-Column, expr_of-SetFunction, expr_of-Signed, expr_of-Operations, operation_of-out)
