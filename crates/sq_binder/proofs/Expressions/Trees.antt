-- A bound expression means the same as the part of it that the definitions see.
use Rattle.std.proofs.Common.{◌≡◌, List, [], ◌∷◌, map, refl, sym, ap, subst, ◌∙◌}
use Rattle.std.specs.Prelude.{fold}
use Rattle.sq_meaning.specs.Syntax.{set_function, signed}
use Rattle.sq_bound.specs.Expression.{PlacedExpr, expr_of, operated}
use Rattle.sq_bound.specs.Expression as bound
use Rattle.sq_bound.specs.SetFunction as bound_function
use Rattle.sq_bound.specs.declared.expression.BoundExpr.{BoundExpr, BoundExpr-F, roll-BoundExpr, fold-roll-BoundExpr, map-BoundExpr, ind-BoundExpr}
use Rattle.sq_bound.specs.declared.expression.BoundExpr.TheOpen as layer
use Rattle.sq_bound.specs.declared.expression.Operation.{Operation, Operation-F, roll-Operation, fold-roll-Operation, map-Operation}
use Rattle.sq_bound.specs.declared.expression.SetFunctionCall.{SetFunctionCall}
use Rattle.sq_bound.specs.declared.expression.SetFunctionCall.TheVariants.{CountRows, Over}
use Rattle.sq_binding.specs.Numbered.{Numbered, tree_of}
use Rattle.sq_binding.specs.Seen.{call_of, numbered_of, operation_of}

abbrev IsSeen : BoundExpr → Type 0
IsSeen e = (functions : List PlacedExpr) → tree_of functions (numbered_of e) ≡ expr_of functions e

abbrev IsSeenBehind : Operation → Type 0
IsSeenBehind o = (functions : List PlacedExpr) (a : Numbered) → tree_of functions (operation_of o a) ≡ bound.operation_of functions o (tree_of functions a)

abbrev E : Type 0
E = (e : BoundExpr) × IsSeen e

abbrev O : Type 0
O = (o : Operation) × IsSeenBehind o

seen : (functions : List PlacedExpr) (a b : Numbered) (c d : PlacedExpr) → a ≡ b → c ≡ d → tree_of functions b ≡ d → tree_of functions a ≡ c
seen functions a b c d p q h = ap (tree_of functions) p ∙ h ∙ sym q

seen_behind : (functions : List PlacedExpr) (os : List O) (a : Numbered) (b : PlacedExpr) → tree_of functions a ≡ b
    → tree_of functions (fold (λ left operation. operation left) a (map operation_of (map (λ o. o.0) os))) ≡ fold (λ left operation. operation left) b (map (bound.operation_of functions) (map (λ o. o.0) os))
seen_behind functions [] a b h = h
seen_behind functions (o ∷ os) a b h = seen_behind functions os (operation_of o.0 a) (bound.operation_of functions o.0 b) (o.1 functions a ∙ ap (bound.operation_of functions o.0) h)

expr_step : (y : BoundExpr-F E O) → IsSeen (roll-BoundExpr (map-BoundExpr E O BoundExpr Operation (λ e. e.0) (λ o. o.0) y))
unfolding expr_of bound.operation_of numbered_of operation_of
expr_step (layer.Literal v) functions = seen functions _ _ _ _ (fold-roll-BoundExpr _ _ _ _ _) (fold-roll-BoundExpr _ _ _ _ _) refl
expr_step (layer.Parameter p) functions = seen functions _ _ _ _ (fold-roll-BoundExpr _ _ _ _ _) (fold-roll-BoundExpr _ _ _ _ _) refl
expr_step layer.User functions = seen functions _ _ _ _ (fold-roll-BoundExpr _ _ _ _ _) (fold-roll-BoundExpr _ _ _ _ _) refl
expr_step (layer.Column p) functions = seen functions _ _ _ _ (fold-roll-BoundExpr _ _ _ _ _) (fold-roll-BoundExpr _ _ _ _ _) refl
expr_step (layer.SetFunction n) functions = seen functions _ _ _ _ (fold-roll-BoundExpr _ _ _ _ _) (fold-roll-BoundExpr _ _ _ _ _) refl
expr_step (layer.Signed sign e) functions = seen functions _ _ _ _ (fold-roll-BoundExpr _ _ _ _ _) (fold-roll-BoundExpr _ _ _ _ _) (ap (signed sign) (e.1 functions))
expr_step (layer.Operations first rest) functions =
    seen functions _ _ _ _ (fold-roll-BoundExpr _ _ _ _ _) (fold-roll-BoundExpr _ _ _ _ _) (seen_behind functions rest (numbered_of first.0) (expr_of functions first.0) (first.1 functions))

operation_step : (y : Operation-F E O) → IsSeenBehind (roll-Operation (map-Operation E O BoundExpr Operation (λ e. e.0) (λ o. o.0) y))
unfolding expr_of bound.operation_of numbered_of operation_of
operation_step y functions a =
    seen functions _ _ _ _ (ap (λ (f : Numbered → Numbered). f a) (fold-roll-Operation _ _ _ _ _)) (ap (λ (f : PlacedExpr → PlacedExpr). f (tree_of functions a)) (fold-roll-Operation _ _ _ _ _))
    (ap (operated y.operator (tree_of functions a)) (y.operand.1 functions))

pub tree_is : (e : BoundExpr) (functions : List PlacedExpr) → tree_of functions (numbered_of e) ≡ expr_of functions e
tree_is e = ind-BoundExpr IsSeen IsSeenBehind
    (λ x y is. subst (λ z. IsSeen (roll-BoundExpr z)) is (expr_step y))
    (λ x y is. subst (λ z. IsSeenBehind (roll-Operation z)) is (operation_step y))
    e

pub call_is : (call : SetFunctionCall) → call_of call ≡ bound_function.call_of call
call_is CountRows = refl
call_is (Over a) = ap (set_function a.function a.distinct) (tree_is a.operand [])
