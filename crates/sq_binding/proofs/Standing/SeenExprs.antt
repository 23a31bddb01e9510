-- The tree by place of a bound value expression is the tree of the part that the definitions see (ISO/IEC 9075:1992, 6.5 and 6.11).
use Rattle.std.proofs.Common.{◌≡◌, ℕ, List, [], ◌∷◌, map, Option, Some, None, refl, sym, ap, subst, ◌∙◌}
use Rattle.std.specs.Option.{option_map}
use Rattle.std.specs.Prelude.{fold, slice_index_or}
use Rattle.sq_meaning.specs.Syntax.{literal, parameter, user, column, set_function, signed}
use Rattle.sq_value.specs.declared.value.Value.{Value}
use Rattle.sq_tree.specs.declared.expr.Sign.{Sign}
use Rattle.sq_bound.proofs.ExpressionLaws.{fold_mapped}
use Rattle.sq_bound.specs.Expression.{PlacedExpr, expr_of, missing, operated, operation_of as operation_meant, parameter_meant, place_meant}
use Rattle.sq_bound.specs.SetFunction.{call_of as call_meant}
use Rattle.sq_bound.specs.declared.expression.BoundExpr.{BoundExpr, BoundExpr-F, roll-BoundExpr, fold-roll-BoundExpr, map-BoundExpr, ind-BoundExpr}
use Rattle.sq_bound.specs.declared.expression.BoundExpr.TheOpen as layer
use Rattle.sq_bound.specs.declared.expression.Input.{Input}
use Rattle.sq_bound.specs.declared.expression.Operation.{Operation, Operation-F, roll-Operation, fold-roll-Operation, map-Operation}
use Rattle.sq_bound.specs.declared.expression.Place.{Place}
use Rattle.sq_bound.specs.declared.expression.SetFunctionCall.{SetFunctionCall}
use Rattle.sq_bound.specs.declared.expression.SetFunctionCall.TheVariants.{CountRows, Over}
use Rattle.sq_binding.specs.Numbered.{Numbered, tree_of}
use Rattle.sq_binding.specs.NumberedCondition.{trees_of}
use Rattle.sq_binding.specs.Seen.{call_of, numbered_of, operation_of}

abbrev IsSeen : BoundExpr → Type 0
IsSeen e = (functions : List PlacedExpr) → expr_of functions e ≡ tree_of functions (numbered_of e)

abbrev AddsSeen : Operation → Type 0
AddsSeen o = (functions : List PlacedExpr) (left : Numbered) → operation_meant functions o (tree_of functions left) ≡ tree_of functions (operation_of o left)

abbrev E : Type 0
E = (e : BoundExpr) × IsSeen e

abbrev O : Type 0
O = (o : Operation) × AddsSeen o

-- ---- level by level

meant_operations : (functions : List PlacedExpr) (first : BoundExpr) (rest : List Operation) → expr_of functions (roll-BoundExpr (layer.Operations first rest)) ≡ fold (λ left o. operation_meant functions o left) (expr_of functions first) rest
unfolding expr_of operation_meant
meant_operations functions first rest = fold-roll-BoundExpr _ _ _ _ (layer.Operations first rest) ∙ fold_mapped (λ left o. o left) (operation_meant functions) (expr_of functions first) rest

seen_operations : (first : BoundExpr) (rest : List Operation) → numbered_of (roll-BoundExpr (layer.Operations first rest)) ≡ fold (λ left o. operation_of o left) (numbered_of first) rest
unfolding numbered_of operation_of
seen_operations first rest = fold-roll-BoundExpr _ _ _ _ (layer.Operations first rest) ∙ fold_mapped (λ left o. o left) operation_of (numbered_of first) rest

operations_seen : (functions : List PlacedExpr) (os : List O) (a : Numbered)
    → fold (λ left o. operation_meant functions o left) (tree_of functions a) (map (λ (e : O). e.0) os) ≡ tree_of functions (fold (λ left o. operation_of o left) a (map (λ (e : O). e.0) os))
operations_seen functions [] a = refl
operations_seen functions (o ∷ os) a =
    ap (λ t. fold (λ left o. operation_meant functions o left) t (map (λ (e : O). e.0) os)) (o.1 functions a) ∙ operations_seen functions os (operation_of o.0 a)

meant_literal : (functions : List PlacedExpr) (v : Value) → expr_of functions (roll-BoundExpr (layer.Literal v)) ≡ literal v
unfolding expr_of
meant_literal functions v = fold-roll-BoundExpr _ _ _ _ (layer.Literal v)

seen_literal : (v : Value) → numbered_of (roll-BoundExpr (layer.Literal v)) ≡ Numbered.literal v
unfolding numbered_of
seen_literal v = fold-roll-BoundExpr _ _ _ _ (layer.Literal v)

meant_parameter : (functions : List PlacedExpr) (p : Input) → expr_of functions (roll-BoundExpr (layer.Parameter p)) ≡ parameter (parameter_meant p)
unfolding expr_of
meant_parameter functions p = fold-roll-BoundExpr _ _ _ _ (layer.Parameter p)

seen_parameter : (p : Input) → numbered_of (roll-BoundExpr (layer.Parameter p)) ≡ Numbered.parameter (parameter_meant p)
unfolding numbered_of
seen_parameter p = fold-roll-BoundExpr _ _ _ _ (layer.Parameter p)

meant_user : (functions : List PlacedExpr) → expr_of functions (roll-BoundExpr layer.User) ≡ user
unfolding expr_of
meant_user functions = fold-roll-BoundExpr _ _ _ _ layer.User

seen_user : numbered_of (roll-BoundExpr layer.User) ≡ Numbered.user
unfolding numbered_of
seen_user = fold-roll-BoundExpr _ _ _ _ layer.User

meant_column : (functions : List PlacedExpr) (p : Place) → expr_of functions (roll-BoundExpr (layer.Column p)) ≡ column (place_meant p)
unfolding expr_of
meant_column functions p = fold-roll-BoundExpr _ _ _ _ (layer.Column p)

seen_column : (p : Place) → numbered_of (roll-BoundExpr (layer.Column p)) ≡ Numbered.column (place_meant p)
unfolding numbered_of
seen_column p = fold-roll-BoundExpr _ _ _ _ (layer.Column p)

meant_function : (functions : List PlacedExpr) (n : ℕ) → expr_of functions (roll-BoundExpr (layer.SetFunction n)) ≡ slice_index_or functions n missing
unfolding expr_of
meant_function functions n = fold-roll-BoundExpr _ _ _ _ (layer.SetFunction n)

seen_function : (n : ℕ) → numbered_of (roll-BoundExpr (layer.SetFunction n)) ≡ Numbered.set_function n
unfolding numbered_of
seen_function n = fold-roll-BoundExpr _ _ _ _ (layer.SetFunction n)

meant_signed : (functions : List PlacedExpr) (sign : Sign) (e : BoundExpr) → expr_of functions (roll-BoundExpr (layer.Signed sign e)) ≡ signed sign (expr_of functions e)
unfolding expr_of
meant_signed functions sign e = fold-roll-BoundExpr _ _ _ _ (layer.Signed sign e)

seen_signed : (sign : Sign) (e : BoundExpr) → numbered_of (roll-BoundExpr (layer.Signed sign e)) ≡ Numbered.signed sign (numbered_of e)
unfolding numbered_of
seen_signed sign e = fold-roll-BoundExpr _ _ _ _ (layer.Signed sign e)

expr_step : (y : BoundExpr-F E O) → IsSeen (roll-BoundExpr (map-BoundExpr E O BoundExpr Operation (λ e. e.0) (λ e. e.0) y))
expr_step (layer.Literal v) functions = meant_literal functions v ∙ sym (ap (tree_of functions) (seen_literal v))
expr_step (layer.Parameter p) functions = meant_parameter functions p ∙ sym (ap (tree_of functions) (seen_parameter p))
expr_step layer.User functions = meant_user functions ∙ sym (ap (tree_of functions) seen_user)
expr_step (layer.Column p) functions = meant_column functions p ∙ sym (ap (tree_of functions) (seen_column p))
expr_step (layer.SetFunction n) functions = meant_function functions n ∙ sym (ap (tree_of functions) (seen_function n))
expr_step (layer.Signed sign e) functions = meant_signed functions sign e.0 ∙ ap (signed sign) (e.1 functions) ∙ sym (ap (tree_of functions) (seen_signed sign e.0))
expr_step (layer.Operations first rest) functions =
    meant_operations functions first.0 (map (λ (e : O). e.0) rest)
    ∙ ap (λ t. fold (λ left o. operation_meant functions o left) t (map (λ (e : O). e.0) rest)) (first.1 functions)
    ∙ operations_seen functions rest (numbered_of first.0)
    ∙ sym (ap (tree_of functions) (seen_operations first.0 (map (λ (e : O). e.0) rest)))

meant_operation : (functions : List PlacedExpr) (o : Operation-F BoundExpr Operation) (left : PlacedExpr) → operation_meant functions (roll-Operation o) left ≡ operated o.operator left (expr_of functions o.operand)
unfolding expr_of operation_meant
meant_operation functions o left = ap (λ (f : PlacedExpr → PlacedExpr). f left) (fold-roll-Operation _ _ _ _ o)

seen_operation : (o : Operation-F BoundExpr Operation) (left : Numbered) → operation_of (roll-Operation o) left ≡ Numbered.operation o.operator left (numbered_of o.operand)
unfolding numbered_of operation_of
seen_operation o left = ap (λ (f : Numbered → Numbered). f left) (fold-roll-Operation _ _ _ _ o)

operation_step : (y : Operation-F E O) → AddsSeen (roll-Operation (map-Operation E O BoundExpr Operation (λ e. e.0) (λ e. e.0) y))
operation_step y functions left =
    let o : Operation-F BoundExpr Operation = map-Operation E O BoundExpr Operation (λ e. e.0) (λ e. e.0) y in
    meant_operation functions o (tree_of functions left) ∙ ap (operated y.operator (tree_of functions left)) (y.operand.1 functions) ∙ sym (ap (tree_of functions) (seen_operation o left))

-- ---- value expressions, and set functions of a query

pub expr_seen : (functions : List PlacedExpr) (e : BoundExpr) → expr_of functions e ≡ tree_of functions (numbered_of e)
expr_seen functions e = ind-BoundExpr IsSeen AddsSeen
    (λ x y is. subst (λ z. IsSeen (roll-BoundExpr z)) is (expr_step y))
    (λ x y is. subst (λ z. AddsSeen (roll-Operation z)) is (operation_step y))
    e functions

pub exprs_seen : (functions : List PlacedExpr) (es : List BoundExpr) → map (expr_of functions) es ≡ trees_of functions (map numbered_of es)
exprs_seen functions [] = refl
exprs_seen functions (e ∷ es) = λ i. expr_seen functions e i ∷ exprs_seen functions es i

pub escape_seen : (functions : List PlacedExpr) (e : Option BoundExpr) → option_map (expr_of functions) e ≡ option_map (tree_of functions) (option_map numbered_of e)
escape_seen functions None = refl
escape_seen functions (Some e) = ap (λ (t : PlacedExpr). Some t) (expr_seen functions e)

pub call_seen : (c : SetFunctionCall) → call_meant c ≡ call_of c
call_seen CountRows = refl
call_seen (Over a) = ap (set_function a.function a.distinct) (expr_seen [] a.operand)

pub calls_seen : (cs : List SetFunctionCall) → map call_meant cs ≡ map call_of cs
calls_seen [] = refl
calls_seen (c ∷ cs) = λ i. call_seen c i ∷ calls_seen cs i
