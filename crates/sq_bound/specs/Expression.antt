-- The meaning of a bound expression: a tree by place (ISO/IEC 9075:1992, 6.11).
use Rattle.std.specs.Prelude.{List, [], fold, slice_index_or}
use Rattle.sq_value.specs.declared.value.Value.TheVariants.{Chars}
use Rattle.sq_tree.specs.declared.expr.Sign.TheVariants as sign
use Rattle.sq_tree.specs.declared.expr.TimesSign.TheVariants as times
use Rattle.sq_meaning.specs.Syntax.{Expr, literal, parameter, user, column, signed, added, scaled}
use Rattle.sq_meaning.specs.Environment as meaning
use Rattle.sq_meaning.specs.Placed.{Placed, PlacedParameter}
use Rattle.sq_bound.specs.declared.condition.TablePlace.{TablePlace}
use Rattle.sq_bound.specs.declared.expression.Place.{Place}
use Rattle.sq_bound.specs.declared.expression.Input.{Input}
use Rattle.sq_bound.specs.declared.expression.Operator.{Operator}
use Rattle.sq_bound.specs.declared.expression.Operator.TheVariants.{Plus, Minus, Times, Over}
use Rattle.sq_bound.specs.declared.expression.BoundExpr.{BoundExpr, fold-BoundExpr, BoundExpr-F}
use Rattle.sq_bound.specs.declared.expression.BoundExpr.TheOpen as layer
use Rattle.sq_bound.specs.declared.expression.Operation.{Operation, fold-Operation, Operation-F}

abbrev pub PlacedExpr : Type 0
PlacedExpr = Expr (Placed TablePlace)

abbrev pub place_meant : Place → meaning.Place
place_meant p = record { depth = p.depth; item = p.item; column = p.column }

abbrev pub parameter_meant : Input → PlacedParameter
parameter_meant p = record { position = p.parameter; indicator = p.indicator }

-- an expression that has no value anywhere: a text has no sign
abbrev pub missing : PlacedExpr
missing = signed sign.Minus (literal (Chars []))

abbrev pub operated : Operator → PlacedExpr → PlacedExpr → PlacedExpr
operated Plus left right = added sign.Plus left right
operated Minus left right = added sign.Minus left right
operated Times left right = scaled times.Times left right
operated Over left right = scaled times.Over left right

-- One level of a tree, with the meanings of its parts in their places. The set functions of a group have these trees
-- in the order of the text. An operator and its right operand wait for the left one.

abbrev pub expr_layer : List PlacedExpr → BoundExpr-F PlacedExpr (PlacedExpr → PlacedExpr) → PlacedExpr
expr_layer functions (layer.Literal v) = literal v
expr_layer functions (layer.Parameter p) = parameter (parameter_meant p)
expr_layer functions layer.User = user
expr_layer functions (layer.Column p) = column (place_meant p)
expr_layer functions (layer.SetFunction n) = slice_index_or functions n missing
expr_layer functions (layer.Signed sign e) = signed sign e
expr_layer functions (layer.Operations first rest) = fold (λ left operation. operation left) first rest

abbrev pub operation_layer : Operation-F PlacedExpr (PlacedExpr → PlacedExpr) → PlacedExpr → PlacedExpr
operation_layer o left = operated o.operator left o.operand

unfoldable pub expr_of : List PlacedExpr → BoundExpr → PlacedExpr
expr_of functions = fold-BoundExpr PlacedExpr (PlacedExpr → PlacedExpr) (expr_layer functions) operation_layer

unfoldable pub operation_of : List PlacedExpr → Operation → PlacedExpr → PlacedExpr
operation_of functions =
    fold-Operation PlacedExpr (PlacedExpr → PlacedExpr) (expr_layer functions) operation_layer
