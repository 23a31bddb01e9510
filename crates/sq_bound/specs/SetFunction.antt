-- The meaning of a bound set function: a tree by place (ISO/IEC 9075:1992, 6.5).
use Rattle.std.specs.Prelude.{[]}
use Rattle.sq_meaning.specs.Syntax.{count_rows, set_function}
use Rattle.sq_bound.specs.Expression.{PlacedExpr, expr_of}
use Rattle.sq_bound.specs.declared.expression.SetFunctionCall.{SetFunctionCall}
use Rattle.sq_bound.specs.declared.expression.SetFunctionCall.TheVariants.{CountRows, Over}

-- its operand has no set function
abbrev pub call_of : SetFunctionCall → PlacedExpr
call_of CountRows = count_rows
call_of (Over a) = set_function a.function a.distinct (expr_of [] a.operand)
