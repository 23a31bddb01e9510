-- Operators between two values (ISO/IEC 9075:1992, 6.12).
use Rattle.sq_value.specs.declared.value.Value.{Value}
use Rattle.sq_tree.specs.declared.expr.Sign.TheVariants as sign
use Rattle.sq_tree.specs.declared.expr.TimesSign.TheVariants as times
use Rattle.sq_meaning.specs.Status.{Outcome}
use Rattle.sq_meaning.specs.Expression.{sum_of, product_of}
use Rattle.sq_bound.specs.declared.expression.Operator.{Operator}
use Rattle.sq_bound.specs.declared.expression.Operator.TheVariants.{Plus, Minus, Times, Over}

-- the result of an operator
abbrev pub operation : Operator → Value → Value → Outcome Value
operation Plus = sum_of sign.Plus
operation Minus = sum_of sign.Minus
operation Times = product_of times.Times
operation Over = product_of times.Over
