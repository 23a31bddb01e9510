-- Value expressions in their surroundings, and sums and products with a further operand (ISO/IEC 9075:1992, 6.11 and 6.12).
use Rattle.std.specs.Prelude.{ℕ, ◌+◌, length}
use Rattle.sq_tree.specs.declared.expr.Sign.{Sign}
use Rattle.sq_tree.specs.declared.expr.TimesSign.{TimesSign}
use Rattle.sq_meaning.specs.Spelled.{Named}
use Rattle.sq_meaning.specs.Syntax.{Expr}
use Rattle.sq_binding.specs.Expression.{Bound, bound, operated_as, product_operator, sum_operator}
use Rattle.sq_binding.specs.Outcome.{Outcome, ◌>>=◌}
use Rattle.sq_binder.specs.Scope.{parameters_in, scopes_in}
use Rattle.sq_binder.specs.declared.expression.Standing.{Standing}

abbrev pub bound_at : Standing → Expr Named → ℕ → Outcome Bound
bound_at at e n =
    bound (scopes_in at.environment.now) (parameters_in at.environment.now) at.allowed at.in_function e n

-- the left operand of a sign is bound, after a given number of set functions of the query
abbrev pub sum_step : Standing → ℕ → Bound → Sign × Expr Named → Outcome Bound
sum_step at n left s = bound_at at s.1 (n + length left.calls) >>= operated_as (sum_operator s.0) left

abbrev pub product_step : Standing → ℕ → Bound → TimesSign × Expr Named → Outcome Bound
product_step at n left s = bound_at at s.1 (n + length left.calls) >>= operated_as (product_operator s.0) left
