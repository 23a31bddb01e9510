-- Left open: the results, and that the loops keep their invariants; answered by Steps and Sums.
use Rattle.std.proofs.Common.{Ok, Err, ap, ◌∙◌, sym, subst}
use Rattle.sq_value.specs.declared.value.Value.TheVariants as value
use Rattle.sq_tree.specs.declared.expr.Primary.TheVariants as spelled
use Rattle.sq_meaning.specs.Spelled.{added_of, expr_of, factor_of, is_distinct_word, spelled_number, primary_of, scaled_of, term_of}
use Rattle.sq_meaning.specs.Syntax.{bracketed, column, count_rows, literal, parameter, set_function, user}
use Rattle.sq_meaning.proofs.SpelledLevels.{primary_of-Bracketed, primary_of-Column, primary_of-CountRows, primary_of-Number, primary_of-Parameter, primary_of-SetFunction, primary_of-Text, primary_of-User}
use Rattle.sq_binder.specs.Binds.{Binds}
use Rattle.sq_binder.specs.Bound.{bound_of}
use Rattle.sq_binder.specs.Expression.{bound_at, product_step, sum_step}
use Rattle.sq_binder.proofs.OneByOne.Steps.{all_done, handed_on, step_done, step_stops, stops_as}
use Rattle.sq_binder.proofs.Expressions.Sums.{at_primary, factor_behind, factor_stops, primary_stops, product_begun, function_fails, function_there, inside, product_stops, signed_is, sum_begun, sum_stops, term_behind, term_stops, unsigned_is}
use Rattle.sq_binder.proofs.expression.+exprs.Goals as goal

-- ---- sums

pub expr_value-returns-in_err-sum : goal.expr_value-returns-in_err-sum
expr_value-returns-in_err-sum t c =
    handed_on bound_of (bound_at c.args.at.now (expr_of c.args.expr.now) c.args.before) c.from_residual.result c.in_err-sum.field-0.0 c.from_residual.ensures.1
    (sum_stops c.args.at.now c.args.before c.args.expr.now c.in_err-sum.field-0.0 c.in_err-sum.ensures)

pub expr_value-loop-added-init : goal.expr_value-loop-added-init
expr_value-loop-added-init t c = sum_begun c.args.at.now c.args.before c.args.expr.now c.as_slice-added-items.result.now (bound_of c.in_ok-sum.sum) c.as_slice-added-items.ensures c.in_ok-sum.ensures

pub expr_value-loop-added-preserved : goal.expr_value-loop-added-preserved
expr_value-loop-added-preserved t c =
    step_done (sum_step c.args.at.now c.args.before) added_of (bound_at c.args.at.now (expr_of c.args.expr.now) c.args.before) c.as_slice-added-items.result.now c.loop-added.added-index
    (bound_of c.loop-added.sum) c.added-item.result (bound_of c.in-Ok.next) c.loop-added-test.true c.added-item.is c.loop-added.invariant c.in-Ok.ensures

pub expr_value-returns-in-Err : goal.expr_value-returns-in-Err
expr_value-returns-in-Err t c =
    step_stops (sum_step c.args.at.now c.args.before) added_of (bound_at c.args.at.now (expr_of c.args.expr.now) c.args.before) c.as_slice-added-items.result.now c.loop-added.added-index
    (bound_of c.loop-added.sum) c.added-item.result c.in-Err.stop c.loop-added-test.true c.added-item.is c.loop-added.invariant c.in-Err.ensures

pub expr_value-returns : goal.expr_value-returns
expr_value-returns t c =
    all_done (sum_step c.args.at.now c.args.before) added_of (bound_at c.args.at.now (expr_of c.args.expr.now) c.args.before) c.as_slice-added-items.result.now c.loop-added.added-index
    (bound_of c.loop-added.sum) c.loop-added-test.false c.loop-added.invariant

pub with_term-returns-in-Ok : goal.with_term-returns-in-Ok
with_term-returns-in-Ok t c =
    term_behind c.args.at.now c.args.before (bound_of c.args.left) c.in-Some.number c.in-Some.ensures c.args.added.now c.sum_operator.result (bound_of c.in-Ok.right) c.apply_operator.result
    c.sum_operator.ensures c.in-Ok.ensures c.apply_operator.ensures

pub with_term-returns-in-Err : goal.with_term-returns-in-Err
with_term-returns-in-Err t c = term_stops c.args.at.now c.args.before (bound_of c.args.left) c.in-Some.number c.in-Some.ensures c.args.added.now c.in-Err.stop c.in-Err.ensures

-- ---- products

pub term_value-returns-in_err-product : goal.term_value-returns-in_err-product
term_value-returns-in_err-product t c =
    handed_on bound_of (bound_at c.args.at.now (term_of c.args.term.now) c.args.before) c.from_residual.result c.in_err-product.field-0.0 c.from_residual.ensures.1
    (product_stops c.args.at.now c.args.before c.args.term.now c.in_err-product.field-0.0 c.in_err-product.ensures)

pub term_value-loop-scaled-init : goal.term_value-loop-scaled-init
term_value-loop-scaled-init t c =
    product_begun c.args.at.now c.args.before c.args.term.now c.as_slice-scaled-items.result.now (bound_of c.in_ok-product.product) c.as_slice-scaled-items.ensures c.in_ok-product.ensures

pub term_value-loop-scaled-preserved : goal.term_value-loop-scaled-preserved
term_value-loop-scaled-preserved t c =
    step_done (product_step c.args.at.now c.args.before) scaled_of (bound_at c.args.at.now (term_of c.args.term.now) c.args.before) c.as_slice-scaled-items.result.now c.loop-scaled.scaled-index
    (bound_of c.loop-scaled.product) c.scaled-item.result (bound_of c.in-Ok.next) c.loop-scaled-test.true c.scaled-item.is c.loop-scaled.invariant c.in-Ok.ensures

pub term_value-returns-in-Err : goal.term_value-returns-in-Err
term_value-returns-in-Err t c =
    step_stops (product_step c.args.at.now c.args.before) scaled_of (bound_at c.args.at.now (term_of c.args.term.now) c.args.before) c.as_slice-scaled-items.result.now c.loop-scaled.scaled-index
    (bound_of c.loop-scaled.product) c.scaled-item.result c.in-Err.stop c.loop-scaled-test.true c.scaled-item.is c.loop-scaled.invariant c.in-Err.ensures

pub term_value-returns : goal.term_value-returns
term_value-returns t c =
    all_done (product_step c.args.at.now c.args.before) scaled_of (bound_at c.args.at.now (term_of c.args.term.now) c.args.before) c.as_slice-scaled-items.result.now c.loop-scaled.scaled-index
    (bound_of c.loop-scaled.product) c.loop-scaled-test.false c.loop-scaled.invariant

pub with_factor-returns-in-Ok : goal.with_factor-returns-in-Ok
with_factor-returns-in-Ok t c =
    factor_behind c.args.at.now c.args.before (bound_of c.args.left) c.in-Some.number c.in-Some.ensures c.args.scaled.now c.product_operator.result (bound_of c.in-Ok.right) c.apply_operator.result
    c.product_operator.ensures c.in-Ok.ensures c.apply_operator.ensures

pub with_factor-returns-in-Err : goal.with_factor-returns-in-Err
with_factor-returns-in-Err t c = factor_stops c.args.at.now c.args.before (bound_of c.args.left) c.in-Some.number c.in-Some.ensures c.args.scaled.now c.in-Err.stop c.in-Err.ensures

-- ---- signs

pub factor_value-returns-in_err-operand : goal.factor_value-returns-in_err-operand
factor_value-returns-in_err-operand t c =
    handed_on bound_of (bound_at c.args.at.now (factor_of c.args.factor.now) c.args.before) c.from_residual.result c.in_err-operand.field-0.0 c.from_residual.ensures.1
    (primary_stops c.args.at.now c.args.before c.args.factor.now c.in_err-operand.field-0.0 c.in_err-operand.ensures)

pub factor_value-returns-in-None : goal.factor_value-returns-in-None
factor_value-returns-in-None t c = unsigned_is c.args.at.now c.args.before c.args.factor.now (bound_of c.in_ok-operand.operand) c.in-None.is c.in_ok-operand.ensures

pub factor_value-returns-in-Some : goal.factor_value-returns-in-Some
factor_value-returns-in-Some t c = signed_is c.args.at.now c.args.before c.args.factor.now c.in-Some.sign (bound_of c.in_ok-operand.operand) c.sign_operand.result c.in-Some.is c.in_ok-operand.ensures c.sign_operand.ensures

-- ---- primaries

pub primary_value-returns-in-Number : goal.primary_value-returns-in-Number
primary_value-returns-in-Number t c =
    at_primary c.args.at.now c.args.before c.args.primary.now (spelled.Number c.in-Number.number) (literal (value.Num (spelled_number c.in-Number.number))) (Ok c.number_literal.result)
    c.in-Number.is (primary_of-Number c.in-Number.number) c.number_literal.ensures

pub primary_value-returns-in-Text : goal.primary_value-returns-in-Text
primary_value-returns-in-Text t c =
    at_primary c.args.at.now c.args.before c.args.primary.now (spelled.Text c.in-Text.characters) (literal (value.Chars c.in-Text.characters)) c.text_literal.result
    c.in-Text.is (primary_of-Text c.in-Text.characters) c.text_literal.ensures

pub primary_value-returns-in-Parameter : goal.primary_value-returns-in-Parameter
primary_value-returns-in-Parameter t c =
    at_primary c.args.at.now c.args.before c.args.primary.now (spelled.Parameter c.in-Parameter.parameter) (parameter c.in-Parameter.parameter) c.parameter_value.result
    c.in-Parameter.is (primary_of-Parameter c.in-Parameter.parameter) c.parameter_value.ensures

pub primary_value-returns-in-User : goal.primary_value-returns-in-User
primary_value-returns-in-User t c =
    at_primary c.args.at.now c.args.before c.args.primary.now spelled.User user (Ok c.user_value.result) c.in-User.is primary_of-User (ap Ok (sym c.user_value.ensures))

pub primary_value-returns-in-Column : goal.primary_value-returns-in-Column
primary_value-returns-in-Column t c =
    at_primary c.args.at.now c.args.before c.args.primary.now (spelled.Column c.in-Column.reference) (column c.in-Column.reference) c.column_value.result
    c.in-Column.is (primary_of-Column c.in-Column.reference) c.column_value.ensures

pub primary_value-returns-in-CountRows : goal.primary_value-returns-in-CountRows
primary_value-returns-in-CountRows t c =
    at_primary c.args.at.now c.args.before c.args.primary.now spelled.CountRows count_rows c.count_rows.result c.in-CountRows.is primary_of-CountRows c.count_rows.ensures

pub primary_value-returns-in_ok-operand-in-SetFunction : goal.primary_value-returns-in_ok-operand-in-SetFunction
primary_value-returns-in_ok-operand-in-SetFunction t c =
    let distinct = is_distinct_word c.in-SetFunction.quantifier in
    at_primary c.args.at.now c.args.before c.args.primary.now (spelled.SetFunction c.in-SetFunction.function c.in-SetFunction.quantifier c.in-SetFunction.expr)
    (set_function c.in-SetFunction.function distinct (expr_of c.in-SetFunction.expr)) c.function_over.result
    c.in-SetFunction.is (primary_of-SetFunction c.in-SetFunction.function c.in-SetFunction.quantifier c.in-SetFunction.expr)
    (function_there c.args.at.now c.args.before c.in-SetFunction.function distinct (expr_of c.in-SetFunction.expr) (bound_of c.in_ok-operand-in-SetFunction.operand) c.function_over.result
    ((λ i. bound_at (sym c.inside.ensures i) (expr_of (sym c.get.ensures i)) 0) ∙ c.in_ok-operand-in-SetFunction.ensures) c.function_over.ensures)

pub primary_value-returns-in_err-operand-in-SetFunction : goal.primary_value-returns-in_err-operand-in-SetFunction
primary_value-returns-in_err-operand-in-SetFunction t c =
    let distinct = is_distinct_word c.in-SetFunction.quantifier in
    let e = expr_of c.in-SetFunction.expr in
    let stop = c.in_err-operand-in-SetFunction.field-0.0 in
    handed_on bound_of (bound_at c.args.at.now (primary_of c.args.primary.now) c.args.before) c.from_residual.result stop c.from_residual.ensures.1
    (at_primary c.args.at.now c.args.before c.args.primary.now (spelled.SetFunction c.in-SetFunction.function c.in-SetFunction.quantifier c.in-SetFunction.expr) (set_function c.in-SetFunction.function distinct e) (Err stop)
    c.in-SetFunction.is (primary_of-SetFunction c.in-SetFunction.function c.in-SetFunction.quantifier c.in-SetFunction.expr)
    (function_fails c.args.at.now c.args.before c.in-SetFunction.function distinct e stop
    (stops_as (bound_at (inside c.args.at.now c.args.before) e 0) (bound_at c.inside.result (expr_of c.get.result.now) 0) stop (λ i. bound_at (sym c.inside.ensures i) (expr_of (sym c.get.ensures i)) 0) c.in_err-operand-in-SetFunction.ensures)))

pub primary_value-returns-in-Bracketed : goal.primary_value-returns-in-Bracketed
primary_value-returns-in-Bracketed t c =
    at_primary c.args.at.now c.args.before c.args.primary.now (spelled.Bracketed c.in-Bracketed.expr) (bracketed (expr_of c.in-Bracketed.expr)) c.expr_value-in-Bracketed.result
    c.in-Bracketed.is (primary_of-Bracketed c.in-Bracketed.expr) (subst (λ e. Binds bound_of (bound_at c.args.at.now (expr_of e) c.args.before) c.expr_value-in-Bracketed.result) c.get-in-Bracketed.ensures c.expr_value-in-Bracketed.ensures)
