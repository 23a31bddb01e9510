use Rattle.std.proofs.Common.{◌≡◌, drop, map, Ok}
use Rattle.sq_meaning.specs.Spelled.{added_of, expr_of, scaled_of, term_of}
use Rattle.sq_binder.specs.Bound.{bound_of}
use Rattle.sq_binder.specs.Expression.{bound_at, product_step, sum_step}
use Rattle.sq_binder.proofs.OneByOne.Steps.{stepped}
use Rattle.sq_binder.proofs.expression.+exprs.Given as goal

abbrev pub invariant-expr_value-loop-added : goal.invariant-expr_value-loop-added
invariant-expr_value-loop-added l =
    bound_at l.at (expr_of l.expr) l.before ≡ stepped (sum_step l.at l.before) (Ok (bound_of l.sum)) (map added_of (drop l.added-index l.added-items))

abbrev pub invariant-term_value-loop-scaled : goal.invariant-term_value-loop-scaled
invariant-term_value-loop-scaled l =
    bound_at l.at (term_of l.term) l.before ≡ stepped (product_step l.at l.before) (Ok (bound_of l.product)) (map scaled_of (drop l.scaled-index l.scaled-items))
