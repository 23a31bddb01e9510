use Rattle.std.proofs.Common.{List}
use Rattle.sq_bound.specs.Condition.{cond_of, conj_of}
use Rattle.sq_bound.specs.Expression.{PlacedExpr}
use Rattle.sq_bound.specs.Noted.{CondIsNoted, IsNoted}
use Rattle.sq_bound.specs.Numbered.{ConjWith}
use Rattle.sq_query.specs.Inner.{ServesCond}
use Rattle.sq_query.proofs.inner.+read_inside.Given as goal

abbrev pub invariant-with_condition-loop-number : goal.invariant-with_condition-loop-number
invariant-with_condition-loop-number g l = (functions : List PlacedExpr) → ServesCond (cond_of functions l.condition) (CondIsNoted l.condition) l.elsewhere l.around (g.S.Store.content_now l.store) (g.S.Store.key_columns l.store) l.call.parameters.now l.call.user l.fn.before.items l.found.items

abbrev pub invariant-with_term-loop-number : goal.invariant-with_term-loop-number
invariant-with_term-loop-number g l = (functions : List PlacedExpr) → ServesCond (conj_of functions l.term) (ConjWith IsNoted l.term) l.elsewhere l.around (g.S.Store.content_now l.store) (g.S.Store.key_columns l.store) l.call.parameters.now l.call.user l.fn.before.items l.found.items
