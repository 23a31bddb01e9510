use Rattle.std.proofs.Common.{◌-◌, length}
use Rattle.sq_query.proofs.Keys.NamedTests.{IsNamedFrom}
use Rattle.sq_query.proofs.key.compared_expr.Given as goal

abbrev pub invariant-loop-expr : goal.invariant-loop-expr
invariant-loop-expr l = IsNamedFrom l.column l.tests l.number

abbrev pub decreases-loop-expr : goal.decreases-loop-expr
decreases-loop-expr l = length l.tests - l.number
