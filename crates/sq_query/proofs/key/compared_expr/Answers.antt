-- Left open for compared_expr: its result; answered by NamedTests.
use Rattle.std.proofs.Common.{sym}
use Rattle.sq_query.proofs.Keys.NamedTests.{named_within}
use Rattle.sq_query.proofs.key.compared_expr.Goals as goal

pub returns-in-Some : goal.returns-in-Some
returns-in-Some c = (
  c.index-tests-number.result,
  (c.loop-expr.number, named_within c.args.column c.args.tests.now c.loop-expr.number c.loop-expr.invariant, sym c.index-tests-number.is),
  c.in-Some.ensures,
)
