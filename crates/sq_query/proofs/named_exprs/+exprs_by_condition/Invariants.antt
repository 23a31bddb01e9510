use Rattle.std.proofs.Common.{take}
use Rattle.std.specs.List.{AllByRecursion}
use Rattle.sq_query.specs.Named.{IsPassed}
use Rattle.sq_query.proofs.Keys.ExprRows.{AreFoundBy, lent_exprs}
use Rattle.sq_query.proofs.named_exprs.+exprs_by_condition.Given as goal

abbrev pub invariant-exprs_by_tests-loop-test : goal.invariant-exprs_by_tests-loop-test
invariant-exprs_by_tests-loop-test l = AllByRecursion (IsPassed l.sure) (take l.test-index l.tests)

abbrev pub invariant-exprs_by_condition-loop-term : goal.invariant-exprs_by_condition-loop-term
invariant-exprs_by_condition-loop-term l = AreFoundBy l.seen.item l.sure l.column (take l.term-index l.term-items) (lent_exprs l.exprs.items)
