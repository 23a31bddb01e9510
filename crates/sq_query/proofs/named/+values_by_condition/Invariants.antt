use Rattle.std.proofs.Common.{take}
use Rattle.std.specs.List.{AllByRecursion}
use Rattle.sq_query.specs.Named.{IsPassed}
use Rattle.sq_query.proofs.Keys.NamedRows.{IsTermFalseBut}
use Rattle.sq_query.proofs.named.+values_by_condition.Given as goal

abbrev pub invariant-values_by_tests-loop-test : goal.invariant-values_by_tests-loop-test
invariant-values_by_tests-loop-test l = AllByRecursion (IsPassed l.sure) (take l.test-index l.tests)

abbrev pub invariant-values_by_condition-loop-term : goal.invariant-values_by_condition-loop-term
invariant-values_by_condition-loop-term l =
    AllByRecursion (IsTermFalseBut l.sought l.call.parameters.now l.call.user l.sure l.column l.values.items) (take l.term-index l.term-items)
