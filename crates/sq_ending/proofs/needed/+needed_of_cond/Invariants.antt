use Rattle.std.proofs.Common.{◌≡◌, ◌++◌, List, drop, map}
use Rattle.sq_meaning.specs.Syntax.{conds}
use Rattle.sq_bound.specs.Condition.{cond_of, conj_of, test_of}
use Rattle.sq_bound.specs.Expression.{PlacedExpr}
use Rattle.sq_query.specs.Needed.{cond_tables, conds_tables}
use Rattle.sq_ending.proofs.needed.+needed_of_cond.Given as goal

abbrev pub invariant-add_of_condition-loop-term : goal.invariant-add_of_condition-loop-term
invariant-add_of_condition-loop-term l =
    (functions : List PlacedExpr) → l.tables.items ++ conds_tables (conds (map (conj_of functions) (drop l.term-index l.term-items))) ≡ l.fn.tables.items ++ cond_tables (cond_of functions l.condition)

abbrev pub invariant-add_of_tests-loop-test : goal.invariant-add_of_tests-loop-test
invariant-add_of_tests-loop-test l =
    (functions : List PlacedExpr) → l.tables.items ++ conds_tables (conds (map (test_of functions) (drop l.test-index l.test-items))) ≡ l.fn.tables.items ++ cond_tables (conj_of functions l.term)
