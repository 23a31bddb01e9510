use Rattle.std.proofs.Common.{◌≡◌, List, [], false, drop, fold, map}
use Rattle.sq_meaning.specs.Syntax.{conds}
use Rattle.sq_meaning.specs.Target.{has_subquery}
use Rattle.sq_bound.specs.Condition.{cond_of, conj_of, test_of}
use Rattle.sq_bound.specs.Expression.{PlacedExpr}
use Rattle.sq_query.specs.Needed.{places_in, with_table, cond_tables, conds_tables}
use Rattle.sq_query.proofs.needed.Needed.+needed_of_cond.Given as goal

abbrev pub invariant-add_of_condition-loop-term : goal.invariant-add_of_condition-loop-term
invariant-add_of_condition-loop-term l = record {
  plain : has_subquery (cond_of [] l.condition) ≡ false → l.self ≡ l.fn.self;
  adds : (functions : List PlacedExpr) → fold with_table (places_in l.self) (conds_tables (conds (map (conj_of functions) (drop l.term-index l.term-items)))) ≡ fold with_table (places_in l.fn.self) (cond_tables (cond_of functions l.condition));
}

abbrev pub invariant-add_of_tests-loop-test : goal.invariant-add_of_tests-loop-test
invariant-add_of_tests-loop-test l = record {
  plain : has_subquery (conj_of [] l.term) ≡ false → l.self ≡ l.fn.self;
  adds : (functions : List PlacedExpr) → fold with_table (places_in l.self) (conds_tables (conds (map (test_of functions) (drop l.test-index l.test-items)))) ≡ fold with_table (places_in l.fn.self) (cond_tables (conj_of functions l.term));
}

abbrev pub invariant-add_of_specification-loop-table : goal.invariant-add_of_specification-loop-table
invariant-add_of_specification-loop-table l = fold with_table (places_in l.self) (drop l.table-index l.table-items) ≡ fold with_table (places_in l.fn.self) l.table-items
