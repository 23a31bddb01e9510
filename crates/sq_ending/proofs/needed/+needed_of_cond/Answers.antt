-- Left open: the results, and that the loops keep their invariants; answered by Gathered.
use Rattle.std.proofs.Common.{◌++◌, ◌∙◌, List, [], ap, append-nil, map, refl, sym}
use Rattle.sq_meaning.specs.Syntax.{conds}
use Rattle.sq_bound.specs.Condition.{clause_of, cond_of, conj_of, select_of, test_of}
use Rattle.sq_bound.specs.SetFunction.{call_of}
use Rattle.sq_bound.specs.declared.condition.BoundCond.{BoundCond}
use Rattle.sq_bound.specs.declared.condition.BoundConj.{BoundConj}
use Rattle.sq_bound.specs.declared.condition.BoundSpecification.{out-BoundSpecification}
use Rattle.sq_bound.specs.declared.condition.BoundTest.{BoundTest}
use Rattle.sq_bound.specs.declared.condition.Grouping.{out-Grouping}
use Rattle.sq_bound.specs.declared.condition.TablePlace.{TablePlace}
use Rattle.sq_query.specs.Needed.{clause_tables, cond_tables, conds_tables, inside_tables, specification_tables}
use Rattle.sq_query.proofs.Needs.Added.{tables_of_bracketed, tables_of_compared, tables_of_cond, tables_of_conj, tables_of_exists, tables_of_in, tables_of_other, tables_of_test}
use Rattle.sq_query.proofs.Needs.InsideTables.{inside_grouped, inside_ungrouped, items_and_inside}
use Rattle.sq_ending.proofs.Gathered.{adds_both, adds_same, gathered_all, gathered_more}
use Rattle.sq_ending.proofs.needed.+needed_of_cond.Goals as goal

pub add_of_condition-loop-term-init : goal.add_of_condition-loop-term-init
add_of_condition-loop-term-init t c = λ functions.
    ap (λ (ts : List TablePlace). c.args.tables.now.items ++ ts) (tables_of_cond functions c.args.condition.now c.as_slice-term-items.result.now c.as_slice-term-items.ensures)

pub add_of_condition-loop-term-preserved : goal.add_of_condition-loop-term-preserved
add_of_condition-loop-term-preserved t c = λ functions.
    gathered_more (λ (xs : List BoundConj). conds_tables (conds (map (conj_of functions) xs))) (λ x. cond_tables (conj_of functions x)) (λ x xs. refl)
    c.loop-term.tables.items c.add_of_tests.new.tables.items (c.args.tables.now.items ++ cond_tables (cond_of functions c.args.condition.now))
    c.as_slice-term-items.result.now c.loop-term.term-index c.term-item.result c.loop-term-test.true c.term-item.is (c.in_ok-add_of_tests.ensures functions) (c.loop-term.invariant functions)

pub add_of_condition-returns : goal.add_of_condition-returns
add_of_condition-returns t c = λ functions.
    gathered_all (λ (xs : List BoundConj). conds_tables (conds (map (conj_of functions) xs))) (λ x. cond_tables (conj_of functions x)) (λ x xs. refl)
    c.loop-term.tables.items (c.args.tables.now.items ++ cond_tables (cond_of functions c.args.condition.now)) c.as_slice-term-items.result.now c.loop-term.term-index refl c.loop-term-test.false (c.loop-term.invariant functions)

pub add_of_tests-loop-test-init : goal.add_of_tests-loop-test-init
add_of_tests-loop-test-init t c = λ functions.
    ap (λ (ts : List TablePlace). c.args.tables.now.items ++ ts) (tables_of_conj functions c.args.term.now c.as_slice-test-items.result.now c.as_slice-test-items.ensures)

pub add_of_tests-loop-test-preserved : goal.add_of_tests-loop-test-preserved
add_of_tests-loop-test-preserved t c = λ functions.
    gathered_more (λ (xs : List BoundTest). conds_tables (conds (map (test_of functions) xs))) (λ x. cond_tables (test_of functions x)) (λ x xs. refl)
    c.loop-test.tables.items c.add_of_predicate.new.tables.items (c.args.tables.now.items ++ cond_tables (conj_of functions c.args.term.now))
    c.as_slice-test-items.result.now c.loop-test.test-index c.test-item.result c.loop-test-test.true c.test-item.is
    (c.in_ok-add_of_predicate.ensures functions ∙ ap (λ (ts : List TablePlace). c.loop-test.tables.items ++ ts) (sym (tables_of_test functions c.test-item.result))) (c.loop-test.invariant functions)

pub add_of_tests-returns : goal.add_of_tests-returns
add_of_tests-returns t c = λ functions.
    gathered_all (λ (xs : List BoundTest). conds_tables (conds (map (test_of functions) xs))) (λ x. cond_tables (test_of functions x)) (λ x xs. refl)
    c.loop-test.tables.items (c.args.tables.now.items ++ cond_tables (conj_of functions c.args.term.now)) c.as_slice-test-items.result.now c.loop-test.test-index refl c.loop-test-test.false (c.loop-test.invariant functions)

pub add_of_predicate-returns-in-CompareQuery : goal.add_of_predicate-returns-in-CompareQuery
add_of_predicate-returns-in-CompareQuery t c = λ functions.
    adds_same c.add_of_specification.result c.args.tables.now.items c.add_of_specification.new.tables.items _ (specification_tables c.get.result.now)
    (tables_of_compared functions c.args.predicate.now _ _ _ _ c.in-CompareQuery.is ∙ ap specification_tables (sym c.get.ensures)) c.add_of_specification.ensures

pub add_of_predicate-returns-in-InQuery : goal.add_of_predicate-returns-in-InQuery
add_of_predicate-returns-in-InQuery t c = λ functions.
    adds_same c.add_of_specification-in-InQuery.result c.args.tables.now.items c.add_of_specification-in-InQuery.new.tables.items _ (specification_tables c.get-in-InQuery.result.now)
    (tables_of_in functions c.args.predicate.now _ _ _ c.in-InQuery.is ∙ ap specification_tables (sym c.get-in-InQuery.ensures)) c.add_of_specification-in-InQuery.ensures

pub add_of_predicate-returns-in-Exists : goal.add_of_predicate-returns-in-Exists
add_of_predicate-returns-in-Exists t c = λ functions.
    adds_same c.add_of_specification-in-Exists.result c.args.tables.now.items c.add_of_specification-in-Exists.new.tables.items _ (specification_tables c.get-in-Exists.result.now)
    (tables_of_exists functions c.args.predicate.now _ c.in-Exists.is ∙ ap specification_tables (sym c.get-in-Exists.ensures)) c.add_of_specification-in-Exists.ensures

pub add_of_predicate-returns-in-Bracketed : goal.add_of_predicate-returns-in-Bracketed
add_of_predicate-returns-in-Bracketed t c = λ functions.
    adds_same c.add_of_condition.result c.args.tables.now.items c.add_of_condition.new.tables.items _ (cond_tables (cond_of functions c.get-in-Bracketed.result.now))
    (tables_of_bracketed functions c.args.predicate.now _ c.in-Bracketed.is ∙ ap (λ (d : BoundCond). cond_tables (cond_of functions d)) (sym c.get-in-Bracketed.ensures)) (c.add_of_condition.ensures functions)

pub add_of_predicate-returns-in_default : goal.add_of_predicate-returns-in_default
add_of_predicate-returns-in_default t c = λ functions.
    sym (ap (λ (ts : List TablePlace). c.args.tables.now.items ++ ts) (tables_of_other functions c.args.predicate.now c.in_default.not-CompareQuery c.in_default.not-InQuery c.in_default.not-Exists c.in_default.not-Bracketed) ∙ append-nil c.args.tables.now.items)

pub add_of_subqueries-returns-in-Some : goal.add_of_subqueries-returns-in-Some
add_of_subqueries-returns-in-Some t c =
    let q = c.args.query.now in
    let functions = map call_of (out-Grouping c.in-Some.grouping).set_functions in
    adds_both c.add_of_optional-in-Some.result c.args.tables.now.items c.add_of_optional.new.tables.items c.add_of_optional-in-Some.new.tables.items (inside_tables (select_of q))
    (clause_tables (clause_of [] (out-BoundSpecification q).condition)) (clause_tables (clause_of functions (out-Grouping c.in-Some.grouping).having))
    (inside_grouped q c.in-Some.grouping c.in-Some.is) (c.in_ok-add_of_optional.ensures []) (c.add_of_optional-in-Some.ensures functions)

pub add_of_subqueries-returns-in-None : goal.add_of_subqueries-returns-in-None
add_of_subqueries-returns-in-None t c =
    let q = c.args.query.now in
    c.in_ok-add_of_optional.ensures []
    ∙ ap (λ (ts : List TablePlace). c.args.tables.now.items ++ ts) (sym (inside_ungrouped q c.in-None.is ∙ append-nil (clause_tables (clause_of [] (out-BoundSpecification q).condition))))

pub add_of_specification-returns : goal.add_of_specification-returns
add_of_specification-returns t c =
    let q = c.args.query.now in
    let from = (out-BoundSpecification q).from.tables in
    adds_both c.add_of_subqueries.result c.args.tables.now.items c.extend_from_slice.new.self.items c.add_of_subqueries.new.tables.items (specification_tables q) from (inside_tables (select_of q))
    (items_and_inside q) (c.in_ok-extend_from_slice.ensures.items ∙ ap (λ (ts : List TablePlace). c.args.tables.now.items ++ ts) c.as_slice.ensures) c.add_of_subqueries.ensures
