-- Left open: the results, the clauses plain and adds, and the loops' invariants; answered by Added and InsideTables.
use Rattle.std.proofs.Common.{◌∙◌, List, [], ap, sym, refl, map, fold}
use Rattle.sq_meaning.specs.Syntax.{conds}
use Rattle.sq_bound.specs.Condition.{cond_of, conj_of, test_of, clause_of, select_of}
use Rattle.sq_bound.specs.SetFunction.{call_of}
use Rattle.sq_bound.specs.declared.condition.Grouping.{out-Grouping}
use Rattle.sq_bound.specs.declared.condition.BoundCond.{BoundCond}
use Rattle.sq_bound.specs.declared.condition.BoundConj.{BoundConj}
use Rattle.sq_bound.specs.declared.condition.BoundSpecification.{out-BoundSpecification}
use Rattle.sq_bound.specs.declared.condition.BoundTest.{BoundTest}
use Rattle.sq_query.specs.Needed.{places_in, with_table, clause_tables, cond_tables, conds_tables, inside_tables, specification_tables}
use Rattle.sq_query.proofs.Needs.Added.{added_both, added_more, adds_last, adds_same, items_added, tables_of_other, tables_of_cond, tables_of_conj, tables_of_test, tables_of_compared, tables_of_in, tables_of_exists, tables_of_bracketed}
use Rattle.sq_query.proofs.Needs.InsideTables.{inside_grouped, inside_ungrouped, items_and_inside}
use Rattle.sq_bound.specs.declared.condition.Predicate.TheVariants as bound
use Rattle.sq_condition.proofs.Conditions.{plain_term, plain_test, plain_predicate, plain_bracketed, with_compared, with_in, with_exists}
use Rattle.sq_query.proofs.needed.Needed.+needed_of_cond.Goals as goal

pub add_of_condition-loop-term-preserved : goal.add_of_condition-loop-term-preserved
add_of_condition-loop-term-preserved t c = record {
  adds = λ functions.
      added_more (λ (xs : List BoundConj). conds_tables (conds (map (conj_of functions) xs))) (λ x. cond_tables (conj_of functions x)) (λ x xs. refl)
      (places_in c.loop-term.self) (places_in c.add_of_tests.new.self) (fold with_table (places_in c.args.self.now) (cond_tables (cond_of functions c.args.condition.now)))
      c.as_slice-term-items.result.now c.loop-term.term-index c.term-item.result c.loop-term-test.true c.term-item.is (c.in_ok-add_of_tests.ensures.adds functions) (c.loop-term.invariant.adds functions);
  plain = λ plain.
      c.in_ok-add_of_tests.ensures.plain (plain_term [] c.args.condition.now c.as_slice-term-items.result.now c.loop-term.term-index c.term-item.result c.as_slice-term-items.ensures c.loop-term-test.true c.term-item.is plain)
      ∙ c.loop-term.invariant.plain plain;
}

pub add_of_tests-loop-test-preserved : goal.add_of_tests-loop-test-preserved
add_of_tests-loop-test-preserved t c = record {
  adds = λ functions.
      added_more (λ (xs : List BoundTest). conds_tables (conds (map (test_of functions) xs))) (λ x. cond_tables (test_of functions x)) (λ x xs. refl)
      (places_in c.loop-test.self) (places_in c.add_of_predicate.new.self) (fold with_table (places_in c.args.self.now) (cond_tables (conj_of functions c.args.term.now)))
      c.as_slice-test-items.result.now c.loop-test.test-index c.test-item.result c.loop-test-test.true c.test-item.is
      (c.in_ok-add_of_predicate.ensures.adds functions ∙ ap (fold with_table (places_in c.loop-test.self)) (sym (tables_of_test functions c.test-item.result))) (c.loop-test.invariant.adds functions);
  plain = λ plain.
      c.in_ok-add_of_predicate.ensures.plain (plain_predicate [] c.test-item.result (plain_test [] c.args.term.now c.as_slice-test-items.result.now c.loop-test.test-index c.test-item.result c.as_slice-test-items.ensures c.loop-test-test.true c.test-item.is plain))
      ∙ c.loop-test.invariant.plain plain;
}

pub add_of_predicate-returns-in-CompareQuery-clause-plain : goal.add_of_predicate-returns-in-CompareQuery-clause-plain
add_of_predicate-returns-in-CompareQuery-clause-plain t c = λ plain. with_compared [] c.args.predicate.now _ _ _ _ c.in-CompareQuery.is plain

pub add_of_predicate-returns-in-InQuery-clause-plain : goal.add_of_predicate-returns-in-InQuery-clause-plain
add_of_predicate-returns-in-InQuery-clause-plain t c = λ plain. with_in [] c.args.predicate.now _ _ _ c.in-InQuery.is plain

pub add_of_predicate-returns-in-Exists-clause-plain : goal.add_of_predicate-returns-in-Exists-clause-plain
add_of_predicate-returns-in-Exists-clause-plain t c = λ plain. with_exists [] c.args.predicate.now _ c.in-Exists.is plain

pub add_of_predicate-returns-in-Bracketed-clause-plain : goal.add_of_predicate-returns-in-Bracketed-clause-plain
add_of_predicate-returns-in-Bracketed-clause-plain t c = λ plain.
    c.add_of_condition.ensures.plain (plain_bracketed [] c.args.predicate.now c.get-in-Bracketed.result.now (c.in-Bracketed.is ∙ ap bound.Bracketed (sym c.get-in-Bracketed.ensures)) plain)

pub add_of_condition-loop-term-init : goal.add_of_condition-loop-term-init
add_of_condition-loop-term-init t c = record {
  plain = λ plain. refl;
  adds = λ functions. ap (fold with_table (places_in c.args.self.now)) (tables_of_cond functions c.args.condition.now c.as_slice-term-items.result.now c.as_slice-term-items.ensures);
}

pub add_of_tests-loop-test-init : goal.add_of_tests-loop-test-init
add_of_tests-loop-test-init t c = record {
  plain = λ plain. refl;
  adds = λ functions. ap (fold with_table (places_in c.args.self.now)) (tables_of_conj functions c.args.term.now c.as_slice-test-items.result.now c.as_slice-test-items.ensures);
}

pub add_of_predicate-returns-in-CompareQuery-clause-adds : goal.add_of_predicate-returns-in-CompareQuery-clause-adds
add_of_predicate-returns-in-CompareQuery-clause-adds t c = λ functions.
    adds_same c.add_of_specification.result c.args.self.now c.add_of_specification.new.self _ (specification_tables c.get.result.now)
    (tables_of_compared functions c.args.predicate.now _ _ _ _ c.in-CompareQuery.is ∙ ap specification_tables (sym c.get.ensures)) c.add_of_specification.ensures

pub add_of_predicate-returns-in-InQuery-clause-adds : goal.add_of_predicate-returns-in-InQuery-clause-adds
add_of_predicate-returns-in-InQuery-clause-adds t c = λ functions.
    adds_same c.add_of_specification-in-InQuery.result c.args.self.now c.add_of_specification-in-InQuery.new.self _ (specification_tables c.get-in-InQuery.result.now)
    (tables_of_in functions c.args.predicate.now _ _ _ c.in-InQuery.is ∙ ap specification_tables (sym c.get-in-InQuery.ensures)) c.add_of_specification-in-InQuery.ensures

pub add_of_predicate-returns-in-Exists-clause-adds : goal.add_of_predicate-returns-in-Exists-clause-adds
add_of_predicate-returns-in-Exists-clause-adds t c = λ functions.
    adds_same c.add_of_specification-in-Exists.result c.args.self.now c.add_of_specification-in-Exists.new.self _ (specification_tables c.get-in-Exists.result.now)
    (tables_of_exists functions c.args.predicate.now _ c.in-Exists.is ∙ ap specification_tables (sym c.get-in-Exists.ensures)) c.add_of_specification-in-Exists.ensures

pub add_of_predicate-returns-in-Bracketed-clause-adds : goal.add_of_predicate-returns-in-Bracketed-clause-adds
add_of_predicate-returns-in-Bracketed-clause-adds t c = λ functions.
    adds_same c.add_of_condition.result c.args.self.now c.add_of_condition.new.self _ (cond_tables (cond_of functions c.get-in-Bracketed.result.now))
    (tables_of_bracketed functions c.args.predicate.now _ c.in-Bracketed.is ∙ ap (λ (d : BoundCond). cond_tables (cond_of functions d)) (sym c.get-in-Bracketed.ensures)) (c.add_of_condition.ensures.adds functions)

pub add_of_predicate-returns-in_default : goal.add_of_predicate-returns-in_default
add_of_predicate-returns-in_default t c = record {
  plain = λ plain. refl;
  adds = λ functions. sym (ap (fold with_table (places_in c.args.self.now)) (tables_of_other functions c.args.predicate.now c.in_default.not-CompareQuery c.in_default.not-InQuery c.in_default.not-Exists c.in_default.not-Bracketed));
}

pub add_of_subqueries-returns-in-Some : goal.add_of_subqueries-returns-in-Some
add_of_subqueries-returns-in-Some t c =
    let q = c.args.query.now in
    let o = out-BoundSpecification q in
    let functions = map call_of (out-Grouping c.in-Some.grouping).set_functions in
    let having = clause_tables (clause_of functions (out-Grouping c.in-Some.grouping).having) in
    adds_last c.add_of_optional-in-Some.result c.add_of_optional.new.self c.add_of_optional-in-Some.new.self (fold with_table (places_in c.args.self.now) (inside_tables (select_of q))) having
    (added_both (places_in c.args.self.now) (places_in c.add_of_optional.new.self) (inside_tables (select_of q)) (clause_tables (clause_of [] o.condition)) having
    (inside_grouped q c.in-Some.grouping c.in-Some.is) (c.in_ok-add_of_optional.ensures.adds []))
    (c.add_of_optional-in-Some.ensures.adds functions)

pub add_of_subqueries-returns-in-None : goal.add_of_subqueries-returns-in-None
add_of_subqueries-returns-in-None t c =
    let q = c.args.query.now in
    added_both (places_in c.args.self.now) (places_in c.add_of_optional.new.self) (inside_tables (select_of q)) (clause_tables (clause_of [] (out-BoundSpecification q).condition)) []
    (inside_ungrouped q c.in-None.is) (c.in_ok-add_of_optional.ensures.adds [])

pub add_of_specification-returns : goal.add_of_specification-returns
add_of_specification-returns t c =
    let q = c.args.query.now in
    let from = (out-BoundSpecification q).from.tables in
    adds_last c.add_of_subqueries.result c.loop-table.self c.add_of_subqueries.new.self (fold with_table (places_in c.args.self.now) (specification_tables q)) (inside_tables (select_of q))
    (added_both (places_in c.args.self.now) (places_in c.loop-table.self) (specification_tables q) from (inside_tables (select_of q)) (items_and_inside q)
    (items_added (places_in c.args.self.now) (places_in c.loop-table.self) c.as_slice-table-items.result.now from c.loop-table.table-index c.as_slice-table-items.ensures c.loop-table-test.false c.loop-table.invariant))
    c.add_of_subqueries.ensures
