-- Left open for Needed::add_of_each: its result, and that the loop keeps its invariant; answered by Added.
use Rattle.std.proofs.Common.{◌∙◌, ap, fold, refl, sym}
use Rattle.sq_bound.specs.Condition.{test_of}
use Rattle.sq_query.specs.Inner.{tests_tables}
use Rattle.sq_query.specs.Needed.{cond_tables, places_in, with_table}
use Rattle.sq_query.proofs.Needs.Added.{added_all, added_more, tables_of_test}
use Rattle.sq_query.proofs.needed.Needed.add_of_each.Goals as goal

pub loop-test-preserved : goal.loop-test-preserved
loop-test-preserved c = λ functions.
    added_more (tests_tables functions) (λ x. cond_tables (test_of functions x)) (λ x xs. refl) (places_in c.loop-test.self) (places_in c.add_of_predicate.new.self) (fold with_table (places_in c.args.self.now) (tests_tables functions c.args.tests.now))
    c.args.tests.now c.loop-test.test-index c.test-item.result c.loop-test-test.true c.test-item.is
    (c.in_ok-add_of_predicate.ensures.adds functions ∙ ap (fold with_table (places_in c.loop-test.self)) (sym (tables_of_test functions c.test-item.result))) (c.loop-test.invariant functions)

pub returns : goal.returns
returns c = λ functions.
    added_all (tests_tables functions) (λ x. cond_tables (test_of functions x)) (λ x xs. refl) (places_in c.loop-test.self) (fold with_table (places_in c.args.self.now) (tests_tables functions c.args.tests.now)) c.args.tests.now c.loop-test.test-index refl
    c.loop-test-test.false (c.loop-test.invariant functions)
