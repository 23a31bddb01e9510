-- Left open: the clause named, and that the loops keep their invariants; answered by KeyTests and NamedRows.
use Rattle.std.proofs.Common.{◌∙◌, [], Some, ap, map, subst, sym}
use Rattle.std.proofs.lemmas.List.{take_all}
use Rattle.std.specs.List.{AllByRecursion}
use Rattle.sq_meaning.specs.Syntax.{conds, conjunction}
use Rattle.sq_bound.specs.Condition.{test_of}
use Rattle.sq_bound.specs.declared.condition.Predicate.TheVariants as bound
use Rattle.sq_query.specs.Named.{AreTrusted, IsFalseAt}
use Rattle.sq_query.proofs.Keys.KeyTests.{if_some}
use Rattle.sq_query.proofs.Keys.NamedRows.{Found, IsTermFalseBut, brackets_found, comparison_found, one_more, term_more, terms_name, test_found}
use Rattle.sq_query.proofs.named.+values_by_condition.Goals as goal

pub values_by_condition-loop-term-init : goal.values_by_condition-loop-term-init
values_by_condition-loop-term-init t c = tt

pub values_by_condition-loop-term-preserved : goal.values_by_condition-loop-term-preserved
values_by_condition-loop-term-preserved t c =
    let call = c.args.call.now in
    let s = c.args.sought.now in
    let tests = c.as_slice.result.now in
    term_more s call.parameters.now call.user c.args.sure c.as_slice-term-items.result.now c.loop-term.term-index c.term-item.result tests c.args.column c.loop-term.values.items c.in-Some.more.items c.add_values.new.all.items c.loop-term-test.true
    c.term-item.is c.as_slice.ensures c.in_ok-add_values-in-Some.ensures.values
    (if_some (λ vs. Found (IsFalseAt s call.parameters.now call.user (AreTrusted c.args.sure tests) (conjunction (conds (map (test_of []) tests)))) c.args.column (Some vs)) c.in_ok-more.field-0 c.in-Some.more c.in_ok-more.ensures.named c.in-Some.is)
    c.loop-term.invariant

pub values_by_condition-returns-clause-named : goal.values_by_condition-returns-clause-named
values_by_condition-returns-clause-named t c =
    let call = c.args.call.now in
    let s = c.args.sought.now in
    let terms = c.as_slice-term-items.result.now in
    terms_name s call.parameters.now call.user c.args.sure c.args.condition.now c.args.column c.loop-term.values.items
    (subst (AllByRecursion (IsTermFalseBut s call.parameters.now call.user c.args.sure c.args.column c.loop-term.values.items)) (take_all c.loop-term.term-index terms c.loop-term-test.false ∙ c.as_slice-term-items.ensures) c.loop-term.invariant)

pub values_by_tests-returns-then-is_some-clause-named : goal.values_by_tests-returns-then-is_some-clause-named
values_by_tests-returns-then-is_some-clause-named t c =
    test_found c.args.sought.now c.args.call.now.parameters.now c.args.call.now.user c.args.sure c.args.tests.now c.loop-test.test-index c.test-item.result c.args.column c.in_ok-values.values c.loop-test-test.true c.test-item.is c.loop-test.invariant
    c.in_ok-values.ensures.named

pub values_by_tests-loop-test-preserved : goal.values_by_tests-loop-test-preserved
values_by_tests-loop-test-preserved t c =
    one_more c.args.sure c.args.tests.now c.loop-test.test-index c.test-item.result c.loop-test-test.true c.test-item.is (c.is_passed.ensures c.if-not-is_passed.false) c.loop-test.invariant

pub values_by_test-returns-else-test-clause-named : goal.values_by_test-returns-else-test-clause-named
values_by_test-returns-else-test-clause-named t c =
    brackets_found c.args.sought.now c.args.call.now.parameters.now c.args.call.now.user c.args.sure c.within.result c.get.result.now c.args.test.now c.args.column c.values_by_condition.result
    (c.if-test.false, c.in-Bracketed.is ∙ ap bound.Bracketed (sym c.get.ensures)) c.within.ensures c.values_by_condition.ensures.named

pub values_by_test-returns-in_default-clause-named : goal.values_by_test-returns-in_default-clause-named
values_by_test-returns-in_default-clause-named t c =
    comparison_found c.args.sought.now c.args.call.now.parameters.now c.args.call.now.user c.args.sure c.args.test.now c.args.column c.values_by_comparison.result c.values_by_comparison.ensures.named
