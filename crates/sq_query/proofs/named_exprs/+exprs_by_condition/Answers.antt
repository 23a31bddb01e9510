-- Left open: the results, and that the loops keep their invariants; answered by ExprRows and NamedRows.
use Rattle.std.proofs.Common.{◌∙◌, List, ap, subst, sym}
use Rattle.std.proofs.lemmas.List.{take_all}
use Rattle.sq_bound.specs.declared.condition.Predicate.TheVariants as bound
use Rattle.sq_bound.specs.declared.condition.BoundConj.{BoundConj}
use Rattle.sq_query.specs.Ways.{IsFoundBy, IsFoundByTest, IsFoundByTests}
use Rattle.sq_query.specs.declared.named.Sure.TheVariants.{Unnoted}
use Rattle.sq_query.proofs.Keys.ExprRows.{AreFoundBy, Exprs, by_brackets, by_comparison, by_terms, by_tests, lent_exprs, lent_more, ok_more, one_term, some_more}
use Rattle.sq_query.proofs.Keys.KeyTests.{if_some}
use Rattle.sq_query.proofs.Keys.NamedRows.{one_more}
use Rattle.sq_query.proofs.named_exprs.+exprs_by_condition.Goals as goal

pub exprs_by_condition-loop-term-init : goal.exprs_by_condition-loop-term-init
exprs_by_condition-loop-term-init t c = λ s values user vs at known. tt

pub exprs_by_condition-loop-term-preserved : goal.exprs_by_condition-loop-term-preserved
exprs_by_condition-loop-term-preserved t c =
    let item = c.args.seen.now.item in
    let tests = c.as_slice.result.now in
    one_term item c.args.sure c.args.column c.as_slice-term-items.result.now c.loop-term.term-index c.term-item.result tests (lent_exprs c.loop-term.exprs.items) (lent_exprs c.in-Some.more.items) (lent_exprs c.add_exprs.new.all.items) c.loop-term-test.true
    c.term-item.is c.as_slice.ensures (lent_more c.loop-term.exprs.items c.in-Some.more.items c.add_exprs.new.all.items c.in_ok-add_exprs-in-Some.ensures)
    (if_some (λ (es : Exprs). IsFoundByTests item c.args.sure tests c.args.column (lent_exprs es.items)) c.in_ok-more.field-0 c.in-Some.more c.in_ok-more.ensures c.in-Some.is)
    c.loop-term.invariant

pub exprs_by_condition-returns : goal.exprs_by_condition-returns
exprs_by_condition-returns t c =
    let item = c.args.seen.now.item in
    let terms = c.as_slice-term-items.result.now in
    let es = lent_exprs c.loop-term.exprs.items in
    by_terms item c.args.sure c.args.column c.args.condition.now es
    (subst (λ (ts : List BoundConj). AreFoundBy item c.args.sure c.args.column ts es) (take_all c.loop-term.term-index terms c.loop-term-test.false ∙ c.as_slice-term-items.ensures) c.loop-term.invariant)

pub exprs_by_tests-returns-then-is_some : goal.exprs_by_tests-returns-then-is_some
exprs_by_tests-returns-then-is_some t c =
    let item = c.args.seen.now.item in
    let test = c.test-item.result in
    some_more (λ (es : Exprs). IsFoundByTest item c.args.sure test c.args.column (lent_exprs es.items)) (λ (es : Exprs). IsFoundByTests item c.args.sure c.args.tests.now c.args.column (lent_exprs es.items))
    (λ es h. by_tests item c.args.sure c.args.column c.args.tests.now c.loop-test.test-index test (lent_exprs es.items) c.loop-test-test.true c.test-item.is c.loop-test.invariant h) c.in_ok-exprs.exprs c.in_ok-exprs.ensures

pub exprs_by_tests-loop-test-preserved : goal.exprs_by_tests-loop-test-preserved
exprs_by_tests-loop-test-preserved t c =
    one_more c.args.sure c.args.tests.now c.loop-test.test-index c.test-item.result c.loop-test-test.true c.test-item.is (c.is_passed.ensures c.if-not-is_passed.false) c.loop-test.invariant

pub exprs_by_test-returns-else-test : goal.exprs_by_test-returns-else-test
exprs_by_test-returns-else-test t c =
    let item = c.args.seen.now.item in
    let own = c.get.result.now in
    ok_more (λ (es : Exprs). IsFoundBy item c.within.result own c.args.column (lent_exprs es.items)) (λ (es : Exprs). IsFoundByTest item c.args.sure c.args.test.now c.args.column (lent_exprs es.items))
    (λ es h. by_brackets item c.args.sure c.args.column c.within.result own c.args.test.now (lent_exprs es.items) (c.if-test.false, c.in-Bracketed.is ∙ ap bound.Bracketed (sym c.get.ensures)) c.within.ensures h)
    c.exprs_by_condition.result c.exprs_by_condition.ensures

pub exprs_by_test-returns-in_default : goal.exprs_by_test-returns-in_default
exprs_by_test-returns-in_default t c =
    let item = c.args.seen.now.item in
    ok_more (λ (es : Exprs). IsFoundByTest item Unnoted c.args.test.now c.args.column (lent_exprs es.items)) (λ (es : Exprs). IsFoundByTest item c.args.sure c.args.test.now c.args.column (lent_exprs es.items))
    (λ es h. by_comparison item c.args.sure c.args.column c.args.test.now (lent_exprs es.items) h) c.exprs_by_comparison.result c.exprs_by_comparison.ensures
