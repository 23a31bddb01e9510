-- Left open for the functions of +cond_reads: the results; answered by Assigned.
use Rattle.std.proofs.Common.{◌≡◌, ◌∙◌, Bool, List, [], true, sym, ap}
use Rattle.std.proofs.lemmas.List.Folds.{list_any_at}
use Rattle.std.specs.List.{list_any}
use Rattle.sq_bound.specs.Condition.{conj_of, predicate_of}
use Rattle.sq_bound.specs.declared.condition.BoundConj.{BoundConj}
use Rattle.sq_bound.specs.declared.condition.BoundTest.{BoundTest}
use Rattle.sq_bound.specs.declared.statement.BoundAssignment.{BoundAssignment}
use Rattle.sq_session.specs.Reads.{cond_reads}
use Rattle.sq_session.proofs.Walks.Assigned.{all_taken, reads_terms, reads_tests}
use Rattle.sq_session.proofs.reads.+cond_reads.Goals as goal

abbrev term_at : List BoundAssignment → BoundConj → Bool
term_at sets t = cond_reads sets (conj_of [] t)

abbrev test_at : List BoundAssignment → BoundTest → Bool
test_at sets t = cond_reads sets (predicate_of [] t.predicate)

pub cond_reads-returns-then-term_reads : goal.cond_reads-returns-then-term_reads
cond_reads-returns-then-term_reads t c =
    let sets = c.args.assignments.now in
    let terms : List BoundConj = c.as_slice-term-items.result.now in
    let found : term_at sets c.term-item.result ≡ true = sym c.term_reads.ensures ∙ c.if-term_reads.true in
    sym (reads_terms sets c.args.condition.now ∙ ap (list_any (term_at sets)) (sym c.as_slice-term-items.ensures)
    ∙ list_any_at (term_at sets) terms c.loop-term.term-index c.term-item.result c.loop-term-test.true (ap (term_at sets) (sym c.term-item.is) ∙ found))

pub cond_reads-returns : goal.cond_reads-returns
cond_reads-returns t c =
    let sets = c.args.assignments.now in
    sym (reads_terms sets c.args.condition.now ∙ ap (list_any (term_at sets)) (sym c.as_slice-term-items.ensures) ∙ all_taken (term_at sets) _ _ c.loop-term-test.false c.loop-term.invariant)

pub term_reads-returns-then-predicate_reads : goal.term_reads-returns-then-predicate_reads
term_reads-returns-then-predicate_reads t c =
    let sets = c.args.assignments.now in
    let tests : List BoundTest = c.as_slice-test-items.result.now in
    let found : test_at sets c.test-item.result ≡ true = sym c.predicate_reads.ensures ∙ c.if-predicate_reads.true in
    sym (reads_tests sets c.args.term.now ∙ ap (list_any (test_at sets)) (sym c.as_slice-test-items.ensures)
    ∙ list_any_at (test_at sets) tests c.loop-test.test-index c.test-item.result c.loop-test-test.true (ap (test_at sets) (sym c.test-item.is) ∙ found))

pub term_reads-returns : goal.term_reads-returns
term_reads-returns t c =
    let sets = c.args.assignments.now in
    sym (reads_tests sets c.args.term.now ∙ ap (list_any (test_at sets)) (sym c.as_slice-test-items.ensures) ∙ all_taken (test_at sets) _ _ c.loop-test-test.false c.loop-test.invariant)
