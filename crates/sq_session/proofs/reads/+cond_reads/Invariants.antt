use Rattle.std.proofs.Common.{◌≡◌, [], false, take}
use Rattle.std.specs.List.{list_any}
use Rattle.sq_bound.specs.Condition.{conj_of, predicate_of}
use Rattle.sq_session.specs.Reads.{cond_reads}
use Rattle.sq_session.proofs.reads.+cond_reads.Given as goal

abbrev pub invariant-cond_reads-loop-term : goal.invariant-cond_reads-loop-term
invariant-cond_reads-loop-term l = list_any (λ t. cond_reads l.assignments (conj_of [] t)) (take l.term-index l.term-items) ≡ false

abbrev pub invariant-term_reads-loop-test : goal.invariant-term_reads-loop-test
invariant-term_reads-loop-test l = list_any (λ t. cond_reads l.assignments (predicate_of [] t.predicate)) (take l.test-index l.test-items) ≡ false
