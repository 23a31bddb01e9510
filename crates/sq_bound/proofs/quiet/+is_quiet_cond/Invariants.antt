use Rattle.std.proofs.Common.{◌≡◌, [], true, take}
use Rattle.std.specs.List.{list_all}
use Rattle.sq_meaning.specs.Quiet.{is_quiet}
use Rattle.sq_bound.specs.Condition.{conj_of, predicate_of}
use Rattle.sq_bound.proofs.quiet.+is_quiet_cond.Given as goal

abbrev pub invariant-is_quiet_cond-loop-term : goal.invariant-is_quiet_cond-loop-term
invariant-is_quiet_cond-loop-term l = list_all (λ t. is_quiet (conj_of [] t)) (take l.term-index l.term-items) ≡ true

abbrev pub invariant-is_quiet_term-loop-test : goal.invariant-is_quiet_term-loop-test
invariant-is_quiet_term-loop-test l = list_all (λ t. is_quiet (predicate_of [] t.predicate)) (take l.test-index l.test-items) ≡ true
