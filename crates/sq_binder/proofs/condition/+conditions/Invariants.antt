use Rattle.std.proofs.Common.{◌∷◌, drop, map}
use Rattle.sq_tree.specs.declared.cond.Cond.{out-Cond}
use Rattle.sq_tree.specs.declared.cond.Conj.{out-Conj}
use Rattle.sq_meaning.specs.Spelled.{Named, conj_of, test_of}
use Rattle.sq_meaning.specs.Syntax.{Cond}
use Rattle.sq_binding.specs.Condition.{cond_bound, test}
use Rattle.sq_binding.specs.Found.{each}
use Rattle.sq_binding.specs.Seen.{conj_seen, test_seen}
use Rattle.sq_binder.specs.Found.{counts_of}
use Rattle.sq_binder.specs.Surroundings.{surroundings}
use Rattle.sq_binder.proofs.OneByOne.InTurn.{SoFar}
use Rattle.sq_binder.proofs.condition.+conditions.Given as goal

abbrev pub invariant-bind_cond-loop-conj : goal.invariant-bind_cond-loop-conj
invariant-bind_cond-loop-conj g l =
    let f = cond_bound (surroundings g.T.Tables.named l.at) in
    let own = conj_of l.at.environment.now.user in
    SoFar conj_seen f own l.fn.before (each f (map own ((out-Cond l.cond).first ∷ (out-Cond l.cond).rest)) (counts_of l.fn.before)) l.terms (drop l.conj-index l.conj-items)

abbrev pub invariant-conj_value-loop-test : goal.invariant-conj_value-loop-test
invariant-conj_value-loop-test g l =
    let a = surroundings g.T.Tables.named l.at in
    let f = λ (c : Cond Named). test (cond_bound a c) in
    let own = test_of l.at.environment.now.user in
    SoFar test_seen f own l.fn.before (each f (map own ((out-Conj l.conj).first ∷ (out-Conj l.conj).rest)) (counts_of l.fn.before)) l.tests (drop l.test-index l.test-items)
