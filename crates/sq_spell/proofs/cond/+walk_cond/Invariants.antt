use Rattle.std.proofs.Common.{◌≡◌, ◌++◌, take}
use Rattle.std.specs.Prelude.{fold}
use Rattle.std.specs.List.{flat_map}
use Rattle.sq_tree.specs.Cond.{conj_tokens, test_tokens}
use Rattle.sq_tree.proofs.CondLaws.{or_conj, and_test}
use Rattle.sq_tree.specs.declared.cond.Cond.{out-Cond}
use Rattle.sq_tree.specs.declared.cond.Conj.{out-Conj}
use Rattle.sq_spell.proofs.cond.+walk_cond.Given as goal

abbrev pub invariant-CondTree::walk-loop-conj : goal.invariant-CondTree::walk-loop-conj
invariant-CondTree::walk-loop-conj g l = l.sink ≡ fold g.S.Sink.after l.fn.sink (conj_tokens (out-Cond l.self).first ++ flat_map or_conj (take l.conj-index l.conj-items))

abbrev pub invariant-ConjTree::walk-loop-test : goal.invariant-ConjTree::walk-loop-test
invariant-ConjTree::walk-loop-test g l = l.sink ≡ fold g.S.Sink.after l.fn.sink (test_tokens (out-Conj l.self).first ++ flat_map and_test (take l.test-index l.test-items))
