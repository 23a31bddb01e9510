-- Left open for Index::new: the invariant of its result; answered by Chains.
use Rattle.std.proofs.Common.{arith}
use Rattle.std.proofs.lemmas.Grind.{common_steps}
use Rattle.sq_heap.proofs.Chains.{within_none}
use Rattle.sq_heap.proofs.index.Index.new.Goals as goal

pub invariant_of-result : goal.invariant_of-result
invariant_of-result c = record {
  some = grind (arith, common_steps);
  within = grind (arith, common_steps, within_none);
  falling = grind (arith, common_steps);
}
