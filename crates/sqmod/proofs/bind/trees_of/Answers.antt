-- Left open for trees_of: that the loop keeps its invariant; answered by laws of sq_perform.
use Rattle.sq_perform.proofs.Spelled.{spelled_more}
use Rattle.sq_tree.specs.Module.{module_tokens, module_depth}
use Rattle.sqmod.proofs.bind.trees_of.Goals as goal

pub loop-text-preserved : goal.loop-text-preserved
loop-text-preserved c =
    rw c.in_ok-push.ensures.items
    (spelled_more module_tokens module_depth c.args.modules.now c.loop-text.text-index c.text-item.result c.loop-text.trees.items c.in_ok-tree.tree
    c.loop-text-test.true c.text-item.is c.loop-text.invariant (rw c.as_slice.ensures.value at c.in_ok-tree.ensures))
