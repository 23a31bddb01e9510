-- Left open: the clauses refused and spelling, and the loop's invariant; answered by Refused and Spelled.
use Rattle.sq_perform.proofs.Refused.{first_without, of_spelling}
use Rattle.sq_perform.proofs.Spelled.{spelled_more}
use Rattle.sq_perform.proofs.texts.read_all.Goals as goal

pub returns-in-Err-clause-refused : goal.returns-in-Err-clause-refused
returns-in-Err-clause-refused g c =
    first_without g.T.TextTree.rule g.T.TextTree.tokens g.T.TextTree.depth c.args.all.now c.loop-number.number c.index-all-number.result c.in-Err.fault c.loop-number.trees.items
    c.loop-number-test.true c.index-all-number.is c.loop-number.invariant (rw c.as_slice.ensures.value at c.in-Err.ensures.refused)

pub loop-number-preserved : goal.loop-number-preserved
loop-number-preserved g c =
    rw c.in_ok-push-in-Ok.ensures.items
    (spelled_more g.T.TextTree.tokens g.T.TextTree.depth c.args.all.now c.loop-number.number c.index-all-number.result c.loop-number.trees.items c.in-Ok.tree
    c.loop-number-test.true c.index-all-number.is c.loop-number.invariant (rw c.as_slice.ensures.value at c.in-Ok.ensures.spelled))

pub returns-in-Err-clause-spelling : goal.returns-in-Err-clause-spelling
returns-in-Err-clause-spelling g c = of_spelling g.T.TextTree.rule g.T.TextTree.tokens g.T.TextTree.depth c.loop-number.number _ c.in-Err.fault c.in-Err.ensures.refused
