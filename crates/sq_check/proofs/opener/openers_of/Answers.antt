-- Left open for openers_of: that the loop keeps its invariant; answered by laws of sq_module.
use Rattle.std.proofs.Common.{refl}
use Rattle.sq_module.proofs.Written.{among_at}
use Rattle.sq_check.proofs.opener.openers_of.Goals as goal

pub loop-item-preserved : goal.loop-item-preserved
loop-item-preserved c =
    let items = c.as_slice-item-items.ensures in
    c.in_ok-add_opener.ensures c.args.«module».now refl
    (among_at c.args.«module».now.items c.loop-item.item-index c.item-item.result (rw items at c.loop-item-test.true) (rw items at c.item-item.is)) c.loop-item.invariant
