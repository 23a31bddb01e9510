-- Left open for enter_change: what the call of enter_all asks for; answered by Holds.
use Rattle.std.proofs.Common.{◌∙◌, ap}
use Rattle.sq_heap.specs.Index.{in_all, slot_holds}
use Rattle.sq_heap.proofs.Holds.{holds_there}
use Rattle.sq_heap.proofs.indexes.enter_change.Goals as goal

pub enter_all-requires-in-Replace : goal.enter_all-requires-in-Replace
enter_all-requires-in-Replace c =
    let P = in_all c.args.indexes.now.items in
    let at = c.saturating_sub-at.result in
    ap (slot_holds P at) c.get.ensures ∙ holds_there P c.args.slots.now.list.items at c.requires.entered
