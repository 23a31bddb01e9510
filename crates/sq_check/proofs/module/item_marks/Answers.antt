-- Left open for item_marks: that the loop keeps its invariant; answered by Places and Walk.
use Rattle.std.proofs.Common.{◌∙◌}
use Rattle.sq_tree.specs.Module.{module_item_tokens}
use Rattle.sq_tree.specs.Starts.{module_head}
use Rattle.sq_check.specs.Modules.{IsMark}
use Rattle.sq_check.proofs.Places.{all_next}
use Rattle.sq_check.proofs.Walk.{next_part}
use Rattle.sq_check.proofs.module.item_marks.Goals as goal

pub loop-item-preserved : goal.loop-item-preserved
loop-item-preserved c =
    let m = c.args.«module».now in
    let items = c.as_slice-item-items.ensures in
    let lt = rw items at c.loop-item-test.true in
    let is = rw items at c.item-item.is in
    let added = c.in_ok-add_mark.ensures in
    record {
      token = next_part module_item_tokens (module_head m) m.items c.loop-item.item-index c.item-item.result c.loop-item.token c.token_count.result c.saturating_add-token.result lt is c.loop-item.invariant.token c.token_count.ensures c.saturating_add-token.ensures;
      marks = rw added.1
          (all_next (IsMark c.args.catalog.now c.args.program.now m) m.items c.loop-item.item-index c.item-item.result c.loop-item.marks added.0 lt is c.loop-item.invariant.marks
          (record { token = added.2.token ∙ c.loop-item.invariant.token; owner = added.2.owner; name = added.2.name; remark = added.2.remark }));
    }
