-- Left open for are_new_columns: its result, and that the loop keeps its invariant; answered by Columns.
use Rattle.std.proofs.Common.{◌∙◌, sym}
use Rattle.sq_check.proofs.Columns.{next_is_none, next_is_one, none_left}
use Rattle.sq_check.proofs.rule.are_new_columns.Goals as goal

pub returns-then-not-branch : goal.returns-then-not-branch
returns-then-not-branch c =
    sym (next_is_none c.loop-item.names.keys c.args.items.now c.loop-item.item-index c.item-item.result c.in_ok-is_new_column.field-0 c.loop-item-test.true c.item-item.is
    c.in_ok-is_new_column.ensures.answer c.if-not-branch.true)
    ∙ c.loop-item.invariant

pub loop-item-preserved : goal.loop-item-preserved
loop-item-preserved c =
    next_is_one c.loop-item.names.keys c.is_new_column.new.names.keys c.args.items.now c.loop-item.item-index c.item-item.result c.in_ok-is_new_column.field-0 c.loop-item-test.true c.item-item.is
    c.in_ok-is_new_column.ensures.answer c.if-not-branch.false (c.in_ok-is_new_column.ensures.keys c.if-not-branch.false)
    ∙ c.loop-item.invariant

pub returns : goal.returns
returns c = sym (none_left c.loop-item.names.keys c.args.items.now c.loop-item.item-index c.loop-item-test.false) ∙ c.loop-item.invariant
