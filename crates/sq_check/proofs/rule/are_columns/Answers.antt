-- Left open for are_columns: its result; answered by Columns.
use Rattle.std.proofs.Common.{◌∙◌, ap, map, sym}
use Rattle.std.proofs.lemmas.Result.{IfOk-weaker}
use Rattle.sq_check.specs.Rule.{are_new_columns, column_of}
use Rattle.sq_check.proofs.Columns.{first_is_none, first_is_one}
use Rattle.sq_check.proofs.rule.are_columns.Goals as goal

pub returns-then-branch : goal.returns-then-branch
returns-then-branch c =
    IfOk-weaker c.are_new_columns.result _ _
    (λ are is. is ∙ ap (λ items. are_new_columns c.is_new_column.new.names.keys (map column_of items)) c.as_slice.ensures ∙ sym (first_is_one c.args.names.now.keys c.is_new_column.new.names.keys c.args.list.now.first c.args.list.now.rest c.in_ok-is_new_column.field-0
    c.in_ok-is_new_column.ensures.answer c.if-branch.true (c.in_ok-is_new_column.ensures.keys c.if-branch.true)))
    c.are_new_columns.ensures

pub returns-else-branch : goal.returns-else-branch
returns-else-branch c =
    sym (first_is_none c.args.names.now.keys c.args.list.now.first c.args.list.now.rest c.in_ok-is_new_column.field-0 c.in_ok-is_new_column.ensures.answer c.if-branch.false)
