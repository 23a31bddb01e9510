-- Left open for all_columns: that the loop keeps its invariant; answered by AllColumns.
use Rattle.std.proofs.Common.{map, ◌∙◌}
use Rattle.sq_binding.specs.Select.{column_of_item}
use Rattle.sq_binder.specs.Scope.{column_of}
use Rattle.sq_binder.specs.SelectList.{behind}
use Rattle.sq_binder.proofs.Clauses.AllColumns.{item_next}
use Rattle.sq_binder.proofs.select_list.all_columns.Goals as goal

pub loop-number-preserved : goal.loop-number-preserved
loop-number-preserved c =
    c.in-Ok.ensures ∙ (λ i. behind (c.loop-number.invariant i) (map (column_of_item c.loop-number.number) (map column_of (c.as_slice.ensures i))))
    ∙ item_next c.args.items.now c.loop-number.number c.index-items-number.result c.loop-number-test.true c.index-items-number.is
