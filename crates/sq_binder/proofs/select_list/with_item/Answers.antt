-- Left open for with_item: that the loop keeps its invariant; answered by AllColumns.
use Rattle.std.proofs.Common.{◌∙◌}
use Rattle.sq_binder.specs.SelectList.{list_seen, with_shown}
use Rattle.sq_binder.proofs.Clauses.AllColumns.{column_next}
use Rattle.sq_binder.proofs.select_list.with_item.Goals as goal

pub loop-column-preserved : goal.loop-column-preserved
loop-column-preserved c =
    c.in-Ok.ensures ∙ (λ i. with_shown (c.loop-column.invariant i) (c.column_of_item.ensures i))
    ∙ column_next (list_seen c.args.list) c.args.number c.args.columns.now c.loop-column.column-index c.column-item.result c.loop-column-test.true c.column-item.is
