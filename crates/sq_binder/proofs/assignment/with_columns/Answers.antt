-- Left open for with_columns: the clause finds; answered without a law.
use Rattle.std.proofs.Common.{[], ◌∷◌, map, subst}
use Rattle.sq_tree.specs.declared.statement.Assignment.{Assignment}
use Rattle.sq_meaning.specs.Spelled.{listed}
use Rattle.sq_binding.specs.Select.{of_lines}
use Rattle.sq_binder.specs.Found.{Finds}
use Rattle.sq_binder.specs.Surroundings.{surroundings}
use Rattle.sq_binder.specs.Changeable.{table_name}
use Rattle.sq_binder.specs.Receiver.{columns_made, receiver_seen}
use Rattle.sq_binder.specs.Update.{assignment_in}
use Rattle.sq_binding.specs.SeenQuery.{assignment_seen}
use Rattle.sq_binder.proofs.assignment.with_columns.Goals as goal

pub returns-clause-finds : goal.returns-clause-finds
returns-clause-finds g c =
    let a = surroundings g.T.Tables.named c.args.at.now in
    let holds = (g.T.ChangeableTables.changes c.args.at.now.tables.now).holds (table_name c.args.table.now) in
    subst (λ item. Finds (map assignment_seen) (columns_made (map receiver_seen c.args.receivers.now) (λ (s : Assignment). s.column) (assignment_in holds (of_lines (item ∷ []) a)) (listed c.args.list.now)) c.args.before c.over_item-bound.result)
    c.in_ok-item.ensures c.over_item-bound.ensures.finds
