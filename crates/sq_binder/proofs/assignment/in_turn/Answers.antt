-- Left open: the clauses finds and columns, and the loop's invariant; answered by ColumnLoops and EachHolds.
use Rattle.std.proofs.Common.{map}
use Rattle.sq_tree.specs.declared.statement.Assignment.{Assignment}
use Rattle.sq_binder.specs.Surroundings.{surroundings}
use Rattle.sq_binder.specs.Changeable.{table_name}
use Rattle.sq_binder.specs.Receiver.{receiver_seen}
use Rattle.sq_binder.specs.Update.{IsAssignmentOf, assignment_in}
use Rattle.sq_binder.proofs.OneByOne.ColumnLoops.{all_columns, begun_columns, next_column, next_column_stops}
use Rattle.sq_binding.specs.SeenQuery.{assignment_seen}
use Rattle.sq_binder.proofs.OneByOne.EachHolds.{begun_holds, next_holds}
use Rattle.sq_binder.proofs.assignment.in_turn.Goals as goal

pub loop-number-init : goal.loop-number-init
loop-number-init g c = (
  begun_columns assignment_seen (map receiver_seen c.args.receivers.now) (λ (s : Assignment). s.column) (assignment_in ((g.T.ChangeableTables.changes c.args.at.now.tables.now).holds (table_name c.args.table.now)) (surroundings g.T.Tables.named c.args.at.now)) c.args.before c.args.list.now.first c.args.list.now.rest
      c.bind_assignment-first.result c.in_ok-assignments.assignments c.bind_assignment-first.ensures.finds c.in_ok-assignments.ensures,
  begun_holds (IsAssignmentOf c.args.table.now.under.leaf.now.table) c.bind_assignment-first.result c.in_ok-assignments.assignments c.in_ok-assignments.ensures c.bind_assignment-first.ensures.column,
)

pub returns-in-Err-clause-finds : goal.returns-in-Err-clause-finds
returns-in-Err-clause-finds g c =
    next_column_stops assignment_seen (map receiver_seen c.args.receivers.now) (λ (s : Assignment). s.column) (assignment_in ((g.T.ChangeableTables.changes c.args.at.now.tables.now).holds (table_name c.args.table.now)) (surroundings g.T.Tables.named c.args.at.now)) c.args.before c.args.list.now.first c.args.list.now.rest
    c.as_slice-assignment-items.result.now c.as_slice-assignment-items.ensures c.loop-number.number c.assignment-item.result c.is_assigned-again.result c.loop-number.assignments c.loop-number-test.true c.assignment-item.is c.is_assigned-again.ensures c.loop-number.invariant.0
    c.bind_assignment-next.result c.in-Err.stop c.bind_assignment-next.ensures.finds c.in-Err.ensures

pub loop-number-preserved : goal.loop-number-preserved
loop-number-preserved g c = (
  next_column assignment_seen (map receiver_seen c.args.receivers.now) (λ (s : Assignment). s.column) (assignment_in ((g.T.ChangeableTables.changes c.args.at.now.tables.now).holds (table_name c.args.table.now)) (surroundings g.T.Tables.named c.args.at.now)) c.args.before c.args.list.now.first c.args.list.now.rest
      c.as_slice-assignment-items.result.now c.as_slice-assignment-items.ensures c.loop-number.number c.assignment-item.result c.is_assigned-again.result c.loop-number.assignments c.loop-number-test.true c.assignment-item.is c.is_assigned-again.ensures c.loop-number.invariant.0
      c.bind_assignment-next.result c.in-Ok.more c.bind_assignment-next.ensures.finds c.in-Ok.ensures,
  next_holds (IsAssignmentOf c.args.table.now.under.leaf.now.table) c.loop-number.assignments c.bind_assignment-next.result c.in-Ok.more c.in-Ok.ensures c.loop-number.invariant.1 c.bind_assignment-next.ensures.column,
)

pub returns-clause-finds : goal.returns-clause-finds
returns-clause-finds g c =
    all_columns assignment_seen (map receiver_seen c.args.receivers.now) (λ (s : Assignment). s.column) (assignment_in ((g.T.ChangeableTables.changes c.args.at.now.tables.now).holds (table_name c.args.table.now)) (surroundings g.T.Tables.named c.args.at.now)) c.args.before c.args.list.now.first c.args.list.now.rest
    c.as_slice-assignment-items.result.now c.as_slice-assignment-items.ensures c.loop-number.number c.loop-number.assignments c.loop-number-test.false c.loop-number.invariant.0

pub returns-clause-columns : goal.returns-clause-columns
returns-clause-columns g c = c.loop-number.invariant.1
