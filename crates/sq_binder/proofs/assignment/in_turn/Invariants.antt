use Rattle.std.proofs.Common.{map}
use Rattle.sq_binder.specs.Surroundings.{surroundings}
use Rattle.sq_binder.specs.Changeable.{table_name}
use Rattle.sq_binder.specs.Receiver.{receiver_seen}
use Rattle.sq_binder.specs.Update.{AreAssignmentsOf, assignment_in}
use Rattle.sq_binder.proofs.OneByOne.ColumnLoops.{ColumnsSoFar}
use Rattle.sq_binding.specs.SeenQuery.{assignment_seen}
use Rattle.sq_binder.proofs.assignment.in_turn.Given as goal

abbrev pub invariant-loop-number : goal.invariant-loop-number
invariant-loop-number g l =
    ColumnsSoFar assignment_seen (map receiver_seen l.receivers) (λ s. s.column) (assignment_in ((g.T.ChangeableTables.changes l.at.tables.now).holds (table_name l.table)) (surroundings g.T.Tables.named l.at))
    l.fn.before l.list.first l.list.rest l.number l.assignments
    × AreAssignmentsOf l.table.under.leaf.now.table l.assignments.part
