-- UPDATE, as the definitions see it (ISO/IEC 9075:1992, 13.9 and 13.10).
use Rattle.std.specs.Prelude.{◌≡◌, Bool, List, Result, Ok, Err}
use Rattle.std.specs.List.{AllByRecursion}
use Rattle.sq_tree.specs.declared.statement.Assignment.{Assignment}
use Rattle.sq_tree.specs.declared.statement.Update.{Update}
use Rattle.sq_meaning.specs.Spelled.{table_of}
use Rattle.sq_meaning.specs.Privilege.{Privilege}
use Rattle.sq_bound.specs.Fits.{IsColumnOf, under}
use Rattle.sq_bound.specs.declared.names.BaseTable.{BaseTable}
use Rattle.sq_bound.specs.declared.names.Leaf.{Leaf}
use Rattle.sq_bound.specs.declared.statement.BoundAssignment.{BoundAssignment}
use Rattle.sq_bound.specs.declared.statement.BoundUpdate.{BoundUpdate}
use Rattle.sq_bound.specs.declared.statement.ChangeTarget.{ChangeTarget}
use Rattle.sq_binding.specs.Change.{NamedCursors, NumberedAssignment, NumberedUpdate, Receiver, new_value_bound, reading, update_parts}
use Rattle.sq_binding.specs.Changeable.{ChangedTable, UserNames, changed_table}
use Rattle.sq_binding.specs.Found.{Binding, ◌>>=◌, ◌>>◌, has_found, outcome, pure}
use Rattle.sq_binding.specs.Select.{Surroundings}
use Rattle.sq_binding.specs.Whole.{needed}
use Rattle.sq_binder.specs.declared.found.Found.{Found}
use Rattle.sq_binder.specs.declared.stop.Stop.{Stop}
use Rattle.sq_binding.specs.There.{IsPlain}

-- a set clause of a column of the base table
abbrev pub IsAssignmentOf : BaseTable → BoundAssignment → Type 0
IsAssignmentOf base a = IsColumnOf base a.column × IsPlain a.value

abbrev pub AreAssignmentsOf : BaseTable → List BoundAssignment → Type 0
AreAssignmentsOf base = AllByRecursion (IsAssignmentOf base)

-- an UPDATE is of these rows of a base table
abbrev pub IsUpdateOver : Leaf → BoundUpdate → Type 0
IsUpdateOver leaf u = (under u.target ≡ leaf) × AreAssignmentsOf leaf.table u.assignments

-- a set clause whose value may name columns of the table; the user holds these privileges on it
abbrev pub assignment_in : (holds : Privilege → Bool) → Surroundings → Assignment → Receiver
    → Binding NumberedAssignment
assignment_in holds a s receiver = do
  value ← new_value_bound a receiver.kind s.value
  has_found (needed (holds (Privilege.update s.column)))
  pure (record { column = receiver.column; value = value })

-- an UPDATE of a table, in these surroundings
abbrev pub update_over : UserNames → Surroundings → NamedCursors → Update → ChangedTable
    → Binding NumberedUpdate
update_over names a cursors u t = reading names t (update_parts names a cursors t u)

abbrev pub update_in : UserNames → Surroundings → NamedCursors → Update → Binding NumberedUpdate
update_in names a cursors u =
    outcome (changed_table names (table_of names.user u.table)) >>= update_over names a cursors u

abbrev pub updated : Result (Found (List BoundAssignment × ChangeTarget)) Stop
    → Result (Found BoundUpdate) Stop
updated (Ok x) =
    Ok (record { part = record { target = x.part.1; assignments = x.part.0 }; brought = x.brought })
updated (Err stop) = Err stop
