-- DELETE in surroundings (ISO/IEC 9075:1992, 13.6 and 13.7).
use Rattle.sq_tree.specs.declared.statement.Delete.{Delete}
use Rattle.sq_meaning.specs.Spelled.{table_of}
use Rattle.sq_meaning.specs.Privilege.{Privilege}
use Rattle.sq_binding.specs.Change.{NamedCursors, NumberedChange, reading, rows_bound}
use Rattle.sq_binding.specs.Changeable.{ChangedTable, UserNames, changed_table}
use Rattle.sq_binding.specs.Found.{Binding, ◌>>=◌, ◌>>◌, has_found, outcome, pure}
use Rattle.sq_binding.specs.Select.{Surroundings}
use Rattle.sq_binding.specs.Whole.{needed}

-- a DELETE from a table, in these surroundings
abbrev pub delete_over : UserNames → Surroundings → NamedCursors → Delete → ChangedTable
    → Binding NumberedChange
delete_over names a cursors d t = do
  rows ← reading names t (rows_bound names a cursors t d.target)
  has_found (needed (names.holds t.reference.table Privilege.delete))
  pure rows

abbrev pub delete_in : UserNames → Surroundings → NamedCursors → Delete → Binding NumberedChange
delete_in names a cursors d =
    outcome (changed_table names (table_of names.user d.table)) >>= delete_over names a cursors d
