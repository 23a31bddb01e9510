-- INSERT, as the definitions see it (ISO/IEC 9075:1992, 13.8).
use Rattle.std.specs.Prelude.{◌≡◌, Bool, List, map, Result, Ok, Err}
use Rattle.std.specs.List.{AllByRecursion}
use Rattle.sq_tree.specs.declared.statement.Insert.{Insert}
use Rattle.sq_meaning.specs.Spelled.{table_of}
use Rattle.sq_meaning.specs.Privilege.{Privilege}
use Rattle.sq_bound.specs.Fits.{IsColumnOf}
use Rattle.sq_bound.specs.declared.names.Leaf.{Leaf}
use Rattle.sq_bound.specs.declared.statement.BoundInsert.{BoundInsert}
use Rattle.sq_bound.specs.declared.statement.InsertedRows.{InsertedRows}
use Rattle.sq_binding.specs.Change.{NumberedInsert, receivers_bound, source_bound}
use Rattle.sq_binding.specs.Changeable.{ChangedTable, UserNames, changed_table}
use Rattle.sq_binding.specs.Found.{Binding, ◌>>=◌, ◌>>◌, has_found, outcome, pure}
use Rattle.sq_binding.specs.Select.{Surroundings}
use Rattle.sq_binding.specs.Whole.{needed}
use Rattle.sq_binder.specs.Found.{brought_of}
use Rattle.sq_binder.specs.declared.found.Found.{Found}
use Rattle.sq_binder.specs.declared.stop.Stop.{Stop}
use Rattle.sq_binder.specs.declared.stop.Stop.TheVariants.{NoMemory}
use Rattle.sq_binder.specs.declared.changeable.ChangedTable.{ChangedTable as FoundTable}
use Rattle.sq_binding.specs.There.{SourceIsPlain}
use Rattle.sq_binder.specs.Needed.{requiring}
use Rattle.sq_binder.specs.declared.receiver.Receiver.{Receiver}

-- an INSERT is into these rows of a base table
abbrev pub IsInsertOver : Leaf → BoundInsert → Type 0
IsInsertOver leaf i =
    (i.leaf ≡ leaf) × AllByRecursion (IsColumnOf leaf.table) i.columns × SourceIsPlain i.source

-- an INSERT into a table, in these surroundings
abbrev pub insert_over : UserNames → Surroundings → Insert → ChangedTable → Binding NumberedInsert
insert_over names a i t = do
  receivers ← receivers_bound t i.columns
  source ← source_bound names a receivers i.source
  has_found (needed (names.holds t.reference.table Privilege.insert))
  pure (record { leaf = t.under.leaf; columns = map (λ r. r.column) receivers; source = source })

abbrev pub insert_in : UserNames → Surroundings → Insert → Binding NumberedInsert
insert_in names a i = outcome (changed_table names (table_of names.user i.table)) >>= insert_over names a i

-- columns that get values and their source become an INSERT, unless one has a fault or INSERT is not held
abbrev pub InsertsInto : FoundTable → (may_insert : Bool) → Result (Found (List Receiver × InsertedRows)) Stop
    → Result (Found BoundInsert) Stop → Type 0
InsertsInto t may_insert (Ok parts) (Ok i) =
    (i.part.leaf ≡ t.under.leaf.now)
    × (map (λ c. c.position) i.part.columns ≡ map (λ r. r.column) parts.part.0)
    × AllByRecursion (IsColumnOf t.under.leaf.now.table) i.part.columns
    × (i.part.source ≡ parts.part.1)
    × (brought_of i.brought ≡ requiring may_insert (brought_of parts.brought))
    × (i.brought.next ≡ parts.brought.next)
InsertsInto t may_insert (Ok parts) (Err stop) = stop ≡ NoMemory
InsertsInto t may_insert (Err earlier) (Ok i) = ⊥
InsertsInto t may_insert (Err earlier) (Err stop) = stop ≡ earlier
