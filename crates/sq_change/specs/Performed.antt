-- The outcomes of INSERT, UPDATE and DELETE (ISO/IEC 9075:1992, 13.6 to 13.10): the tables after the statement, or the status with which
-- it ends. Statuses come in this order: of choosing rows; no data; of values and storing; of row numbers; of check options; of
-- constraints. All reading is of the tables before the statement.
use Rattle.std.specs.Prelude.{ℕ, List, [], map, Option}
use Rattle.sq_store.specs.Content.{Content, table_at}
use Rattle.sq_meaning.specs.Status.{Outcome, ◌>>=◌}
use Rattle.sq_bound.specs.Fits.{under}
use Rattle.sq_bound.specs.declared.names.BaseTable.{BaseTable}
use Rattle.sq_bound.specs.declared.statement.BoundInsert.{BoundInsert}
use Rattle.sq_bound.specs.declared.statement.BoundUpdate.{BoundUpdate}
use Rattle.sq_bound.specs.declared.statement.ChangeTarget.{ChangeTarget}
use Rattle.sq_change.specs.Constraints.{completed}
use Rattle.sq_change.specs.Made.{Seen, Shown, numbers_changed, rows_inserted}
use Rattle.sq_change.specs.Statement.{update_made, with_replaced, with_rows, without}

-- new rows come after the earlier ones (13.8)
abbrev pub insert_outcome : Shown → Seen → List BaseTable → ℕ → BoundInsert → Outcome Content
insert_outcome shown s bases row_numbers i =
    rows_inserted shown s row_numbers i
    >>= λ rows. completed shown s bases i.leaf rows (with_rows (table_at s.tables i.leaf.table.place) rows)

-- the chosen rows have the values of the set clauses (13.9, 13.10)
abbrev pub update_outcome : Shown → Seen → List BaseTable → BoundUpdate → Option ℕ → Outcome Content
update_outcome shown s bases u on =
    update_made shown s u on >>= λ rows. completed shown s bases (under u.target) (map (λ r. r.row) rows)
    (with_replaced (table_at s.tables (under u.target).table.place) rows)

-- the chosen rows go (13.6, 13.7)
abbrev pub delete_outcome : Shown → Seen → List BaseTable → ChangeTarget → Option ℕ → Outcome Content
delete_outcome shown s bases t on =
    numbers_changed shown s t on
    >>= λ numbers. completed shown s bases (under t) []
    (without (table_at s.tables (under t).table.place) numbers)
