-- What a store contains: for each base table its rows under rising numbers, and the number of the next new row
-- (ISO/IEC 9075:1992, 4.9; the numbers are an own rule).
use Rattle.std.specs.Prelude.{ℕ, ◌+◌, List, [], ◌∷◌, ◌++◌, Option, not, nat_eq, nat_le, filter, find, fold, if◌then◌else◌, map, replicate, slice_set, slice_index_or}
use Rattle.sq_value.specs.declared.value.Value.{Value}
use Rattle.sq_store.specs.declared.table.Numbered.{Numbered}
use Rattle.sq_store.specs.declared.table.Table.{Table}
use Rattle.sq_store.specs.declared.change.Change.{Change}
use Rattle.sq_store.specs.declared.change.Change.TheVariants.{Insert, Replace, Remove}

-- ---- one table

-- at first there is no row, and the next number is 1
abbrev pub empty : Table
empty = record { rows = []; next = 1 }

-- a new row takes the next number
abbrev pub inserted : Table → List Value → Table
inserted t row = record { rows = t.rows ++ record { number = t.next; row = row } ∷ []; next = t.next + 1 }

-- another row under a number that has one
abbrev pub replaced : Table → ℕ → List Value → Table
replaced t number row =
    record {
      rows = map (λ r. if nat_eq r.number number then record { number = number; row = row }
          else r) t.rows;
      next = t.next;
    }

-- without the row under a number; the number isn't used again
abbrev pub removed : Table → ℕ → Table
removed t number = record { rows = filter (λ r. not (nat_eq r.number number)) t.rows; next = t.next }

abbrev pub changed : Table → Change → Table
changed t (Insert row) = inserted t row
changed t (Replace number row) = replaced t number row
changed t (Remove number) = removed t number

-- all changes, one after the other
abbrev pub changed_by : Table → List Change → Table
changed_by t changes = fold changed t changes

-- the first row at or after a number
abbrev pub first_among : List Numbered → ℕ → Option Numbered
first_among rows number = find (λ r. nat_le number r.number) rows

abbrev pub first_from : Table → ℕ → Option Numbered
first_from t number = first_among t.rows number

-- the row under a number
abbrev pub row_at : Table → ℕ → Option Numbered
row_at t number = find (λ r. nat_eq r.number number) t.rows

-- ---- all tables

-- the tables, each at its place
abbrev pub Content : Type 0
Content = List Table

abbrev pub no_rows : ℕ → Content
no_rows tables = replicate tables empty

abbrev pub table_at : Content → ℕ → Table
table_at content table = slice_index_or content table empty

abbrev pub with_table : Content → ℕ → Table → Content
with_table content table t = slice_set content table t
