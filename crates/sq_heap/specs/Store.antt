-- What comes of changes that are applied to one of the tables of a store.
use Rattle.std.specs.Prelude.{◌≡◌, ℕ, true, List, [], ◌∷◌, ◌++◌, Option, Some, length, slice_set}
use Rattle.sq_store.specs.Content.{changed_by, table_at}
use Rattle.sq_store.specs.Keys.{Keys, has_distinct_keys}
use Rattle.sq_store.specs.declared.change.Change.{Change}
use Rattle.sq_heap.specs.Heap.{all_before, all_committed, all_keys, all_now, are_listed}
use Rattle.sq_heap.specs.declared.mark.Mark.{Mark}
use Rattle.sq_heap.specs.declared.table.HeapTable.{HeapTable}

-- the changes of one table were made, and still no two of its rows have the same key; undoing those behind the mark gives
-- what was before, and a list of all changed tables is one again once this table is added
pub record AreApplied (keys : Keys) (changes : List Change) (mark : Mark)
    (tables later : List HeapTable) : Type 0 where
  pub made : all_now later
      ≡ slice_set (all_now tables) mark.table (changed_by (table_at (all_now tables) mark.table) changes)
  pub distinct : has_distinct_keys keys (changed_by (table_at (all_now tables) mark.table) changes) ≡ true
  pub before : all_before (Some mark) later ≡ Some (all_now tables)
  pub listed : (listed : List ℕ) → are_listed listed 0 tables ≡ true
      → are_listed (listed ++ mark.table ∷ []) 0 later ≡ true

-- all rows are those that there were, and undoing gives those that it gave; a list of all changed tables still is one
pub record AreLeft (tables later : List HeapTable) : Type 0 where
  pub now : all_now later ≡ all_now tables
  pub before : (mark : Option Mark) → all_before mark later ≡ all_before mark tables
  pub listed : (listed : List ℕ) → are_listed listed 0 tables ≡ true → are_listed listed 0 later ≡ true

-- there are as many tables as before, with the same keys, and with what was committed
pub record AreKept (tables later : List HeapTable) : Type 0 where
  pub count : length later ≡ length tables
  pub keys : all_keys later ≡ all_keys tables
  pub committed : all_committed later ≡ all_committed tables
