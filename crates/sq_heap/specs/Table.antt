-- What is asked where changes are applied to a table, and what comes of it.
use Rattle.std.specs.Prelude.{◌≡◌, ℕ, true, List, drop, length}
use Rattle.std.specs.List.{list_all}
use Rattle.sq_store.specs.Change.{rows_put}
use Rattle.sq_store.specs.Content.{changed_by}
use Rattle.sq_store.specs.Keys.{Keys, has_distinct_keys, has_keys, have_keys}
use Rattle.sq_store.specs.declared.change.Change.{Change}
use Rattle.sq_store.specs.declared.table.Table.{Table}
use Rattle.sq_heap.specs.Slots.{Slot}
use Rattle.sq_heap.specs.Undo.{back}
use Rattle.sq_heap.specs.declared.undo.Undo.{Undo}

-- changes may be applied to a table with these keys: its rows and those put in have the columns of each key, and no two of
-- its rows have the same key
pub record MayApply (keys : Keys) (table : Table) (changes : List Change) : Type 0 where
  pub columns : have_keys keys table.rows ≡ true
  pub new_columns : list_all (has_keys keys) (rows_put changes) ≡ true
  pub distinct : has_distinct_keys keys table ≡ true

-- the changes were made, and still no two rows have the same key
pub record IsApplied (keys : Keys) (table : Table) (changes : List Change) (later : Table) : Type 0 where
  pub made : later ≡ changed_by table changes
  pub distinct : has_distinct_keys keys (changed_by table changes) ≡ true

-- a place is how many changes there were, and undoing those from there on gives the slots that there were
pub record IsStart (slots : List Slot) (undo : List Undo) (later : List Slot) (later_undo : List Undo)
    (from : ℕ) : Type 0 where
  pub place : from ≡ length undo
  pub undone : back later (drop from later_undo) ≡ slots

-- the slots are those that there were, and so are the changes that can be undone
pub record IsLeft (slots : List Slot) (undo : List Undo) (later : List Slot)
    (later_undo : List Undo) : Type 0 where
  pub slots_left : later ≡ slots
  pub undo_left : later_undo ≡ undo
