-- What a heap store contains, now, as committed, and before the last apply.
use Rattle.std.specs.Prelude.{ℕ, ◌+◌, Bool, true, false, ◌&&◌, ◌||◌, nat_eq, nat_lt, List, [], ◌∷◌, Option, Some, None, drop, length, map, slice_set, take}
use Rattle.std.specs.List.{list_any}
use Rattle.sq_store.specs.declared.table.Table.{Table}
use Rattle.sq_store.specs.Content.{Content, table_at}
use Rattle.sq_store.specs.Keys.{Keys}
use Rattle.sq_heap.specs.Index.{keys_of}
use Rattle.sq_heap.specs.Slots.{table_of}
use Rattle.sq_heap.specs.Undo.{back}
use Rattle.sq_heap.specs.declared.mark.Mark.{Mark}
use Rattle.sq_heap.specs.declared.table.HeapTable.{HeapTable}
use Rattle.sq_heap.specs.declared.undo.Undo.{Undo}

abbrev pub now_of : HeapTable → Table
now_of t = table_of t.slots.list.items

abbrev pub committed_of : HeapTable → Table
committed_of t = table_of (back t.slots.list.items t.undo.items)

abbrev pub before_of : ℕ → HeapTable → Table
before_of from t = table_of (back t.slots.list.items (drop from t.undo.items))

abbrev pub all_now : List HeapTable → Content
all_now tables = map now_of tables

abbrev pub all_committed : List HeapTable → Content
all_committed tables = map committed_of tables

-- the columns of each index of each table
abbrev pub table_keys : HeapTable → Keys
table_keys t = keys_of t.indexes.items

abbrev pub all_keys : List HeapTable → List Keys
all_keys tables = map table_keys tables

-- the columns of each table's first indexes, as many as the table has keys
abbrev pub first_keys : List Keys → List Keys → List Keys
first_keys [] all = []
first_keys (ks ∷ keys) [] = []
first_keys (ks ∷ keys) (columns ∷ all) = take (length ks) columns ∷ first_keys keys all

-- the content before the last apply, which changed one table
abbrev pub all_before : Option Mark → List HeapTable → Option Content
all_before None tables = None
all_before (Some mark) tables =
    Some (slice_set (all_now tables) mark.table (table_at (map (before_of mark.from) tables) mark.table))

abbrev pub is_mark_of : Option Mark → ℕ → Bool
is_mark_of None tables = true
is_mark_of (Some mark) tables = nat_lt mark.table tables

abbrev pub has_none : List Undo → Bool
has_none [] = true
has_none (u ∷ undo) = false

-- each table that was changed is listed
abbrev pub are_listed : List ℕ → ℕ → List HeapTable → Bool
are_listed listed table [] = true
are_listed listed table (t ∷ tables) =
    (has_none t.undo.items || list_any (nat_eq table) listed) && are_listed listed (table + 1) tables

-- each of them is there
abbrev pub are_within : ℕ → List ℕ → Bool
are_within tables [] = true
are_within tables (table ∷ listed) = nat_lt table tables && are_within tables listed
