-- A table's keys, as its store has them and as its indexes do.
use Rattle.std.proofs.Common.{◌≡◌, ℕ, ◌<◌, ◌≤◌, true, List, [], length, take, get_or, slice_index_or, arith, sym, ap, ◌∙◌}
use Rattle.std.proofs.lemmas.List.Sums.{AllPass-from_list_all}
use Rattle.sq_value.specs.declared.value.Value.{Value}
use Rattle.sq_store.specs.Content.{table_at}
use Rattle.sq_store.specs.Keys.{Keys, are_distinct, has_distinct_keys, have_keys, key_at, keys_at, with_key}
use Rattle.sq_store.specs.Sound.{is_sound}
use Rattle.sq_store.specs.declared.table.Table.{Table}
use Rattle.sq_store.proofs.Sound.{columns_at}
use Rattle.sq_heap.specs.Alone.{slots_have}
use Rattle.sq_heap.specs.Heap.{all_keys, all_now, first_keys, now_of}
use Rattle.sq_heap.specs.Index.{keys_of}
use Rattle.sq_heap.specs.Slots.{rows_from, table_of}
use Rattle.sq_heap.specs.declared.table.HeapTable.{HeapTable}
use Rattle.sq_heap.proofs.Columns.{slots_of_keys}
use Rattle.sq_heap.proofs.Heap.{distinct_at, first_at, first_long, first_same, keys_of_table, length_map, map_at, tables_of_keys}

module _ (row_numbers : ℕ) (keys : List Keys) (ts : List HeapTable) (i : ℕ) (sound : is_sound row_numbers keys (all_now ts) ≡ true) (indexed : first_keys keys (all_keys ts) ≡ keys) (lt : i < length ts) where
  known : i < length keys
  known = omega (arith, lt, tables_of_keys row_numbers keys ts sound)

  there : i < length (all_now ts)
  there = omega (arith, lt, length_map now_of ts)

  -- the first indexes are of the keys
  pub first_are : take (length (keys_at keys i)) (keys_at (all_keys ts) i) ≡ keys_at keys i
  first_are = first_at keys (all_keys ts) i indexed known

  pub keys_within : length (keys_at keys i) ≤ length (keys_at (all_keys ts) i)
  keys_within = first_long (keys_at keys i) (keys_at (all_keys ts) i) first_are

  module _ (t : HeapTable) (is : t ≡ get_or ts i t) where
    table_is : table_at (all_now ts) i ≡ table_of t.slots.list.items
    table_is = map_at now_of ts i t lt is

    own_first : take (length (keys_at keys i)) (keys_of t.indexes.items) ≡ keys_at keys i
    own_first = ap (λ (ks : Keys). take (length (keys_at keys i)) ks) (sym (keys_of_table ts i t lt is)) ∙ first_are

    own_columns : have_keys (keys_at keys i) (rows_from 1 t.slots.list.items) ≡ true
    own_columns = ap (λ (u : Table). have_keys (keys_at keys i) u.rows) (sym table_is) ∙ columns_at row_numbers keys (all_now ts) i sound there

    own_distinct : has_distinct_keys (keys_at keys i) (table_of t.slots.list.items) ≡ true
    own_distinct = ap (has_distinct_keys (keys_at keys i)) (sym table_is) ∙ distinct_at row_numbers keys (all_now ts) i sound there

    module _ (k : ℕ) (within : k < length (keys_at keys i)) where
      pub key_there : k < length (keys_of t.indexes.items)
      key_there = omega (arith, within, first_long (keys_at keys i) (keys_of t.indexes.items) own_first)

      key_same : slice_index_or (keys_of t.indexes.items) k [] ≡ key_at keys i k
      key_same = first_same (keys_at keys i) (keys_of t.indexes.items) k own_first within

      pub key_columns : slots_have (slice_index_or (keys_of t.indexes.items) k []) t.slots.list.items ≡ true
      key_columns =
          ap (λ (columns : List ℕ). slots_have columns t.slots.list.items) key_same
          ∙ AllPass-from_list_all (λ columns. slots_have columns t.slots.list.items) (keys_at keys i) (slots_of_keys (keys_at keys i) 1 t.slots.list.items own_columns) k [] within

      pub key_distinct : are_distinct (slice_index_or (keys_of t.indexes.items) k []) (table_of t.slots.list.items).rows ≡ true
      key_distinct =
          ap (λ (columns : List ℕ). are_distinct columns (table_of t.slots.list.items).rows) key_same
          ∙ AllPass-from_list_all (λ columns. are_distinct columns (table_of t.slots.list.items).rows) (keys_at keys i) own_distinct k [] within

      -- the row with a key is the one that the index finds
      pub key_found : (values : List Value) → with_key (table_at (all_now ts) i) (key_at keys i k) values ≡ with_key (table_of t.slots.list.items) (slice_index_or (keys_of t.indexes.items) k []) values
      key_found values = λ j. with_key (table_is j) (sym key_same j) values
