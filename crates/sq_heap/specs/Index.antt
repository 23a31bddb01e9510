-- A hashed index of the rows in slots, for one key: slots' places in chains by the hash of the row that was put there.
-- An entry may be stale, so whoever finds one looks at the row; but no row in a slot, and none that undoing brings back,
-- lacks its entry.
use Rattle.std.specs.Prelude.{ℕ, ◌+◌, ◌%◌, Bool, true, false, ◌&&◌, not, nat_eq, if◌then◌else◌, List, [], ◌∷◌, length, map, None, Some, slice_index_or}
use Rattle.std.specs.Cmp.Lexicographic.{pointwise}
use Rattle.std.specs.List.{fold, list_all, list_any}
use Rattle.std.specs.Hash as fed
use Rattle.std.specs.Hash.FoldHasher as folding
use Rattle.sq_value.specs.Comparison.{is_same}
use Rattle.sq_value.specs.Key.{in_columns, value_writes}
use Rattle.sq_value.specs.declared.value.Value.{Value}
use Rattle.sq_store.specs.Keys.{Keys}
use Rattle.sq_heap.specs.Chain.{chain_of, is_entry}
use Rattle.sq_heap.specs.Slots.{Slot, slot_at}
use Rattle.sq_heap.specs.declared.index.Entry.{Entry}
use Rattle.sq_heap.specs.declared.index.Index.{Index}
use Rattle.sq_heap.specs.declared.undo.Undo.{Undo}

-- the hash of a key's values
abbrev pub hash_of : List Value → ℕ
hash_of values = folding.finish (fold folding.write folding.initial (fed.slice value_writes values))

-- the chain in which the entries under a hash are
abbrev pub bucket_of : Index → ℕ → List Entry
bucket_of index hash =
    chain_of index.entries.items (slice_index_or index.heads.items (hash % length index.heads.items) 0)

abbrev pub has_entry : Index → ℕ → ℕ → Bool
has_entry index hash at = list_any (is_entry hash at) (bucket_of index hash)

-- there is an entry for a row in a slot
abbrev pub is_in : Index → List Value → ℕ → Bool
is_in index row at = has_entry index (hash_of (in_columns row index.columns)) at

-- in each index
abbrev pub in_all : List Index → List Value → ℕ → Bool
in_all indexes row at = list_all (λ index. is_in index row at) indexes

-- ---- what holds of each row and its place

abbrev pub Test : Type 0
Test = List Value → ℕ → Bool

abbrev pub slot_holds : Test → ℕ → Slot → Bool
slot_holds test at None = true
slot_holds test at (Some row) = test row at

-- the test holds of the row in each slot; the first slot is at the place `at`
abbrev pub slots_hold : Test → ℕ → List Slot → Bool
slots_hold test at [] = true
slots_hold test at (s ∷ slots) = slot_holds test at s && slots_hold test (at + 1) slots

-- the test holds of each row that undoing brings back
abbrev pub undo_holds : Test → List Undo → Bool
undo_holds test undo = list_all (λ u. slot_holds test u.at u.old) undo

-- an index has entries for the rows in slots
abbrev pub enters : List Slot → Index → Bool
enters slots index = slots_hold (is_in index) 0 slots

-- ---- the keys of indexes

abbrev pub columns_of : Index → List ℕ
columns_of index = index.columns

abbrev pub keys_of : List Index → Keys
keys_of indexes = map columns_of indexes

-- ---- rows that entries name

-- an entry under a hash names its slot
abbrev pub named : List Slot → ℕ → Entry → Slot
named slots hash e = if nat_eq e.hash hash then slot_at slots e.at else None

abbrev pub slot_has_key : List ℕ → List Value → Slot → Bool
slot_has_key columns key None = false
slot_has_key columns key (Some row) = pointwise is_same key (in_columns row columns)

abbrev pub names_key : List ℕ → List Value → List Slot → ℕ → Entry → Bool
names_key columns key slots hash e = slot_has_key columns key (named slots hash e)

-- it names another slot whose row has the key
abbrev pub names_other : List ℕ → List Value → ℕ → List Slot → ℕ → Entry → Bool
names_other columns key at slots hash e = not (nat_eq e.at at) && names_key columns key slots hash e
