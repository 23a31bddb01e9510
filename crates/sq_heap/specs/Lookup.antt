-- Rows that are looked up through an index by values that several may have: the places that entries name, put in their order.
use Rattle.std.specs.Prelude.{ℕ, ◌+◌, Bool, nat_eq, if◌then◌else◌, List, [], ◌∷◌, ◌++◌, Some, None}
use Rattle.std.specs.List.{list_any}
use Rattle.sq_value.specs.declared.value.Value.{Value}
use Rattle.sq_store.specs.declared.table.Numbered.{Numbered}
use Rattle.sq_heap.specs.Index.{bucket_of, hash_of, names_key}
use Rattle.sq_heap.specs.Slots.{Slot, slot_at}
use Rattle.sq_heap.specs.declared.index.Entry.{Entry}
use Rattle.sq_heap.specs.declared.index.Index.{Index}

-- the place of an entry, if it names under a hash a row with a key
abbrev pub place_named : List ℕ → List Value → List Slot → ℕ → Entry → List ℕ
place_named columns key slots hash e = if names_key columns key slots hash e then e.at ∷ [] else []

-- those of some entries
abbrev pub places_named : List ℕ → List Value → List Slot → ℕ → List Entry → List ℕ
places_named columns key slots hash [] = []
places_named columns key slots hash (e ∷ entries) =
    place_named columns key slots hash e ++ places_named columns key slots hash entries

-- those of the entries under the hash of a key
abbrev pub places_with : Index → List Slot → List Value → List ℕ
places_with index slots key =
    places_named index.columns key slots (hash_of key) (bucket_of index (hash_of key))

-- those of each key
abbrev pub places_of : Index → List Slot → List (List Value) → List ℕ
places_of index slots [] = []
places_of index slots (key ∷ keys) = places_with index slots key ++ places_of index slots keys

-- whether a place is among some
abbrev pub has_place : List ℕ → ℕ → Bool
has_place places at = list_any (nat_eq at) places

-- the row in a slot at a place, under its number, if there is one
abbrev pub row_under : ℕ → Slot → List Numbered
row_under at None = []
row_under at (Some row) = record { number = at + 1; row = row } ∷ []

-- the rows in the slots at these places
abbrev pub rows_under : List Slot → List ℕ → List Numbered
rows_under slots [] = []
rows_under slots (at ∷ places) = row_under at (slot_at slots at) ++ rows_under slots places
