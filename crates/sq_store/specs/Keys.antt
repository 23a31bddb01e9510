-- Unique keys: of each table, the columns of each of its keys (ISO/IEC 9075:1992, 4.10.2, 11.7). No two rows of a table
-- have the same values in the columns of a key, the same being not distinct.
use Rattle.std.specs.Prelude.{ℕ, nat_lt, Bool, true, false, ◌&&◌, not, List, [], ◌∷◌, length, Option, find, map, slice_index_or, Vec}
use Rattle.std.specs.List.{list_all, list_any}
use Rattle.std.specs.declared.alloc.Global.{Global}
use Rattle.std.specs.Cmp.Lexicographic.{pointwise}
use Rattle.sq_value.specs.Comparison.{is_same}
use Rattle.sq_value.specs.Key.{in_columns}
use Rattle.sq_value.specs.declared.value.Value.{Value}
use Rattle.sq_store.specs.declared.table.Numbered.{Numbered}
use Rattle.sq_store.specs.declared.table.Table.{Table}
use Rattle.sq_store.specs.Content.{Content}

-- ---- one table

-- the columns of each key
abbrev pub Keys : Type 0
Keys = List (List ℕ)

-- whether a row has these values in the columns of a key
abbrev pub has_key : List ℕ → List Value → Numbered → Bool
has_key columns key r = pointwise is_same key (in_columns r.row columns)

-- the row with a key
abbrev pub with_key : Table → List ℕ → List Value → Option Numbered
with_key t columns key = find (has_key columns key) t.rows

-- no row has the key of a later one
abbrev pub are_distinct : List ℕ → List Numbered → Bool
are_distinct columns [] = true
are_distinct columns (r ∷ rs) =
    not (list_any (has_key columns (in_columns r.row columns)) rs) && are_distinct columns rs

-- no two rows have the same key
abbrev pub has_distinct_keys : Keys → Table → Bool
has_distinct_keys keys t = list_all (λ columns. are_distinct columns t.rows) keys

-- a row has the columns of a key
abbrev pub has_columns : List ℕ → List Value → Bool
has_columns columns row = list_all (λ c. nat_lt c (length row)) columns

-- a row has the columns of every key
abbrev pub has_keys : Keys → List Value → Bool
has_keys keys row = list_all (λ columns. has_columns columns row) keys

abbrev pub have_keys : Keys → List Numbered → Bool
have_keys keys rows = list_all (λ r. has_keys keys r.row) rows

-- ---- all tables

-- each table has its keys: each row has their columns, and no two have the same
abbrev pub are_keyed : List Keys → Content → Bool
are_keyed [] [] = true
are_keyed [] (t ∷ ts) = false
are_keyed (keys ∷ rest) [] = false
are_keyed (keys ∷ rest) (t ∷ ts) = have_keys keys t.rows && (has_distinct_keys keys t && are_keyed rest ts)

abbrev pub keys_at : List Keys → ℕ → Keys
keys_at keys table = slice_index_or keys table []

abbrev pub key_at : List Keys → ℕ → ℕ → List ℕ
key_at keys table key = slice_index_or (keys_at keys table) key []

-- the keys as a constructor is given them
abbrev pub keys_of : List (Vec (Vec ℕ Global) Global) → List Keys
keys_of tables = map (λ keys. map (λ columns. columns.items) keys.items) tables
