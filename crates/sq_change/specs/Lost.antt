-- Values of keys that rows lose by changes, and whether other rows refer to them (ISO/IEC 9075:1992, 11.8).
use Rattle.std.specs.Prelude.{◌≡◌, ℕ, Bool, true, ◌&&◌, ◌||◌, not, nat_eq, filter, flat_map, is_some, slice_index_or, Option, None, Some, List, [], ◌∷◌}
use Rattle.std.specs.List.{enumerate_from, list_all, list_any}
use Rattle.sq_store.specs.Change.{rows_put}
use Rattle.sq_store.specs.Content.{Content, row_at, table_at}
use Rattle.sq_store.specs.Keys.{Keys, key_at, with_key}
use Rattle.sq_store.specs.declared.change.Change.{Change}
use Rattle.sq_store.specs.declared.change.Change.TheVariants.{Insert, Replace, Remove}
use Rattle.sq_store.specs.declared.table.Numbered.{Numbered}
use Rattle.sq_store.specs.declared.table.Table.{Table}
use Rattle.sq_meaning.specs.Environment.{Row}
use Rattle.sq_bound.specs.Fits.{keys_of_bases}
use Rattle.sq_bound.specs.declared.names.BaseTable.{BaseTable}
use Rattle.sq_bound.specs.declared.names.Reference.{Reference}
use Rattle.sq_change.specs.Reference.{are_of_keys, referred_by, values_in}
use Rattle.sq_change.specs.declared.lost.LostKey.{LostKey}
use Rattle.sq_change.specs.declared.reference.Asked.{Asked}

-- ---- the values that are lost

-- the number under which a change takes a row out, or puts another in its place
abbrev pub number_changed : Change → Option ℕ
number_changed (Insert row) = None
number_changed (Replace number row) = Some number
number_changed (Remove number) = Some number

abbrev pub row_of : Option Numbered → Option Row
row_of None = None
row_of (Some r) = Some r.row

abbrev pub row_under : Table → Option ℕ → Option Row
row_under t None = None
row_under t (Some number) = row_of (row_at t number)

-- the row that a change takes out, or puts another in place of
abbrev pub row_changed : Table → Change → Option Row
row_changed t change = row_under t (number_changed change)

-- the values of a row in a key, if none is null
abbrev pub key_lost : ℕ → Option Row → List LostKey
key_lost key None = []
key_lost key (Some values) = record { key = key; values = values } ∷ []

abbrev pub lost_in_key : Keys → Row → ℕ → List LostKey
lost_in_key keys row key = key_lost key (values_in row (slice_index_or keys key []))

-- in some of the keys
abbrev pub lost_of : Keys → List ℕ → Row → List LostKey
lost_of keys some row = flat_map (lost_in_key keys row) some

abbrev pub lost_if : Keys → List ℕ → Option Row → List LostKey
lost_if keys some None = []
lost_if keys some (Some row) = lost_of keys some row

-- the values that rows of a table may lose by changes
abbrev pub lost_by : Table → Keys → List ℕ → List Change → List LostKey
lost_by t keys some changes = flat_map (λ change. lost_if keys some (row_changed t change)) changes

-- ---- keys with references to them

abbrev pub is_reference_to : ℕ → ℕ → Reference → Bool
is_reference_to table key r = nat_eq r.table table && nat_eq r.key key

abbrev pub has_reference_to : ℕ → ℕ → BaseTable → Bool
has_reference_to table key b = list_any (is_reference_to table key) b.references

abbrev pub is_referred : List BaseTable → ℕ → ℕ → Bool
is_referred bases table key = list_any (has_reference_to table key) bases

abbrev pub referred_keys : List BaseTable → ℕ → List ℕ → List ℕ
referred_keys bases table keys = filter (is_referred bases table) keys

-- ---- whether rows refer to them

-- by a reference of the table at a place no row refers to the values, or a row has them still
abbrev pub is_free : List Keys → Content → ℕ → Reference → LostKey → Bool
is_free keys content place r l =
    not (nat_eq l.key r.key) || (not (is_some (with_key (table_at content place) r.by_key l.values))
    || is_some (with_key (table_at content r.table) (key_at keys r.table r.key) l.values))

-- all values of keys of a table
abbrev pub free_by : List Keys → Content → ℕ → List LostKey → ℕ → Reference → Bool
free_by keys content table lost place r =
    not (nat_eq r.table table) || list_all (is_free keys content place r) lost

-- by all references
abbrev pub are_free : List BaseTable → Content → ℕ → List LostKey → Bool
are_free bases content table lost =
    list_all (λ p. list_all (free_by (keys_of_bases bases) content table lost p.0) p.1.references)
    (enumerate_from 0 bases)

-- The rows and values asked for after changes of a table decide whether references hold. They are the rows to which the rows put in it
-- refer, each by a key of its table. And they are the values that its rows may have lost, in the keys of this list to which a reference
-- exists.
pub record DecidesReferences (bases : List BaseTable) (own_keys : List Keys) (t : BaseTable) (before : Table)
    (changes : List Change) (lost_keys : List ℕ) (asked : Asked) : Type 0 where
  pub known : are_of_keys own_keys asked.referenced.items ≡ true
  pub referenced : asked.referenced.items ≡ referred_by t.references (rows_put changes)
  pub lost : asked.lost.items ≡ lost_by before t.keys (referred_keys bases t.place lost_keys) changes
