-- Keys to which references are, and the rows that are referred to (ISO/IEC 9075:1992, 11.8).
use Rattle.std.specs.Prelude.{◌≡◌, ℕ, Bool, true, false, nat_eq, nat_lt, if◌then◌else◌, is_some, slice_get, Option, None, Some, flat_map, List, [], ◌∷◌, length, ◌<◌}
use Rattle.std.specs.List.{list_all, list_any}
use Rattle.sq_value.specs.Key.{in_columns}
use Rattle.sq_value.specs.declared.value.Value.{Value}
use Rattle.sq_store.specs.Content.{Content, table_at}
use Rattle.sq_store.specs.Keys.{Keys, key_at, keys_at, with_key}
use Rattle.sq_store.specs.declared.table.Table.{Table}
use Rattle.sq_meaning.specs.Environment.{Row}
use Rattle.sq_meaning.specs.Constraints.{has_null}
use Rattle.sq_bound.specs.declared.names.Reference.{Reference}
use Rattle.sq_bound.specs.declared.statement.BoundAssignment.{BoundAssignment}
use Rattle.sq_change.specs.declared.reference.Referenced.{Referenced}

-- a table has a key of this number
abbrev pub is_key : List Keys → ℕ → ℕ → Bool
is_key keys table key = nat_lt key (length (keys_at keys table))

abbrev pub refers_to_key : List Keys → Reference → Bool
refers_to_key keys r = is_key keys r.table r.key

abbrev pub refer_to_keys : List Keys → List Reference → Bool
refer_to_keys keys references = list_all (refers_to_key keys) references

abbrev pub is_of_key : List Keys → Referenced → Bool
is_of_key keys r = is_key keys r.table r.key

abbrev pub are_of_keys : List Keys → List Referenced → Bool
are_of_keys keys rows = list_all (is_of_key keys) rows

-- ---- the rows that are referred to

-- the row that a reference of a row asks for, unless a referencing column is null
abbrev pub referred : Row → Reference → List Referenced
referred row r =
    if has_null (in_columns row r.by_key) then []
    else record { table = r.table; key = r.key; values = in_columns row r.by_key } ∷ []

-- the rows that rows ask for, one after the other
abbrev pub referred_by : List Reference → List Row → List Referenced
referred_by references rows = flat_map (λ row. flat_map (referred row) references) rows

-- the values of a row in some columns, unless one is null
abbrev pub values_in : Row → List ℕ → Option Row
values_in row columns = if has_null (in_columns row columns) then None else Some (in_columns row columns)

abbrev pub is_row_there : List Keys → Content → Referenced → Bool
is_row_there keys content r =
    is_some (with_key (table_at content r.table) (key_at keys r.table r.key) r.values)

abbrev pub are_rows_there : List Keys → Content → List Referenced → Bool
are_rows_there keys content rows = list_all (is_row_there keys content) rows

-- ---- keys that lose nothing

-- in each other key, the values that rows had are still in the table
abbrev pub KeepsKeys : Keys → List ℕ → Table → Table → Type 0
KeepsKeys keys lost before after =
    (key : ℕ) (columns : List ℕ) → slice_get keys key ≡ Some columns → list_any (nat_eq key) lost ≡ false
    → (values : List Value) → is_some (with_key before columns values) ≡ true
    → is_some (with_key after columns values) ≡ true

-- a set clause assigns one of the columns
abbrev pub is_assigned : List ℕ → List BoundAssignment → Bool
is_assigned columns assignments =
    list_any (λ a. list_any (λ c. nat_eq c a.column.position) columns) assignments

-- each key with a column that a set clause assigns is one of these
abbrev pub LosesAssigned : Keys → List BoundAssignment → List ℕ → Type 0
LosesAssigned keys assignments lost =
    (key : ℕ) (columns : List ℕ) → slice_get keys key ≡ Some columns → list_any (nat_eq key) lost ≡ false
    → is_assigned columns assignments ≡ false

-- all keys are among these
abbrev pub LosesAll : Keys → List ℕ → Type 0
LosesAll keys lost = (key : ℕ) → key < length keys → list_any (nat_eq key) lost ≡ true
