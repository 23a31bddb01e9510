-- Constraints that would not hold if a statement made its changes (ISO/IEC 9075:1992, 4.10, 11.4, 11.7 to 11.9, 11.19). Rows that it would put
-- in its table are named by the place of their change, from 0.
use Rattle.std.specs.Prelude.{◌≡◌, ◌<◌, ℕ, Bool, true, false, not, ◌&&◌, List, nat_eq, slice_get, if◌then◌else◌, Option, Some, None}
use Rattle.std.specs.List.{list_any}
use Rattle.std.specs.Option.{option_map_or}
use Rattle.std.specs.Cmp.Lexicographic.{pointwise}
use Rattle.sq_value.specs.Comparison.{is_same}
use Rattle.sq_value.specs.Key.{in_columns}
use Rattle.sq_value.specs.SetFunctions.{is_null}
use Rattle.sq_value.specs.declared.value.Value.{Value}
use Rattle.sq_store.specs.Content.{Content, row_at, table_at}
use Rattle.sq_store.specs.Keys.{Keys, has_columns, key_at, with_key}
use Rattle.sq_store.specs.declared.change.Change.{Change}
use Rattle.sq_store.specs.declared.change.Change.TheVariants.{Insert, Replace, Remove}
use Rattle.sq_store.specs.declared.table.Numbered.{Numbered}
use Rattle.sq_bound.specs.declared.names.BaseTable.{BaseTable}
use Rattle.sq_bound.specs.declared.names.Reference.{Reference}
use Rattle.sq_change.specs.Reference.{values_in}
use Rattle.sq_cause.specs.declared.cause.Breach.{Breach}
use Rattle.sq_cause.specs.declared.cause.Breach.TheVariants as breach
use Rattle.sq_cause.specs.declared.cause.Referring.{Referring}
use Rattle.sq_cause.specs.declared.cause.RowPut.{RowPut}

-- ---- rows that are put in a table

-- the change that puts in a row: a new one, or one in place of that under a number
abbrev pub change_of : Option ℕ → List Value → Change
change_of None row = Insert row
change_of (Some number) row = Replace number row

-- this is the row that the change at a place puts in
abbrev pub IsPut : List Change → RowPut → List Value → Type 0
IsPut changes put row = slice_get changes put.place ≡ Some (change_of put.number row)

-- each row that a change before this place puts in is such
abbrev pub EachPutBefore : List Change → ℕ → (List Value → Type 0) → Type 0
EachPutBefore changes place IsSuch =
    (put : RowPut) (row : List Value) → put.place < place → IsPut changes put row → IsSuch row

-- a change takes the row under a number away, or puts another in its place
abbrev pub touches : ℕ → Change → Bool
touches number (Insert row) = false
touches number (Replace n row) = nat_eq n number
touches number (Remove n) = nat_eq n number

abbrev pub is_touched : List Change → ℕ → Bool
is_touched changes number = list_any (touches number) changes

-- ---- NOT NULL (11.4)

-- the column is null in the row, and may not be
abbrev pub lacks_value : BaseTable → List Value → ℕ → Bool
lacks_value t row column =
    option_map_or (λ c. c.not_null) (slice_get t.columns column) false
    && option_map_or is_null (slice_get row column) false

-- no column before this one is null in the row that may not be
abbrev pub LacksNoneBefore : BaseTable → List Value → ℕ → Type 0
LacksNoneBefore t row column = (n : ℕ) → n < column → lacks_value t row n ≡ false

abbrev pub LacksNone : BaseTable → List Value → Type 0
LacksNone t row = (n : ℕ) → lacks_value t row n ≡ false

-- no row that a change before this place puts in is null where it may not be
abbrev pub LackNoneBefore : BaseTable → List Change → ℕ → Type 0
LackNoneBefore t changes place = EachPutBefore changes place (LacksNone t)

-- the row that is put in is null in the column, and none is so before: neither this row in an earlier column, nor an earlier row
pub record IsNullPut (t : BaseTable) (changes : List Change) (put : RowPut) (column : ℕ) : Type 0 where
  pub row : List Value
  pub is_put : IsPut changes put row
  pub lacks : lacks_value t row column ≡ true
  pub columns : LacksNoneBefore t row column
  pub rows : LackNoneBefore t changes put.place

-- ---- keys (11.7)

-- the values of a row in some columns, if it has these columns and none is null
abbrev pub key_in : List Value → List ℕ → Option (List Value)
key_in row columns = if has_columns columns row then values_in row columns else None

-- a change puts in a row with these values in the columns
abbrev pub has_values : List ℕ → List Value → List Value → Bool
has_values columns values row = has_columns columns row && pointwise is_same values (in_columns row columns)

abbrev pub puts : List ℕ → List Value → Change → Bool
puts columns values (Insert row) = has_values columns values row
puts columns values (Replace number row) = has_values columns values row
puts columns values (Remove number) = false

-- the row of the table under this number has these values in the key, and stays as it is
pub record StaysWithKey (keys : List Keys) (tables : Content) (table key : ℕ) (values : List Value) (changes : List Change)
    (number : ℕ) : Type 0 where
  pub row : List Value
  pub found : with_key (table_at tables table) (key_at keys table key) values ≡ Some (record { number = number; row = row })
  pub stays : is_touched changes number ≡ false

-- a row that is put in at another place has these values in the columns
pub record IsOtherPut (changes : List Change) (but : ℕ) (columns : List ℕ) (values : List Value) (other : RowPut) : Type 0 where
  pub row : List Value
  pub is_put : IsPut changes other row
  pub same : has_values columns values row ≡ true
  pub two : nat_eq other.place but ≡ false

-- the row that is put in has the key of a row of the table, under this number, that stays as it is
pub record HasKeyOfRow (keys : List Keys) (tables : Content) (table : ℕ) (changes : List Change) (put : RowPut)
    (key number : ℕ) : Type 0 where
  pub row : List Value
  pub is_put : IsPut changes put row
  pub values : List Value
  pub of_row : key_in row (key_at keys table key) ≡ Some values
  pub there : StaysWithKey keys tables table key values changes number

-- two rows that are put in, at two places, have the same key
pub record HasKeyOfPut (keys : List Keys) (table : ℕ) (changes : List Change) (put : RowPut) (key : ℕ)
    (other : RowPut) : Type 0 where
  pub row : List Value
  pub is_put : IsPut changes put row
  pub values : List Value
  pub of_row : key_in row (key_at keys table key) ≡ Some values
  pub there : IsOtherPut changes put.place (key_at keys table key) values other

-- ---- references (11.8)

-- a row of a table that is found stays as it is
abbrev pub stays : ℕ → List Change → ℕ → Option Numbered → Bool
stays changed changes table None = false
stays changed changes table (Some other) = not (nat_eq table changed && is_touched changes other.number)

-- when the changes of a table are made, no row has these values in the key that is referred to
abbrev pub is_missing : List Keys → Content → ℕ → List Change → Reference → List Value → Bool
is_missing keys tables changed changes r values =
    not (stays changed changes r.table (with_key (table_at tables r.table) (key_at keys r.table r.key) values))
    && not (nat_eq r.table changed && list_any (puts (key_at keys r.table r.key) values) changes)

-- when the changes are made, the row refers by this reference to no row
pub record LeadsNowhere (keys : List Keys) (tables : Content) (changed : ℕ) (changes : List Change) (r : Reference)
    (row : List Value) : Type 0 where
  pub values : List Value
  pub of_row : key_in row r.by_key ≡ Some values
  pub missing : is_missing keys tables changed changes r values ≡ true

-- the row that is put in refers by this reference of its table to no row
pub record RefersToNone (t : BaseTable) (keys : List Keys) (tables : Content) (table : ℕ) (changes : List Change) (put : RowPut)
    (reference : ℕ) : Type 0 where
  pub row : List Value
  pub is_put : IsPut changes put row
  pub by : Reference
  pub at : slice_get t.references reference ≡ Some by
  pub nowhere : LeadsNowhere keys tables table changes by row

-- a row that stays as it is, under this number of a table, refers by this reference to a row that is gone then
pub record Refers (keys : List Keys) (tables : Content) (changed : ℕ) (changes : List Change) (table : ℕ) (r : Reference)
    (number : ℕ) : Type 0 where
  pub row : List Value
  pub there : row_at (table_at tables table) number ≡ Some (record { number = number; row = row })
  pub stays : (nat_eq table changed && is_touched changes number) ≡ false
  pub nowhere : LeadsNowhere keys tables changed changes r row

-- so does the row of this number by this reference of its table, which is at its place
pub record IsReferring (t : BaseTable) (keys : List Keys) (tables : Content) (changed : ℕ) (changes : List Change)
    (referring : Referring) : Type 0 where
  pub by : Reference
  pub at : slice_get t.references referring.reference ≡ Some by
  pub refers : Refers keys tables changed changes referring.table by referring.number

pub record IsReferredTo (bases : List BaseTable) (keys : List Keys) (tables : Content) (changed : ℕ) (changes : List Change)
    (referring : Referring) : Type 0 where
  pub base : BaseTable
  pub at : slice_get bases referring.table ≡ Some base
  pub refers : IsReferring base keys tables changed changes referring

-- ---- keys and references

-- a key or a reference does not hold when the changes are made in the base table
abbrev pub IsBetween : List BaseTable → BaseTable → List Keys → Content → List Change → Breach → Type 0
IsBetween bases t keys tables changes (breach.NotNull put column) = ⊥
IsBetween bases t keys tables changes (breach.Check put check) = ⊥
IsBetween bases t keys tables changes (breach.KeyOfRow put key number) =
    HasKeyOfRow keys tables t.place changes put key number
IsBetween bases t keys tables changes (breach.KeyOfPut put key other) =
    HasKeyOfPut keys t.place changes put key other
IsBetween bases t keys tables changes (breach.RefersToNone put reference) =
    RefersToNone t keys tables t.place changes put reference
IsBetween bases t keys tables changes (breach.IsReferredTo referring) =
    IsReferredTo bases keys tables t.place changes referring
