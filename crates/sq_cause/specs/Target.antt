-- A target that can't take a value of the row that FETCH has come to, or takes only a part of it (ISO/IEC 9075:1992, 9.1 and 13.3). A FETCH that
-- fails stays on the row that it has come to, so the row is found after the call.
use Rattle.std.specs.Prelude.{◌≡◌, ℕ, Bool, true, false, if◌then◌else◌, List, slice_get, option_and_then, Option, Some, None, Ok, Err}
use Rattle.sq_value.specs.Retrieving.{retrieved}
use Rattle.sq_value.specs.declared.domain.Domain.{Domain}
use Rattle.sq_value.specs.declared.fault.RetrieveFault.TheVariants.{Range}
use Rattle.sq_value.specs.declared.retrieving.Retrieved.{Retrieved}
use Rattle.sq_value.specs.declared.value.Value.{Value}
use Rattle.sq_value.specs.declared.value.Value.TheVariants.{Null}
use Rattle.sq_store.specs.Content.{Content, row_at, table_at}
use Rattle.sq_meaning.specs.Cursor.{row_at as row_of}
use Rattle.sq_meaning.specs.declared.status.Status.{Status}
use Rattle.sq_meaning.specs.declared.status.Status.TheVariants as status
use Rattle.sq_bound.specs.declared.names.ParameterDesc.{ParameterDesc}
use Rattle.sq_bound.specs.declared.statement.Output.{Output}
use Rattle.sq_session.specs.Kind.{Fetching, Kind}
use Rattle.sq_session.specs.declared.cursor.CursorState.{CursorState}
use Rattle.sq_session.specs.declared.cursor.CursorState.TheVariants as cursor
use Rattle.sq_cause.specs.declared.cause.TargetCause.{TargetCause}
use Rattle.sq_cause.specs.declared.cause.TargetFault.{TargetFault}
use Rattle.sq_cause.specs.declared.cause.TargetFault.TheVariants as fault

abbrev pub status_of_target : TargetFault → Status
status_of_target fault.NullWithoutIndicator = status.NullWithoutIndicator
status_of_target fault.OutOfRange = status.NumericValueOutOfRange
status_of_target (fault.Cut n) = status.TextTruncated

-- ---- one target

-- a text of this length is cut
pub record IsCut (d : Domain) (v : Value) (length : ℕ) : Type 0 where
  pub got : Retrieved
  pub is : retrieved d v ≡ Ok got
  pub uncut : got.uncut ≡ Some length

abbrev pub IsRetrievalFault : Domain → Output → Value → TargetFault → Type 0
IsRetrievalFault d t v fault.NullWithoutIndicator = (v ≡ Null) × (t.indicator ≡ None)
IsRetrievalFault d t v fault.OutOfRange = retrieved d v ≡ Err Range
IsRetrievalFault d t v (fault.Cut n) = IsCut d v n

-- the target's parameter, which has this name, can't take the value, or only a part of it
pub record IsTargetFault (parameters : List ParameterDesc) (t : Output) (v : Value) (c : TargetCause) : Type 0 where
  pub parameter : ParameterDesc
  pub at : slice_get parameters t.parameter ≡ Some parameter
  pub name : c.parameter ≡ parameter.name
  pub faulty : IsRetrievalFault parameter.domain t v c.fault

-- ---- a row

-- the value at a place of a row: of the whole row, or of some columns
abbrev pub value_shown : List Value → Bool → List ℕ → ℕ → Option Value
value_shown row whole columns place =
    if whole then slice_get row place else option_and_then (slice_get row) (slice_get columns place)

-- a target that can't take its value of the row
pub record IsRowFault (parameters : List ParameterDesc) (targets : List Output) (row : List Value) (whole : Bool) (columns : List ℕ)
    (c : TargetCause) : Type 0 where
  pub place : ℕ
  pub target : Output
  pub at : slice_get targets place ≡ Some target
  pub value : Value
  pub shown : value_shown row whole columns place ≡ Some value
  pub faulty : IsTargetFault parameters target value c

-- the row under a number, of which these columns are shown
pub record IsNumbered (tables : Content) (table : ℕ) (on : Option ℕ) (columns : List ℕ) (row : List Value) (whole : Bool)
    (shown : List ℕ) : Type 0 where
  pub number : ℕ
  pub is_on : on ≡ Some number
  pub there : row_at (table_at tables table) number ≡ Some (record { number = number; row = row })
  pub in_columns : whole ≡ false
  pub columns_are : shown ≡ columns

-- the row that a cursor is on, and what it shows of it
abbrev pub IsShownBy : CursorState → Content → List ℕ → List Value → Bool → List ℕ → Type 0
IsShownBy cursor.Closed tables columns row whole shown = ⊥
IsShownBy (cursor.Rows c) tables columns row whole shown = (row_of c.rows c.place ≡ Some row) × (whole ≡ true)
IsShownBy (cursor.Numbers c) tables columns row whole shown = IsNumbered tables c.table c.on columns row whole shown
IsShownBy (cursor.Walking c) tables columns row whole shown = IsNumbered tables c.table c.on columns row whole shown

-- ---- FETCH

pub record IsFetchFault (f : Fetching) (cursors : List CursorState) (tables : Content) (c : TargetCause) : Type 0 where
  pub cursor : CursorState
  pub at : slice_get cursors f.cursor ≡ Some cursor
  pub row : List Value
  pub whole : Bool
  pub columns : List ℕ
  pub shown : IsShownBy cursor tables f.columns row whole columns
  pub faulty : IsRowFault f.parameters f.targets row whole columns c

abbrev pub IsTargetCause : Kind → List CursorState → Content → TargetCause → Type 0
IsTargetCause (Kind.fetches f) cursors tables c = IsFetchFault f cursors tables c
IsTargetCause _ cursors tables c = ⊥
