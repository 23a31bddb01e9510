-- The first condition that is not met by the rows that a statement puts in, where it ends with a status (ISO/IEC 9075:1992, 6.12, 8.5, 11.4,
-- 11.9, 11.19): a check option, or a CHECK.
use Rattle.std.specs.Prelude.{◌≡◌, ◌⊎◌, ◌<◌, ℕ, ⊤, List, length, slice_get, take, Some}
use Rattle.sq_value.specs.declared.truth.Truth.TheVariants as truth
use Rattle.sq_value.specs.declared.value.Value.{Value}
use Rattle.sq_store.specs.declared.change.Change.{Change}
use Rattle.sq_meaning.specs.declared.status.Status.{Status}
use Rattle.sq_bound.specs.declared.condition.BoundCond.{BoundCond}
use Rattle.sq_bound.specs.declared.names.BaseTable.{BaseTable}
use Rattle.sq_bound.specs.declared.names.Leaf.{Leaf}
use Rattle.sq_change.specs.Made.{Seen}
use Rattle.sq_session.specs.Schemas.{Schemas}
use Rattle.sq_cause.specs.Breach.{EachPutBefore, IsPut, LacksNone}
use Rattle.sq_cause.specs.Broken.{HasTruth}
use Rattle.sq_cause.specs.TargetEnd.{EndsOn}
use Rattle.sq_cause.specs.declared.cause.Demand.{Demand}
use Rattle.sq_cause.specs.declared.cause.Demand.TheVariants as demand
use Rattle.sq_cause.specs.declared.cause.RowEnd.{RowEnd}
use Rattle.sq_cause.specs.declared.cause.RowPut.{RowPut}
use Rattle.sq_cause.specs.declared.row_end.Asked.{Asked}
use Rattle.sq_cause.specs.declared.row_end.Asked.TheVariants as asked
use Rattle.sq_cause.specs.declared.row_end.RowsAsked.{RowsAsked}
use Rattle.sq_cause.specs.declared.row_end.RowsAsked.TheVariants as rows

-- ---- conditions that are asked of a row, one after the other

-- a check option is met if it is true, a CHECK if it is not false
abbrev pub IsTrueOn : Schemas → Seen → List Value → BoundCond → Type 0
IsTrueOn s seen row c = HasTruth s seen row c truth.True

abbrev pub IsNotFalseOn : Schemas → Seen → List Value → BoundCond → Type 0
IsNotFalseOn s seen row c = HasTruth s seen row c truth.True ⊎ HasTruth s seen row c truth.Unknown

-- those before a place are met
abbrev pub AreMet : (BoundCond → Type 0) → List BoundCond → ℕ → Type 0
AreMet IsMet cs place = (n : ℕ) (c : BoundCond) → n < place → slice_get cs n ≡ Some c → IsMet c

-- so they are before the one at this place, which ends with the status
pub record IsFirstEnd (IsMet : BoundCond → Type 0) (Ends : BoundCond → Status → Type 0) (cs : List BoundCond) (place : ℕ)
    (st : Status) : Type 0 where
  pub condition : BoundCond
  pub at : slice_get cs place ≡ Some condition
  pub ends : Ends condition st
  pub before : AreMet IsMet cs place

-- ---- rows that are put in, one after the other

-- the conditions of views that rows have to meet, from inside out
abbrev pub demanded_of : Leaf → List BoundCond
demanded_of leaf = take leaf.demanded leaf.conditions

abbrev pub MeetsOptions : Schemas → Seen → Leaf → List Value → Type 0
MeetsOptions s seen leaf row = AreMet (IsTrueOn s seen row) (demanded_of leaf) (length (demanded_of leaf))

abbrev pub MeetsChecks : Schemas → Seen → BaseTable → List Value → Type 0
MeetsChecks s seen t row = LacksNone t row × AreMet (IsNotFalseOn s seen row) t.checks (length t.checks)

-- on the row that is put in, the condition of the view at a level ends with the status, and everything before it is met
pub record IsOptionEnd (s : Schemas) (seen : Seen) (leaf : Leaf) (changes : List Change) (put : RowPut) (level : ℕ)
    (st : Status) : Type 0 where
  pub row : List Value
  pub is_put : IsPut changes put row
  pub first : IsFirstEnd (IsTrueOn s seen row) (EndsOn s seen row) (demanded_of leaf) level st
  pub rows : EachPutBefore changes put.place (MeetsOptions s seen leaf)

-- so it is with a CHECK: all check options are met, NOT NULL and CHECK on the rows before, and on this row what is before it
pub record IsCheckEnd (s : Schemas) (seen : Seen) (leaf : Leaf) (changes : List Change) (put : RowPut) (check : ℕ)
    (st : Status) : Type 0 where
  pub row : List Value
  pub is_put : IsPut changes put row
  pub whole : LacksNone leaf.table row
  pub first : IsFirstEnd (IsNotFalseOn s seen row) (EndsOn s seen row) leaf.table.checks check st
  pub rows : EachPutBefore changes put.place (MeetsChecks s seen leaf.table)
  pub options : EachPutBefore changes (length changes) (MeetsOptions s seen leaf)

abbrev pub IsEndOf : Schemas → Seen → Leaf → List Change → RowPut → Demand → Status → Type 0
IsEndOf s seen leaf changes put (demand.View level) st = IsOptionEnd s seen leaf changes put level st
IsEndOf s seen leaf changes put (demand.Check check) st = IsCheckEnd s seen leaf changes put check st

abbrev pub IsRowEnd : Schemas → Seen → Leaf → List Change → RowEnd → Type 0
IsRowEnd s seen leaf changes e =
    (e.table ≡ leaf.table.place) × IsEndOf s seen leaf changes e.put e.demand e.status

-- ---- while it is looked for

-- what comes of asking the conditions before a place of a row
abbrev pub IsAsked : (BoundCond → Type 0) → (BoundCond → Status → Type 0) → List BoundCond → ℕ → Asked → Type 0
IsAsked IsMet Ends cs place asked.Met = AreMet IsMet cs place
IsAsked IsMet Ends cs place asked.Unmet = ⊤
IsAsked IsMet Ends cs place (asked.Ends n st) = IsFirstEnd IsMet Ends cs n st

-- what comes of asking the rows that changes before a place put in
abbrev pub AreAsked : (List Value → Type 0) → (RowEnd → Type 0) → List Change → ℕ → RowsAsked → Type 0
AreAsked IsSuch Ends changes place rows.Met = EachPutBefore changes place IsSuch
AreAsked IsSuch Ends changes place rows.Unmet = ⊤
AreAsked IsSuch Ends changes place (rows.Ends e) = Ends e
