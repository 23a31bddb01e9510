-- A check option that a row would not meet (ISO/IEC 9075:1992, 11.19): the condition of a view under the one that the statement names, or of
-- this view itself.
use Rattle.std.specs.Prelude.{◌≡◌, ◌⊎◌, ◌<◌, ℕ, List, slice_get, Some}
use Rattle.sq_value.specs.declared.truth.Truth.TheVariants as truth
use Rattle.sq_value.specs.declared.value.Value.{Value}
use Rattle.sq_store.specs.declared.change.Change.{Change}
use Rattle.sq_bound.specs.declared.condition.BoundCond.{BoundCond}
use Rattle.sq_bound.specs.declared.names.Leaf.{Leaf}
use Rattle.sq_change.specs.Made.{Seen}
use Rattle.sq_session.specs.Schemas.{Schemas}
use Rattle.sq_cause.specs.Breach.{IsPut}
use Rattle.sq_cause.specs.Broken.{HasTruth}
use Rattle.sq_cause.specs.declared.cause.OptionBreach.{OptionBreach}

-- the condition is false or unknown of the row
abbrev pub IsNotTrue : Schemas → Seen → List Value → BoundCond → Type 0
IsNotTrue s seen row c = HasTruth s seen row c truth.False ⊎ HasTruth s seen row c truth.Unknown

-- one of the conditions that rows have to meet, from inside out, is not true of the row
pub record IsUntrueLevel (s : Schemas) (seen : Seen) (leaf : Leaf) (row : List Value) (level : ℕ) : Type 0 where
  pub demanded : level < leaf.demanded
  pub condition : BoundCond
  pub at : slice_get leaf.conditions level ≡ Some condition
  pub untrue : IsNotTrue s seen row condition

-- so it is of the row that is put in
pub record IsOptionBreach (s : Schemas) (seen : Seen) (leaf : Leaf) (changes : List Change) (b : OptionBreach) : Type 0 where
  pub row : List Value
  pub is_put : IsPut changes b.put row
  pub of_row : IsUntrueLevel s seen leaf row b.level
