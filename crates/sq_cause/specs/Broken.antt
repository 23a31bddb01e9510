-- What a breach says of a statement: which constraint would not hold when the statement's changes are made, and of which rows
-- (ISO/IEC 9075:1992, 4.10, 11.4, 11.7 to 11.9).
use Rattle.std.specs.Prelude.{◌≡◌, ℕ, List, [], slice_get, Some, Ok}
use Rattle.sq_value.specs.declared.domain.Kind.{Kind as ValueKind}
use Rattle.sq_value.specs.declared.truth.Truth.{Truth}
use Rattle.sq_value.specs.declared.truth.Truth.TheVariants as truth
use Rattle.sq_value.specs.declared.value.Value.{Value}
use Rattle.sq_store.specs.Keys.{Keys}
use Rattle.sq_store.specs.declared.change.Change.{Change}
use Rattle.sq_bound.specs.declared.condition.BoundCond.{BoundCond}
use Rattle.sq_bound.specs.declared.names.BaseTable.{BaseTable}
use Rattle.sq_change.specs.Made.{Seen, Shown, seen_by}
use Rattle.sq_query.specs.MayRead.{MayRead}
use Rattle.sq_query.specs.Row.{IsOnRow, truth_on_row}
use Rattle.sq_session.specs.Kind.{Kind}
use Rattle.sq_session.specs.Schemas.{Schemas, columns_of}
use Rattle.sq_session.specs.State.{State}
use Rattle.sq_lex.specs.declared.name.Name.{Name}
use Rattle.sq_cause.specs.Breach.{IsBetween, IsNullPut, IsPut, LackNoneBefore, LacksNone}
use Rattle.sq_cause.specs.declared.cause.Breach.{Breach}
use Rattle.sq_cause.specs.declared.cause.Breach.TheVariants as breach
use Rattle.sq_cause.specs.declared.cause.RowPut.{RowPut}

-- whatever a condition on a row of a base table may read, its truth is this; where it is well formed
abbrev pub HasTruth : Schemas → Seen → List Value → BoundCond → Truth → Type 0
HasTruth s seen row c t =
    (kinds : List ValueKind) (shown : Shown)
    → MayRead s.bases s.views (columns_of s) seen.tables seen.user seen.values kinds shown
    → IsOnRow (columns_of s) kinds row c
    → truth_on_row shown seen.values seen.user row c ≡ Ok t

-- a CHECK of the table is false of the row
pub record IsFalseOf (s : Schemas) (seen : Seen) (t : BaseTable) (row : List Value) (check : ℕ) : Type 0 where
  pub condition : BoundCond
  pub at : slice_get t.checks check ≡ Some condition
  pub is_false : HasTruth s seen row condition truth.False

-- so it is of a row that is put in, and neither this row nor an earlier one is null where it may not be
pub record IsFalseCheck (s : Schemas) (seen : Seen) (t : BaseTable) (changes : List Change) (put : RowPut) (check : ℕ) : Type 0 where
  pub row : List Value
  pub is_put : IsPut changes put row
  pub of_row : IsFalseOf s seen t row check
  pub whole : LacksNone t row
  pub rows : LackNoneBefore t changes put.place

-- a row that is put in does not meet NOT NULL or a CHECK
abbrev pub IsRowBreach : Schemas → Seen → BaseTable → List Change → Breach → Type 0
IsRowBreach s seen t changes (breach.NotNull put column) = IsNullPut t changes put column
IsRowBreach s seen t changes (breach.Check put check) = IsFalseCheck s seen t changes put check
IsRowBreach s seen t changes _ = ⊥

-- the constraint does not hold when these changes are made in the base table; these are the columns of all keys
abbrev pub IsBroken : Schemas → Seen → List Keys → BaseTable → List Change → Breach → Type 0
IsBroken s seen keys t changes (breach.NotNull put column) = IsNullPut t changes put column
IsBroken s seen keys t changes (breach.Check put check) = IsFalseCheck s seen t changes put check
IsBroken s seen keys t changes b = IsBetween s.bases t keys seen.tables changes b

-- the user for whom a statement is performed
abbrev pub user_of : Kind → Name
user_of (Kind.opens o) = o.user
user_of (Kind.fetches f) = f.user
user_of (Kind.closes n) = []
user_of (Kind.selects s) = s.user
user_of (Kind.inserts caller i) = caller.user
user_of (Kind.updates u) = u.caller.user
user_of (Kind.deletes caller t) = caller.user
user_of (Kind.updates_at u p) = u.caller.user
user_of (Kind.deletes_at caller p) = caller.user
user_of Kind.commits = []
user_of Kind.rolls_back = []

-- what a statement of this kind sees
abbrev pub seen_of : Schemas → Kind → List Value → State → Seen
seen_of s k values state = seen_by s.views state.tables (user_of k) values
