-- A condition on the rows of a base table that ends with a status (ISO/IEC 9075:1992, 6.12, 8.5, 13.7 and 13.10): of a view between, or a
-- statement's own.
use Rattle.std.specs.Prelude.{◌≡◌, ℕ, List, slice_get, Some, Err}
use Rattle.sq_value.specs.declared.domain.Kind.{Kind as ValueKind}
use Rattle.sq_value.specs.declared.value.Value.{Value}
use Rattle.sq_store.specs.Content.{row_at, table_at}
use Rattle.sq_meaning.specs.declared.status.Status.{Status}
use Rattle.sq_bound.specs.declared.condition.BoundCond.{BoundCond}
use Rattle.sq_bound.specs.declared.query.Target.{Target}
use Rattle.sq_change.specs.Made.{Seen, Shown}
use Rattle.sq_query.specs.MayRead.{MayRead}
use Rattle.sq_query.specs.Row.{IsOnRow, truth_on_row}
use Rattle.sq_session.specs.Schemas.{Schemas, columns_of}
use Rattle.sq_cause.specs.declared.cause.Clause.{Clause}
use Rattle.sq_cause.specs.declared.cause.Clause.TheVariants as clause
use Rattle.sq_cause.specs.declared.cause.ClauseCause.{ClauseCause}

-- whatever a condition on a row of a base table may read, it ends with this status; where it is well formed
abbrev pub EndsOn : Schemas → Seen → List Value → BoundCond → Status → Type 0
EndsOn s seen row c st =
    (kinds : List ValueKind) (shown : Shown)
    → MayRead s.bases s.views (columns_of s) seen.tables seen.user seen.values kinds shown
    → IsOnRow (columns_of s) kinds row c
    → truth_on_row shown seen.values seen.user row c ≡ Err st

-- this is the condition of the view at a level, or the own one
abbrev pub IsConditionOf : Target → Clause → BoundCond → Type 0
IsConditionOf t (clause.View level) c = slice_get t.leaf.conditions level ≡ Some c
IsConditionOf t clause.Where c = t.condition ≡ Some c

-- the condition ends with the status on the row of the base table under a number
pub record IsEndUnder (s : Schemas) (seen : Seen) (t : Target) (number : ℕ) (c : Clause) (st : Status) : Type 0 where
  pub condition : BoundCond
  pub is : IsConditionOf t c condition
  pub row : List Value
  pub there : row_at (table_at seen.tables t.base) number ≡ Some (record { number = number; row = row })
  pub ends : EndsOn s seen row condition st

abbrev pub IsTargetEnd : Schemas → Seen → Target → ClauseCause → Type 0
IsTargetEnd s seen t c = (c.table ≡ t.base) × IsEndUnder s seen t c.number c.clause c.status
