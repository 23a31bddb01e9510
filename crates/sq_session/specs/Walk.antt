-- A cursor that walks over a base table (ISO/IEC 9075:1992, 13.3): the rows that it comes to, and what is asked
-- of it so that its conditions answer no status.
use Rattle.std.specs.Prelude.{◌≡◌, ℕ, Bool, true, false, nat_le, nat_lt, filter, find, map, List, [], ◌∷◌, Option, Ok, Err}
use Rattle.std.specs.List.{AllByRecursion}
use Rattle.sq_lex.specs.declared.name.Name.{Name}
use Rattle.sq_value.specs.declared.domain.Kind.{Kind}
use Rattle.sq_value.specs.declared.value.Value.{Value}
use Rattle.sq_store.specs.declared.table.Numbered.{Numbered}
use Rattle.sq_meaning.specs.Environment.{Row}
use Rattle.sq_meaning.specs.Placed.{by_place}
use Rattle.sq_meaning.specs.Query.{truth}
use Rattle.sq_meaning.specs.Status.{Outcome, not_well_formed}
use Rattle.sq_meaning.specs.WellFormed.{IsRowOf}
use Rattle.sq_bound.specs.Condition.{cond_of}
use Rattle.sq_bound.specs.WellFormed.{IsTarget, TableKinds, base_kinds}
use Rattle.sq_bound.specs.declared.condition.BoundCond.{BoundCond}
use Rattle.sq_bound.specs.declared.condition.TablePlace.{TablePlace}
use Rattle.sq_bound.specs.declared.query.Target.{Target}
use Rattle.sq_query.specs.Row.{outside}
use Rattle.sq_query.specs.Target.{are_true}

-- ---- the rows

-- The rows from a number on.
abbrev pub rows_from : ℕ → List Numbered → List Numbered
rows_from number rows = filter (λ r. nat_le number r.number) rows

-- The rows from a number on that come before a mark.
abbrev pub rows_between : (from mark : ℕ) → List Numbered → List Numbered
rows_between from mark rows = filter (λ r. nat_lt r.number mark) (rows_from from rows)

-- The tables of conditions without a subquery, which read none.
abbrev pub no_tables : TablePlace → Outcome (List Row)
no_tables place = not_well_formed

abbrev pub is_yes : Outcome Bool → Bool
is_yes (Ok b) = b
is_yes (Err status) = false

-- Whether all conditions are true of a row, so that the cursor means it.
abbrev pub is_meant : List BoundCond → List Value → Name → Numbered → Bool
is_meant conditions values user r =
    is_yes (are_true (λ c.
    truth (by_place no_tables) (cond_of [] c) (outside (r.row ∷ []) values user)) conditions)

-- The first row in a range of numbers of which all conditions are true.
abbrev pub first_meant : List BoundCond → List Value → Name → (from mark : ℕ) → List Numbered
    → Option Numbered
first_meant conditions values user from mark rows =
    find (is_meant conditions values user) (rows_between from mark rows)

-- The numbers of all rows in a range of which all conditions are true, in the order of the rows.
abbrev pub numbers_meant : List BoundCond → List Value → Name → (from mark : ℕ) → List Numbered → List ℕ
numbers_meant conditions values user from mark rows =
    map (λ r. r.number) (filter (is_meant conditions values user) (rows_between from mark rows))

-- ---- what a walk asks

-- A target is quiet, and well formed for parameters with these values.
pub record IsQuietWith (columns : TableKinds) (t : Target) (values : List Value) : Type 0 where
  pub quiet : t.is_quiet ≡ true
  pub parameters : List Kind
  pub is_target : IsTarget columns parameters t
  pub given : IsRowOf parameters values

-- These are rows of the base table under a target.
abbrev pub AreRowsUnder : Target → List Numbered → Type 0
AreRowsUnder t rows = AllByRecursion (λ r. IsRowOf (base_kinds t.leaf.table) r.row) rows
