-- A value of a set clause that UPDATE can't give its column (ISO/IEC 9075:1992, 9.2, 13.9 and 13.10).
use Rattle.std.specs.Prelude.{◌≡◌, ℕ, List, [], ◌∷◌, slice_get, Option, Some}
use Rattle.sq_lex.specs.declared.name.Name.{Name}
use Rattle.sq_value.specs.declared.value.Value.{Value}
use Rattle.sq_store.specs.Content.{row_at, table_at}
use Rattle.sq_store.specs.declared.table.Table.{Table}
use Rattle.sq_bound.specs.Fits.{under}
use Rattle.sq_bound.specs.declared.statement.BoundAssignment.{BoundAssignment}
use Rattle.sq_bound.specs.declared.statement.BoundUpdate.{BoundUpdate}
use Rattle.sq_change.specs.Made.{Seen}
use Rattle.sq_change.specs.Statement.{Chosen}
use Rattle.sq_cause.specs.ValueFault.{IsValueFault}
use Rattle.sq_cause.specs.declared.cause.Given.TheVariants as given
use Rattle.sq_cause.specs.declared.cause.ItemFault.{ItemFault}
use Rattle.sq_cause.specs.declared.cause.ValueCause.{ValueCause}

-- the value of the set clause at a place, on the row as it is, for the clause's column
pub record IsFaultOnRow (assignments : List BoundAssignment) (row parameters : List Value) (user : Name)
    (f : ItemFault) : Type 0 where
  pub assignment : BoundAssignment
  pub at : slice_get assignments f.item ≡ Some assignment
  pub position : assignment.column.position ≡ f.column
  pub faulty : IsValueFault assignment.column.domain assignment.value (row ∷ []) parameters user f.fault

-- so it is on the row under a number
pub record IsFaultUnder (t : Table) (number : ℕ) (assignments : List BoundAssignment) (parameters : List Value) (user : Name)
    (f : ItemFault) : Type 0 where
  pub row : List Value
  pub there : row_at t number ≡ Some (record { number = number; row = row })
  pub on_row : IsFaultOnRow assignments row parameters user f

-- so it is on a row with one of these numbers
pub record IsFaultOfRows (t : Table) (u : BoundUpdate) (parameters : List Value) (user : Name) (numbers : List ℕ)
    (c : ValueCause) : Type 0 where
  pub table : c.table ≡ (under u.target).table.place
  pub place : ℕ
  pub number : ℕ
  pub at : slice_get numbers place ≡ Some number
  pub given : c.given ≡ given.InSet number
  pub on_row : IsFaultUnder t number u.assignments parameters user
      (record { item = c.item; column = c.column; fault = c.fault })

-- so it is on one of the rows that the statement changes
pub record IsSetFault (seen : Seen) (u : BoundUpdate) (on : Option ℕ) (c : ValueCause) : Type 0 where
  pub numbers : List ℕ
  pub chosen : Chosen seen u.target on numbers
  pub of_rows : IsFaultOfRows (table_at seen.tables (under u.target).table.place) u seen.values seen.user numbers c
