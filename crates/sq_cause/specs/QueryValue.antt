-- A value of an insert statement's query that its column can't store (ISO/IEC 9075:1992, 9.2 and 13.8).
use Rattle.std.specs.Prelude.{◌≡◌, ℕ, List, slice_get, Some, Ok, Err}
use Rattle.sq_lex.specs.declared.name.Name.{Name}
use Rattle.sq_value.specs.declared.value.Value.{Value}
use Rattle.sq_store.specs.Content.{Content}
use Rattle.sq_meaning.specs.Assignment.{assigned}
use Rattle.sq_meaning.specs.declared.status.Status.{Status}
use Rattle.sq_bound.specs.declared.condition.BoundSpecification.{BoundSpecification}
use Rattle.sq_bound.specs.declared.names.ObjectColumn.{ObjectColumn}
use Rattle.sq_bound.specs.declared.statement.BoundInsert.{BoundInsert}
use Rattle.sq_bound.specs.declared.statement.InsertedRows.TheVariants as source
use Rattle.sq_session.specs.Schemas.{Schemas}
use Rattle.sq_cause.specs.Query.{HasRows}
use Rattle.sq_cause.specs.declared.cause.Given.TheVariants as given
use Rattle.sq_cause.specs.declared.cause.ItemFault.{ItemFault}
use Rattle.sq_cause.specs.declared.cause.ValueCause.{ValueCause}
use Rattle.sq_cause.specs.declared.cause.ValueFault.TheVariants as fault

-- the column at the value's place can't store it
pub record IsFaultOfValue (columns : List ObjectColumn) (item : ℕ) (v : Value) (f : ItemFault) : Type 0 where
  pub same : f.item ≡ item
  pub column : ObjectColumn
  pub column_at : slice_get columns item ≡ Some column
  pub position : column.position ≡ f.column
  pub status : Status
  pub unfit : assigned column.domain v ≡ Err status
  pub fault_is : f.fault ≡ fault.Unfit status

-- so it is with a value of the row
pub record IsFaultInRow (columns : List ObjectColumn) (row : List Value) (f : ItemFault) : Type 0 where
  pub value : Value
  pub value_at : slice_get row f.item ≡ Some value
  pub of_value : IsFaultOfValue columns f.item value f

-- so it is with a row among these
pub record IsFaultInRows (table : ℕ) (columns : List ObjectColumn) (rows : List (List Value)) (c : ValueCause) : Type 0 where
  pub table_is : c.table ≡ table
  pub place : ℕ
  pub given : c.given ≡ given.InQuery place
  pub row : List Value
  pub at : slice_get rows place ≡ Some row
  pub in_row : IsFaultInRow columns row (record { item = c.item; column = c.column; fault = c.fault })

-- an insert statement whose rows are those of a query, of which so it is
pub record IsQueriedFault (s : Schemas) (i : BoundInsert) (parameters : List Value) (user : Name) (tables : Content)
    (c : ValueCause) : Type 0 where
  pub query : BoundSpecification
  pub are : i.source ≡ source.Query query
  pub rows : List (List Value)
  pub found : HasRows s user parameters tables query (Ok rows)
  pub in_rows : IsFaultInRows i.leaf.table.place i.columns rows c
