-- A value that a statement would give a column: its expression ends with a status, or the column can't store it (ISO/IEC 9075:1992, 9.2 and 13.8
-- to 13.10).
use Rattle.std.specs.Prelude.{◌≡◌, ◌⊎◌, List, [], slice_get, Some, None}
use Rattle.sq_lex.specs.declared.name.Name.{Name}
use Rattle.sq_value.specs.declared.value.Value.{Value}
use Rattle.sq_store.specs.Content.{Content}
use Rattle.sq_bound.specs.declared.expression.BoundExpr.{BoundExpr}
use Rattle.sq_bound.specs.declared.names.ObjectColumn.{ObjectColumn}
use Rattle.sq_bound.specs.declared.statement.BoundInsert.{BoundInsert}
use Rattle.sq_bound.specs.declared.statement.InsertedRows.TheVariants as source
use Rattle.sq_session.specs.Kind.{Kind}
use Rattle.sq_session.specs.Schemas.{Schemas}
use Rattle.sq_session.specs.State.{State}
use Rattle.sq_session.specs.Step.{on_row, seen_in}
use Rattle.sq_cause.specs.QueryValue.{IsQueriedFault}
use Rattle.sq_cause.specs.SetValue.{IsSetFault}
use Rattle.sq_cause.specs.ValueFault.{IsValueFault}
use Rattle.sq_cause.specs.declared.cause.Given.TheVariants as given
use Rattle.sq_cause.specs.declared.cause.ItemFault.{ItemFault}
use Rattle.sq_cause.specs.declared.cause.ValueCause.{ValueCause}

-- so it is with the value at a place of VALUES, for the column at the same place
pub record IsItemFault (columns : List ObjectColumn) (es : List BoundExpr) (parameters : List Value) (user : Name) (f : ItemFault) : Type 0 where
  pub column : ObjectColumn
  pub column_at : slice_get columns f.item ≡ Some column
  pub position : column.position ≡ f.column
  pub expression : BoundExpr
  pub expression_at : slice_get es f.item ≡ Some expression
  pub faulty : IsValueFault column.domain expression [] parameters user f.fault

-- an insert statement whose values are those of VALUES
pub record IsInsertedFault (i : BoundInsert) (parameters : List Value) (user : Name) (c : ValueCause) : Type 0 where
  pub table : c.table ≡ i.leaf.table.place
  pub given : c.given ≡ given.InValues
  pub values : List BoundExpr
  pub are : i.source ≡ source.Values values
  pub item : IsItemFault i.columns values parameters user (record { item = c.item; column = c.column; fault = c.fault })

-- the values of an insert statement are those of VALUES, or of a query
abbrev pub IsInsertFault : Schemas → BoundInsert → List Value → Name → Content → ValueCause → Type 0
IsInsertFault s i parameters user tables c =
    IsInsertedFault i parameters user c ⊎ IsQueriedFault s i parameters user tables c

abbrev pub IsValueCause : Schemas → Kind → List Value → State → ValueCause → Type 0
IsValueCause s (Kind.inserts caller i) values state c =
    IsInsertFault s i values caller.user state.tables c
IsValueCause s (Kind.updates u) values state c =
    IsSetFault (seen_in s u.caller values state.tables) u.statement None c
IsValueCause s (Kind.updates_at u p) values state c =
    IsSetFault (seen_in s u.caller values state.tables) u.statement (on_row state p) c
IsValueCause s _ values state c = ⊥
