-- The meanings of the tables of a FROM clause (ISO/IEC 9075:1992, 5.4, 6.3 and 7.4).
use Rattle.std.specs.Prelude.{ℕ, Bool, false, not, List, map, length, Option}
use Rattle.std.specs.List.{enumerate_from}
use Rattle.sq_meaning.specs.Environment.{TableName, TableReference}
use Rattle.sq_meaning.specs.Tables.{ColumnDescriptor}
use Rattle.sq_meaning.specs.Binding.{has_item_twice}
use Rattle.sq_meaning.specs.declared.fault.BindingFault.TheVariants as fault
use Rattle.sq_bound.specs.Noted.{may_fail}
use Rattle.sq_bound.specs.declared.condition.TablePlace.{TablePlace}
use Rattle.sq_binding.specs.Findings.{none}
use Rattle.sq_binding.specs.Found.{Binding, ◌>>=◌, ◌>>◌, at_most, each, has_found, must, outcome, pure}
use Rattle.sq_binding.specs.Outcome.{or_fault}
use Rattle.sq_binding.specs.QueryFindings.{QueryFindings, most_items}
use Rattle.sq_binding.specs.Scope.{FromItem, ItemColumn}

-- A base table or a view: the place of its rows, and its columns. It says whether the user whose text names it holds SELECT
-- on it, and with the grant option.
pub record NamedTable : Type 0 where
  pub place : TablePlace
  pub columns : List ColumnDescriptor
  pub may_select : Bool
  pub may_grant : Bool

-- the meaning of each name of a table, if there is one
abbrev pub NamedTables : Type 0
NamedTables = TableName → Option NamedTable

-- an item of FROM, and the table that it is over
pub record NamedItem : Type 0 where
  pub table : TablePlace
  pub item : FromItem

abbrev pub column_over : ℕ × ColumnDescriptor → ItemColumn
column_over c = record { name = c.1.name; position = c.0; kind = c.1.kind }

abbrev pub item_over : TableReference → NamedTable → NamedItem
item_over r t = record {
  table = t.place;
  item = record { reference = r; columns = map column_over (enumerate_from 0 t.columns) };
}

abbrev pub items_of : List NamedItem → List FromItem
items_of from = map (λ i. i.item) from

abbrev pub tables_of : List NamedItem → List TablePlace
tables_of from = map (λ i. i.table) from

-- reading the rows of a view may answer a status
abbrev pub table_findings : NamedTable → QueryFindings
table_findings t = record {
  values = record none { can_fail = may_fail t.place };
  has_subquery = false;
  lacks_privilege = not t.may_select;
  lacks_grant_option = not t.may_grant;
}

abbrev pub item_bound : NamedTables → TableReference → Binding NamedItem
item_bound names r = do
  table ← outcome (or_fault fault.UnknownTable (names r.table))
  has_found (table_findings table)
  pure (item_over r table)

-- each item is exposed by a name of its own
abbrev pub from_bound : NamedTables → List TableReference → Binding (List NamedItem)
from_bound names from = at_most most_items (length from) do
  items ← each (item_bound names) from
  must (not (has_item_twice from)) fault.AmbiguousName
  pure items
