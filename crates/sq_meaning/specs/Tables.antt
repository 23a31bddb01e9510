-- Tables by their names: base tables and views (ISO/IEC 9075:1992, 4.9 and 11.19), their columns, and their rows. A
-- view has the rows of its query, with the caller's user.
use Rattle.std.specs.Prelude.{ℕ, Bool, true, false, List, [], ◌∷◌, find, map, slice_get, Ok}
use Rattle.std.specs.Option.{option_map}
use Rattle.sq_lex.specs.declared.name.Name.{Name}
use Rattle.sq_value.specs.Domain.{kind_of}
use Rattle.sq_value.specs.declared.domain.Domain.{Domain}
use Rattle.sq_value.specs.declared.domain.Kind.{Kind}
use Rattle.sq_store.specs.Content.{Content, table_at}
use Rattle.sq_store.specs.declared.table.Table.{Table}
use Rattle.sq_meaning.specs.Status.{Outcome, ◌>>=◌, each, well_formed, not_well_formed}
use Rattle.sq_meaning.specs.Syntax.{Select}
use Rattle.sq_meaning.specs.Environment.{Row, Item, Place, TableName, TableReference, same_name, same_table, input_value, place_of, outermost}
use Rattle.sq_meaning.specs.Expression.{Reading}
use Rattle.sq_meaning.specs.Kind.{Kinds}
use Rattle.sq_meaning.specs.Query.{rows}
use Rattle.sq_meaning.specs.Spelled.{Named}

-- ---- descriptors

pub record ColumnDescriptor : Type 0 where
  pub name : Name
  pub kind : Kind

-- a base table, by its place in the database, or a viewed table, by its query and whether WITH CHECK OPTION is
-- written
pub data TableBody : Type 0 where
  base_table : ℕ → TableBody
  viewed_table : Select Named → (check_option : Bool) → TableBody

pub record TableDescriptor : Type 0 where
  pub table : TableName
  pub columns : List ColumnDescriptor
  pub body : TableBody

-- all tables, the last one created first: the query of a view names only tables after it
abbrev pub Tables : Type 0
Tables = List TableDescriptor

abbrev pub descriptor_of : Tables → TableName → Outcome TableDescriptor
descriptor_of tables name = well_formed (find (λ d. same_table d.table name) tables)

abbrev pub column_names : TableDescriptor → List Name
column_names d = map (λ c. c.name) d.columns

abbrev pub column_kinds : TableDescriptor → List Kind
column_kinds d = map (λ c. c.kind) d.columns

-- an item of FROM
abbrev pub item_of : Tables → TableReference → Outcome Item
item_of tables r =
    descriptor_of tables r.table >>= λ d. Ok (record { reference = r; columns = column_names d })

-- a parameter as its procedure declares it (12.3)
pub record Declared : Type 0 where
  pub name : Name
  pub domain : Domain

-- ---- trees by name

-- the kind of the column at a place, if these tables are in the FROM clauses around
abbrev pub kind_at : Tables → List (List TableReference) → Place → Outcome Kind
kind_at tables scopes p = do
  from ← well_formed (slice_get scopes p.depth)
  r ← well_formed (slice_get from p.item)
  d ← descriptor_of tables r.table
  well_formed (slice_get (column_kinds d) p.column)

abbrev pub kinds_by_name : Tables → List Declared → Kinds Named
kinds_by_name tables parameters = record {
  column = λ c scopes. each (each (item_of tables)) scopes >>= λ items. place_of c items
      >>= kind_at tables scopes;
  parameter = λ p. well_formed
      (option_map (λ d. kind_of d.domain) (find (λ d. same_name d.name p.name) parameters));
  columns = λ r. descriptor_of tables r.table >>= λ d. Ok (column_kinds d);
}

-- names are looked up at every use, and so are the rows of a name
abbrev pub reading_by_name : Tables → (TableName → Outcome (List Row)) → Reading Named
reading_by_name tables rows_of = record {
  place = place_of;
  input = input_value;
  item = item_of tables;
  rows = λ r. rows_of r.table;
}

-- ---- rows of a name

abbrev pub rows_in : Table → List Row
rows_in t = map (λ r. r.row) t.rows

-- the rows of a base table by rising numbers, or of the view's query, outside every scope and without parameters
abbrev pub table_rows : Tables → Content → Name → TableName → Outcome (List Row)
table_rows [] content caller name = not_well_formed
table_rows (d ∷ earlier) content caller name =
    elim (same_table d.table name) as (λ _. Outcome (List Row)) [
      | false ↦ table_rows earlier content caller name
      | true ↦ elim d.body as (λ _. Outcome (List Row)) [
        | base_table n ↦ Ok (rows_in (table_at content n))
        | viewed_table q check_option ↦ rows (reading_by_name earlier (table_rows earlier content caller)) q
            (outermost [] caller)
      ]
    ]

-- how trees are read by name in a database, for a call of this user
abbrev pub by_name : Tables → Content → Name → Reading Named
by_name tables content caller = reading_by_name tables (table_rows tables content caller)
