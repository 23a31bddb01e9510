-- The descriptors of tables and views that schema elements make (ISO/IEC 9075:1992, 11.3, 11.4 and 11.19).
use Rattle.std.specs.List.{zip}
use Rattle.std.specs.Prelude.{ℕ, Bool, true, false, List, [], ◌∷◌, map, count_by, Option, unwrap_or, Some, None}
use Rattle.std.specs.Result.{result_ok}
use Rattle.sq_lex.specs.declared.name.Name.{Name}
use Rattle.sq_value.specs.Domain.{kind_of}
use Rattle.sq_value.specs.declared.domain.Domain.{Domain}
use Rattle.sq_value.specs.declared.domain.Domain.TheVariants as domain
use Rattle.sq_value.specs.declared.domain.Kind.{Kind}
use Rattle.sq_tree.specs.declared.list.CommaList.{CommaList}
use Rattle.sq_tree.specs.declared.schema.ColumnDefinition.{ColumnDefinition}
use Rattle.sq_tree.specs.declared.schema.SchemaElement.{SchemaElement}
use Rattle.sq_tree.specs.declared.schema.SchemaElement.TheVariants as element
use Rattle.sq_tree.specs.declared.schema.TableDefinition.{TableDefinition}
use Rattle.sq_tree.specs.declared.schema.ViewDefinition.{ViewDefinition}
use Rattle.sq_meaning.specs.Kind.{select_kinds}
use Rattle.sq_meaning.specs.SortKeys.{select_names}
use Rattle.sq_meaning.specs.Spelled.{domain_of, listed, select_of, table_of}
use Rattle.sq_meaning.specs.Tables.{ColumnDescriptor, TableDescriptor, Tables, kinds_by_name}
use Rattle.sq_meaning.specs.Tables.{base_table}
use Rattle.sq_meaning.specs.Tables.{viewed_table}
use Rattle.sq_meaning.specs.Schema.{Elements, column_definitions}

-- in elements that are not refused each column's type has a domain
abbrev pub column_domain : ColumnDefinition → Domain
column_domain c = unwrap_or (domain_of c.data_type) domain.Int

abbrev pub column_descriptor : ColumnDefinition → ColumnDescriptor
column_descriptor c = record { name = c.name; kind = kind_of (column_domain c) }

abbrev pub is_base_table : SchemaElement → Bool
is_base_table (element.Table t) = true
is_base_table (element.View v) = false
is_base_table (element.Grant g) = false

abbrev pub base_count : Elements → ℕ
base_count elements = count_by (λ e. is_base_table e.element) elements

-- a base table's place in the database is the number of base tables before it
abbrev pub table_descriptor : ℕ → Name → TableDefinition → TableDescriptor
table_descriptor place owner t = record {
  table = table_of owner t.name;
  columns = map column_descriptor (column_definitions t);
  body = base_table place;
}

-- a view's columns have the names of its column list, or else the names of its query
abbrev pub names_written : Option (CommaList Name) → List (Option Name) → List (Option Name)
names_written None otherwise = otherwise
names_written (Some columns) otherwise = map Some (listed columns)

abbrev pub view_names : Tables → Name → ViewDefinition → List (Option Name)
view_names tables owner v =
    names_written v.columns (unwrap_or (result_ok (select_names tables (select_of owner v.query))) [])

abbrev pub view_kinds : Tables → Name → ViewDefinition → List Kind
view_kinds tables owner v =
    unwrap_or (result_ok (select_kinds (kinds_by_name tables []) [] (select_of owner v.query))) []

abbrev pub view_descriptor : Tables → Name → ViewDefinition → TableDescriptor
view_descriptor tables owner v = record {
  table = table_of owner v.name;
  columns = map (λ c. record { name = unwrap_or c.0 []; kind = c.1 })
      (zip (view_names tables owner v) (view_kinds tables owner v));
  body = viewed_table (select_of owner v.query) v.check_option;
}

abbrev pub with_made : Tables → ℕ → Name → SchemaElement → Tables
with_made tables place owner (element.Table t) = table_descriptor place owner t ∷ tables
with_made tables place owner (element.View v) = view_descriptor tables owner v ∷ tables
with_made tables place owner (element.Grant g) = tables

-- the tables and views of some elements, the last one first
abbrev pub tables_of : Elements → Tables
tables_of [] = []
tables_of (e ∷ before) = with_made (tables_of before) (base_count before) e.user e.element
