-- Schema elements, and the parts of a table definition (ISO/IEC 9075:1992, 5.4, 11.1 and 11.3 to 11.9).
use Rattle.std.specs.List.{list_any}
use Rattle.std.specs.Option.{option_or}
use Rattle.std.specs.Prelude.{ℕ, Bool, List, [], ◌∷◌, map, reverse, if◌then◌else◌, slice_get, position, filter_map, flat_map, Option, option_map, Some, None}
use Rattle.sq_lex.specs.declared.name.Name.{Name}
use Rattle.sq_tree.specs.declared.cond.Cond.{Cond}
use Rattle.sq_tree.specs.declared.schema.ColumnConstraint.{ColumnConstraint}
use Rattle.sq_tree.specs.declared.schema.ColumnConstraint.TheVariants as constraint
use Rattle.sq_tree.specs.declared.schema.ColumnDefinition.{ColumnDefinition}
use Rattle.sq_tree.specs.declared.schema.References.{References}
use Rattle.sq_tree.specs.declared.schema.SchemaElement.{SchemaElement}
use Rattle.sq_tree.specs.declared.schema.SchemaElement.TheVariants as element
use Rattle.sq_tree.specs.declared.schema.TableDefinition.{TableDefinition}
use Rattle.sq_tree.specs.declared.schema.TableElement.{TableElement}
use Rattle.sq_tree.specs.declared.schema.TableElement.TheVariants as table_element
use Rattle.sq_meaning.specs.Environment.{TableName, same_name, same_table}
use Rattle.sq_meaning.specs.Spelled.{listed, table_of}
use Rattle.sq_meaning.specs.Words.{has_twice}

-- a schema element, with the user of its schema definition
pub record Element : Type 0 where
  pub user : Name
  pub element : SchemaElement

-- The schema elements before some place of the texts, the last one first. The meaning of an element depends only on the
-- elements before it, so definitions go down this list.
abbrev pub Elements : Type 0
Elements = List Element

-- ---- names

abbrev pub is_among : List Name → Name → Bool
is_among names name = list_any (same_name name) names

abbrev pub has_name_twice : List Name → Bool
has_name_twice names = has_twice same_name names

-- the place of a name in a list of names, counted from 0
abbrev pub place_among : List Name → Name → Option ℕ
place_among names name = position (same_name name) names

-- ---- table definitions (11.3 to 11.9)

abbrev pub column_defined : TableElement → Option ColumnDefinition
column_defined (table_element.Column c) = Some c
column_defined _ = None

abbrev pub column_definitions : TableDefinition → List ColumnDefinition
column_definitions t = filter_map column_defined (listed t.elements)

abbrev pub table_columns : TableDefinition → List Name
table_columns t = map (λ c. c.name) (column_definitions t)

-- a table constraint; a column's own constraints are constraints of its table
pub data Constraint : Type 0 where
  not_null : Name → Constraint
  unique : List Name → Constraint
  primary_key : List Name → Constraint
  referential : List Name → References → Constraint
  check : Cond → Constraint

abbrev pub of_column : Name → ColumnConstraint → Constraint
of_column column constraint.NotNull = Constraint.not_null column
of_column column constraint.Unique = Constraint.unique (column ∷ [])
of_column column constraint.PrimaryKey = Constraint.primary_key (column ∷ [])
of_column column (constraint.References references) = Constraint.referential (column ∷ []) references
of_column column (constraint.Check condition) = Constraint.check condition

abbrev pub constraints_in : TableElement → List Constraint
constraints_in (table_element.Column c) = map (of_column c.name) c.constraints
constraints_in (table_element.Unique columns) = Constraint.unique (listed columns) ∷ []
constraints_in (table_element.PrimaryKey columns) = Constraint.primary_key (listed columns) ∷ []
constraints_in (table_element.ForeignKey key) =
    Constraint.referential (listed key.columns) key.references ∷ []
constraints_in (table_element.Check condition) = Constraint.check condition ∷ []

-- all constraints of a table, in the order of the text
abbrev pub constraints : TableDefinition → List Constraint
constraints t = flat_map constraints_in (listed t.elements)

abbrev pub null_refused : Constraint → Option Name
null_refused (Constraint.not_null column) = Some column
null_refused _ = None

abbrev pub key_columns : Constraint → Option (List Name)
key_columns (Constraint.unique columns) = Some columns
key_columns (Constraint.primary_key columns) = Some columns
key_columns _ = None

abbrev pub primary_columns : Constraint → Option (List Name)
primary_columns (Constraint.primary_key columns) = Some columns
primary_columns _ = None

-- the referencing columns, and the table and columns that they reference
pub record Reference : Type 0 where
  pub columns : List Name
  pub references : References

abbrev pub reference_in : Constraint → Option Reference
reference_in (Constraint.referential columns references) =
    Some (record { columns = columns; references = references })
reference_in _ = None

abbrev pub condition_in : Constraint → Option Cond
condition_in (Constraint.check condition) = Some condition
condition_in _ = None

abbrev pub not_null_columns : TableDefinition → List Name
not_null_columns t = filter_map null_refused (constraints t)

abbrev pub keys : TableDefinition → List (List Name)
keys t = filter_map key_columns (constraints t)

abbrev pub primary_keys : TableDefinition → List (List Name)
primary_keys t = filter_map primary_columns (constraints t)

abbrev pub table_references : TableDefinition → List Reference
table_references t = filter_map reference_in (constraints t)

abbrev pub checks : TableDefinition → List Cond
checks t = filter_map condition_in (constraints t)

-- the referenced columns: the written ones, or else the primary key (11.8)
abbrev pub referenced_columns : TableDefinition → References → Option (List Name)
referenced_columns target references =
    option_or (option_map listed references.columns) (slice_get (primary_keys target) 0)

-- ---- the tables and views of some elements

abbrev pub table_if_named : TableName → Name → SchemaElement → Option TableDefinition
table_if_named name user (element.Table t) = if same_table (table_of user t.name) name then Some t else None
table_if_named name user (element.View v) = None
table_if_named name user (element.Grant g) = None

abbrev pub table_named : Elements → TableName → Option TableDefinition
table_named elements name = slice_get (filter_map (λ e. table_if_named name e.user e.element) elements) 0

-- a base table, under its full name
pub record BaseTable : Type 0 where
  pub name : TableName
  pub definition : TableDefinition

abbrev pub base_table_of : Name → SchemaElement → Option BaseTable
base_table_of user (element.Table t) = Some (record { name = table_of user t.name; definition = t })
base_table_of user _ = None

-- the base tables in the order of the texts: the place of one is its place in the database
abbrev pub base_tables : Elements → List BaseTable
base_tables elements = reverse (filter_map (λ e. base_table_of e.user e.element) elements)

abbrev pub base_place : Elements → TableName → Option ℕ
base_place elements name = position (λ t. same_table t.name name) (base_tables elements)
