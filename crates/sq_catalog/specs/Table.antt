-- The columns of a table definition with their domains (ISO/IEC 9075:1992, 11.4).
use Rattle.std.specs.Prelude.{◌≡◌, ℕ, Bool, not, length, List, map, nat_lt, Ok}
use Rattle.std.specs.List.{list_all, zip}
use Rattle.sq_lex.specs.declared.name.Name.{Name}
use Rattle.sq_value.specs.Domain.{kind_of}
use Rattle.sq_value.specs.declared.domain.Kind.{Kind}
use Rattle.sq_tree.specs.declared.cond.Cond.{Cond}
use Rattle.sq_tree.specs.declared.schema.ColumnDefinition.{ColumnDefinition}
use Rattle.sq_tree.specs.declared.schema.TableDefinition.{TableDefinition}
use Rattle.sq_meaning.specs.Environment.{TableName}
use Rattle.sq_meaning.specs.Spelled.{table_of}
use Rattle.sq_meaning.specs.Tables.{ColumnDescriptor}
use Rattle.sq_meaning.specs.Schema as rules
use Rattle.sq_meaning.specs.declared.refusal.SchemaFault.TheVariants as fault
use Rattle.sq_bound.specs.declared.names.BaseColumn.{BaseColumn}
use Rattle.sq_bound.specs.declared.condition.BoundCond.{BoundCond}
use Rattle.sq_bound.specs.declared.names.Column.{Column}
use Rattle.sq_binding.specs.NumberedCondition.{NumberedCond}
use Rattle.sq_binding.specs.Seen.{cond_seen}
use Rattle.sq_catalog.specs.Written.{is_written_not_null}
use Rattle.sq_binding.specs.Catalog.{Catalog, DeclaredBase, DeclaredColumn}
use Rattle.sq_binding.specs.Column as definition
use Rattle.sq_binding.specs.Column.{declared_column, typed_column}
use Rattle.sq_binding.specs.Key.{primary_place}
use Rattle.sq_binding.specs.ElementOutcome.{Outcome, ◌>>=◌, ◌>>◌, each, refused_if}
use Rattle.sq_binding.specs.Position.{positions_of}
use Rattle.sq_binding.specs.Reference.{FoundReference, bound_reference, found_reference}
use Rattle.sq_binding.specs.Table.{Draft, check_made, has_place, most_columns, own_table}
use Rattle.sq_catalog.specs.Checks.{check_over}
use Rattle.sq_binding.specs.Names.{descriptor_of}
use Rattle.sq_catalog.specs.Exact.{column_declared, name_in}
use Rattle.sq_catalog.specs.declared.catalog.FullName.{FullName}
use Rattle.sq_catalog.specs.declared.typed.TypedColumn.{TypedColumn}

-- the definitions of columns
abbrev pub typed_definitions : List TypedColumn → List ColumnDefinition
typed_definitions columns = map (λ c. c.definition.now) columns

-- the kinds of columns
abbrev pub typed_kinds : List TypedColumn → List Kind
typed_kinds columns = map (λ c. kind_of c.domain) columns

-- whether NOT NULL is written, column by column (11.4)
abbrev pub written_not_null : List TypedColumn → List Bool
written_not_null columns = map (λ c. is_written_not_null c.definition.now) columns

-- a column, as the definition has it
abbrev pub typed_seen : TypedColumn → definition.TypedColumn
typed_seen c = record { definition = c.definition.now; domain = c.domain }

-- columns as their table holds them, each with the name of its definition
abbrev pub held_declared : List TypedColumn → List BaseColumn → List DeclaredColumn
held_declared typed columns = map column_declared (zip (map (λ c. c.definition.now.name) typed) columns)

-- ---- steps of CREATE TABLE

-- the keys and the references of a table with columns of these names, with their names found
abbrev pub names_found : Catalog → Name → TableName → List Name → List (List Name) → List rules.Reference
    → Outcome (List (List ℕ) × List FoundReference)
names_found c user own names written references = do
  keys ← each (positions_of names) written
  found ← each (found_reference c user own names) references
  Ok (keys, found)

-- the conditions and the columns of a table
abbrev pub parts_made : Name → TableName → List ColumnDescriptor → List Cond → List definition.TypedColumn
    → Outcome (List NumberedCond × List DeclaredColumn)
parts_made user own descriptors conditions typed = do
  checks ← each (check_over user own descriptors) conditions
  columns ← each declared_column typed
  Ok (checks, columns)

-- the base table of a draft, and whether its user may make its references
abbrev pub base_made : Catalog → Name → TableDefinition → Draft → Outcome (DeclaredBase × Bool)
base_made c user t d = do
  references ← each (bound_reference c user (own_table c t d)) d.references
  checks ← each (check_made user (table_of user t.name) d.columns) (rules.checks t)
  columns ← each declared_column d.columns
  Ok (
    record {
      name = table_of user t.name;
      place = length c.bases;
      columns = columns;
      keys = d.keys;
      primary_key = primary_place t;
      references = map (λ r. r.reference) references;
      checks = checks;
    },
    list_all (λ r. r.is_permitted) references,
  )

-- what is asked last of a table: its privileges, how many columns it has, and room for one more table
abbrev pub rest_asked : Catalog → Name → TableName → ℕ → Bool → Outcome (Unit {0})
rest_asked c user own width permitted = do
  refused_if fault.PrivilegeMissing (not permitted)
  refused_if fault.TooManyColumns (nat_lt most_columns width)
  has_place c user own

-- the keys and the references with their names found, where no two columns have one name, and the columns with their domains
abbrev pub draft_made : Catalog → Name → TableName → List ColumnDefinition → List (List Name)
    → List rules.Reference → Outcome ((List (List ℕ) × List FoundReference) × List definition.TypedColumn)
draft_made c user own definitions written references = do
  found ← refused_if fault.NameTwice (rules.has_name_twice (map (λ w. w.name) definitions))
      >> names_found c user own (map (λ w. w.name) definitions) written references
  columns ← each typed_column definitions
  Ok (found, columns)

-- the conditions that a user writes on a table of this name with these columns, as they are bound
abbrev pub AreChecksMade : Name → FullName → List Column → List Cond → List BoundCond → Type 0
AreChecksMade user name columns conditions bound =
    each (check_over user (name_in name) (map descriptor_of columns)) conditions ≡ Ok (map cond_seen bound)
