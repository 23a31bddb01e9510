-- CREATE TABLE (ISO/IEC 9075:1992, 11.3 to 11.9).
use Rattle.std.specs.Prelude.{ℕ, Bool, not, ◌&&◌, ◌||◌, List, [], ◌∷◌, ◌++◌, nat_le, nat_lt, is_some, length, map, Result, Ok, Err}
use Rattle.std.specs.List.{list_all, list_any}
use Rattle.sq_lex.specs.declared.name.Name.{Name}
use Rattle.sq_tree.specs.declared.cond.Cond.{Cond}
use Rattle.sq_tree.specs.declared.schema.TableDefinition.{TableDefinition}
use Rattle.sq_meaning.specs.Environment.{TableName}
use Rattle.sq_meaning.specs.Spelled.{cond_of, table_of}
use Rattle.sq_meaning.specs.Tables.{ColumnDescriptor}
use Rattle.sq_value.specs.Domain.{kind_of}
use Rattle.sq_meaning.specs.Schema as rules
use Rattle.sq_meaning.specs.Schema.{column_definitions, has_name_twice, table_columns, table_references}
use Rattle.sq_meaning.specs.SchemaRefusal.{same_user}
use Rattle.sq_meaning.specs.declared.refusal.SchemaFault.TheVariants as fault
use Rattle.sq_binding.specs.NumberedCondition.{NumberedCond}
use Rattle.sq_binding.specs.View.{CheckFault, check_bound}
use Rattle.sq_binding.specs.Catalog.{Catalog, DeclaredBase, entry, table_count}
use Rattle.sq_binding.specs.Column.{TypedColumn, declared_column, typed_column}
use Rattle.sq_binding.specs.Key.{has_bad_key, has_nullable, key_positions, primary_place}
use Rattle.sq_binding.specs.ElementOutcome.{Outcome, ◌>>=◌, ◌>>◌, each, refused_if}
use Rattle.sq_binding.specs.Reference.{FoundReference, ReferencedTable, bound_reference, found_reference, has_bad_list}

-- ---- the place of a table or view

-- a table or view of the user's own schema has the name
abbrev pub is_taken : Catalog → Name → TableName → Bool
is_taken c user t = same_user user t && is_some (entry c t)

-- the greatest number of tables and views (own rule)
abbrev pub most_tables : ℕ
most_tables = 1000

-- a table or view is in the schema of its user, and there is room for it
abbrev pub has_place : Catalog → Name → TableName → Outcome (Unit {0})
has_place c user t =
    refused_if fault.OtherSchema (not (same_user user t))
    >> refused_if fault.TooManyTables (nat_le most_tables (table_count c))

-- ---- the written parts

-- the columns of a table definition with their domains, its keys, and its references with their names found
pub record Draft : Type 0 where
  pub columns : List TypedColumn
  pub keys : List (List ℕ)
  pub references : List FoundReference

abbrev pub drafted : Catalog → Name → TableDefinition → Outcome Draft
drafted c user t = do
  refused_if fault.NameTwice (has_name_twice (table_columns t))
  keys ← key_positions t
  references ← each (found_reference c user (table_of user t.name) (table_columns t)) (table_references t)
  columns ← each typed_column (column_definitions t)
  Ok (record { columns = columns; keys = keys; references = references })

-- the draft of a table whose name is new
abbrev pub draft : Catalog → Name → TableDefinition → Outcome Draft
draft c user t = refused_if fault.NameTwice (is_taken c user (table_of user t.name)) >> drafted c user t

-- ---- the constraints on its rows

abbrev pub typed_descriptor : TypedColumn → ColumnDescriptor
typed_descriptor c = record { name = c.definition.name; kind = kind_of c.domain }

abbrev pub or_bad_check : Result NumberedCond CheckFault → Outcome NumberedCond
or_bad_check (Ok c) = Ok c
or_bad_check (Err f) = Err fault.BadCheck

-- a condition of CHECK sees the columns of the table alone
abbrev pub check_made : Name → TableName → List TypedColumn → Cond → Outcome NumberedCond
check_made user t columns condition =
    or_bad_check (check_bound t (map typed_descriptor columns) (cond_of user condition))

-- the table as its own references see it
abbrev pub own_table : Catalog → TableDefinition → Draft → ReferencedTable
own_table c t d = record {
  place = length c.bases;
  names = table_columns t;
  kinds = map (λ column. kind_of column.domain) d.columns;
  keys = d.keys;
  primary_key = primary_place t;
}

abbrev pub has_bad_lists : TableDefinition → Draft → Bool
has_bad_lists t d = has_bad_key t d.keys || list_any has_bad_list d.references

-- the greatest number of columns (own rule)
abbrev pub most_columns : ℕ
most_columns = 64

-- the base table of a draft
abbrev pub drafted_table : Catalog → Name → TableDefinition → Draft → Outcome DeclaredBase
drafted_table c user t d = do
  refused_if fault.NullableKey (list_any (has_nullable d.columns) d.keys)
  refused_if fault.BadKey (has_bad_lists t d)
  references ← each (bound_reference c user (own_table c t d)) d.references
  checks ← each (check_made user (table_of user t.name) d.columns) (rules.checks t)
  columns ← each declared_column d.columns
  refused_if fault.PrivilegeMissing (not (list_all (λ r. r.is_permitted) references))
  refused_if fault.TooManyColumns (nat_lt most_columns (length columns))
  has_place c user (table_of user t.name)
  Ok (record {
    name = table_of user t.name;
    place = length c.bases;
    columns = columns;
    keys = d.keys;
    primary_key = primary_place t;
    references = map (λ r. r.reference) references;
    checks = checks;
  })

-- the base table that a definition adds to a catalog
abbrev pub declared_table : Catalog → Name → TableDefinition → Outcome DeclaredBase
declared_table c user t = draft c user t >>= drafted_table c user t

abbrev pub with_base : Catalog → DeclaredBase → Catalog
with_base c b = record c { bases = c.bases ++ b ∷ [] }

abbrev pub create_table : Catalog → Name → TableDefinition → Outcome Catalog
create_table c user t = declared_table c user t >>= λ b. Ok (with_base c b)
