-- What a statement reads, by its names and by its places (ISO/IEC 9075:1992, 13.5 to 13.10).
use Rattle.std.proofs.Common.{◌≡◌, List, [], map, Some, refl, Ok}
use Rattle.std.specs.Prelude.{slice_get}
use Rattle.std.specs.List.{AllZip}
use Rattle.sq_lex.specs.declared.name.Name.{Name}
use Rattle.sq_tree.specs.declared.schema.ColumnDefinition.{ColumnDefinition}
use Rattle.sq_value.specs.declared.value.Value.{Value}
use Rattle.sq_meaning.specs.Assignment.{assigned}
use Rattle.sq_meaning.specs.Environment.{Env, TableName, outermost}
use Rattle.sq_meaning.specs.Tables.{TableDescriptor, column_names, descriptor_of}
use Rattle.sq_meaning.specs.Target.{Target, target_of}
use Rattle.sq_meaning.specs.Catalog.{column_domain}
use Rattle.sq_meaning.specs.Schema.{BaseTable, column_definitions}
use Rattle.sq_meaning.specs.Change as by_name
use Rattle.sq_meaning.specs.Change.{base_at, value_of_default, outer_env, reading_in, tables_in}
use Rattle.sq_bound.specs.Known.{KnownTable, KnownTables, under_of}
use Rattle.sq_bound.specs.declared.condition.BoundSpecification.{BoundSpecification}
use Rattle.sq_bound.specs.declared.names.BaseColumn.{BaseColumn}
use Rattle.sq_bound.specs.declared.names.BaseTable.{BaseTable as BoundTable}
use Rattle.sq_bound.specs.declared.names.Leaf.{Leaf}
use Rattle.sq_bound.specs.declared.names.ParameterDesc.{ParameterDesc}
use Rattle.sq_binding.specs.Names.{leaf_positions, meant_by}
use Rattle.sq_expression.specs.Frame.{inputs_of}
use Rattle.sq_change.specs.Made.{Seen, Shown, default_stored, seen_by}
use Rattle.sq_run.proofs.Places.Bound.{outside_seen}
use Rattle.sq_run.proofs.Places.Databases.{in_database}
use Rattle.sq_run.proofs.Places.Items.{names_of_columns}
use Rattle.sq_run.proofs.Changed.Levels.{IsTargetAs}
use Rattle.sq_run.proofs.Places.Parameters.{AreNamed}
use Rattle.sq_run.proofs.Places.Seen.{SeenEnv}
use Rattle.sq_run.proofs.Places.Setting.{Setting}

-- the values of a call's parameters
abbrev pub values_in : by_name.Setting → List Value
values_in m = map (λ i. i.value) m.inputs

-- what a statement by place reads, where by name it reads this
abbrev pub seen_in : by_name.Setting → List BoundSpecification → Seen
seen_in m queries = seen_by queries m.content m.user (values_in m)

-- Both readings together.
abbrev pub read_in : by_name.Setting → KnownTables → Shown → List ParameterDesc → Setting
read_in m known shown parameters = in_database (tables_in m) m.content m.user known shown parameters

-- where it stands, by place
abbrev pub outer_places : by_name.Setting → Env (Unit {0})
outer_places m = outermost (inputs_of (values_in m)) m.user

pub call_seen : (m : by_name.Setting) (parameters : List ParameterDesc) → AreNamed parameters m.inputs
    → SeenEnv parameters [] (outer_env m) (outer_places m)
call_seen m parameters names = outside_seen parameters m.inputs (values_in m) m.user names refl

-- ---- the table that changes

-- a column of a base table stores values of the domain that is written for it, and has the default that is written
pub record IsColumnAs (w : ColumnDefinition) (c : BaseColumn) : Type 0 where
  pub domain : column_domain w ≡ c.domain
  pub default : (user : Name) → assigned (column_domain w) (value_of_default user w.default) ≡ default_stored user c.domain c.default

-- Each written column of a table is the bound column at its place.
abbrev pub IsTableAs : BaseTable → BoundTable → Type 0
IsTableAs t b = AllZip IsColumnAs (column_definitions t.definition) b.columns

-- What the definitions find under the name of a table or updatable view, and what binding knows of it: its columns in their order, and
-- the base table and the conditions under it (which the catalog says, 11.3 and 11.19).
pub record IsTableIn (m : by_name.Setting) (known : KnownTables) (shown : Shown) (bases : List BoundTable) (name : TableName)
    (leaf : Leaf) : Type 0 where
  pub descriptor : TableDescriptor
  pub is_there : descriptor_of (tables_in m) name ≡ Ok descriptor
  pub target : Target
  pub means : target_of (tables_in m) name ≡ Ok target
  pub base : BaseTable
  pub is_base : base_at m target.place ≡ Ok base
  pub table : KnownTable
  pub is_known : meant_by known name ≡ Some table
  pub names : column_names descriptor ≡ names_of_columns table.columns
  pub under : IsTargetAs (reading_in m) shown bases m.content (outer_env m) (outer_places m) (leaf_positions table.columns)
      (under_of leaf) target
  pub base_is : IsTableAs base leaf.table
  pub stands : slice_get bases leaf.table.place ≡ Some leaf.table
