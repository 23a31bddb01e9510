-- The meanings of names in the texts of a user, as the definitions of binding see them (ISO/IEC 9075:1992, 5.4, 6.2 and 6.3). And the facts
-- known of the tables that they mean.
use Rattle.std.specs.Prelude.{◌≡◌, ℕ, Bool, false, List, [], map, slice_get, Option, Some, IfSome, Ok}
use Rattle.std.specs.List.{AllByRecursion}
use Rattle.std.specs.Option.{option_map, option_and_then}
use Rattle.sq_lex.specs.declared.name.Name.{Name}
use Rattle.sq_meaning.specs.Environment.{TableName}
use Rattle.sq_meaning.specs.Tables.{ColumnDescriptor, Declared}
use Rattle.sq_meaning.specs.Privilege.{Privilege}
use Rattle.sq_bound.specs.Known.{KnownTable, KnownTables, Under}
use Rattle.sq_bound.specs.WellFormed.{IsCondOn, TableKinds, base_kinds, kinds_of_columns}
use Rattle.sq_bound.specs.declared.condition.TablePlace.TheVariants.{Base}
use Rattle.sq_bound.specs.declared.names.BaseTable.{BaseTable}
use Rattle.sq_bound.specs.declared.names.Column.{Column}
use Rattle.sq_bound.specs.declared.names.ParameterDesc.{ParameterDesc}
use Rattle.sq_binding.specs.Changeable.{UnderTable, UserNames}
use Rattle.sq_binding.specs.From.{NamedTable, NamedTables}
use Rattle.sq_binding.specs.Select.{Surroundings}

abbrev pub descriptor_of : Column → ColumnDescriptor
descriptor_of c = record { name = c.name; kind = c.kind }

abbrev pub declared_of : ParameterDesc → Declared
declared_of p = record { name = p.name; domain = p.domain }

abbrev pub declared : List ParameterDesc → List Declared
declared parameters = map declared_of parameters

-- ---- tables

abbrev pub named_table : (may_select may_grant : Bool) → KnownTable → NamedTable
named_table may_select may_grant t = record {
  place = t.place;
  columns = map descriptor_of t.columns;
  may_select = may_select;
  may_grant = may_grant;
}

abbrev pub leaf_positions : List Column → List ℕ
leaf_positions columns = map (λ c. c.leaf_column) columns

-- the leaf under a table that may be changed, with the column of the base table that each column is
abbrev pub under_table : KnownTable → Option UnderTable
under_table t = option_map (λ u. record { leaf = u; columns = leaf_positions t.columns }) t.under

abbrev pub meant_by : KnownTables → TableName → Option KnownTable
meant_by known t = known t.user t.name

-- the tables, with the privileges that a user holds on them
abbrev pub named_tables : KnownTables → (selects grants : TableName → Bool) → NamedTables
named_tables known selects grants t = option_map (named_table (selects t) (grants t)) (meant_by known t)

-- the names of a user, who holds these privileges
abbrev pub user_names : Name → KnownTables → (selects grants : TableName → Bool)
    → (TableName → Privilege → Bool) → UserNames
user_names user known selects grants holds = record {
  user = user;
  tables = named_tables known selects grants;
  under = λ t. option_and_then under_table (meant_by known t);
  holds = holds;
}

-- Privileges have no bearing on a text with its names placed.
abbrev pub tables_of : KnownTables → NamedTables
tables_of known = named_tables known (λ t. false) (λ t. false)

-- the surroundings of a statement of a procedure with these parameters: it is in no query
abbrev pub outside : KnownTables → List ParameterDesc → Surroundings
outside known parameters = record {
  names = tables_of known;
  parameters = declared parameters;
  scopes = [];
  functions_allowed = false;
}

-- ---- the facts known of the tables

-- The leaf under a table with these columns: an existing base table, with well-formed conditions on its rows. The table's columns have the
-- kinds of the columns there that they are.
pub record StandsUnder (bases : List BaseTable) (kinds : TableKinds) (columns : List Column)
    (u : Under) : Type 0 where
  pub base : BaseTable
  pub is_base : slice_get bases u.base ≡ Some base
  pub kinds_are : kinds (Base u.base) ≡ Ok (base_kinds base)
  pub conditions : AllByRecursion (IsCondOn kinds base) u.conditions
  pub checks : AllByRecursion (IsCondOn kinds base) base.checks
  pub columns_are : AllByRecursion (λ c. slice_get (base_kinds base) c.leaf_column ≡ Some c.kind) columns

-- a table exists, and so does the leaf under it
pub record Stands (bases : List BaseTable) (kinds : TableKinds) (t : KnownTable) : Type 0 where
  pub kinds_are : kinds t.place ≡ Ok (kinds_of_columns t.columns)
  pub under : IfSome t.under (StandsUnder bases kinds t.columns)

-- the table that each name means exists
abbrev pub NamesMean : List BaseTable → TableKinds → KnownTables → Type 0
NamesMean bases kinds known = (t : TableName) → IfSome (meant_by known t) (Stands bases kinds)
