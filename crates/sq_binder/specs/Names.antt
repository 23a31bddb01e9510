-- The meanings of names of tables in the texts of a user, if tables may be changed (ISO/IEC 9075:1992, 7.9 and 10.3). They say the
-- leaf under each of them, and who may change it.
use Rattle.std.specs.Prelude.{◌≡◌, Bool, List, map, Option, Some, IfSome}
use Rattle.std.specs.Option.{option_map}
use Rattle.sq_lex.specs.declared.name.Name.{Name}
use Rattle.sq_meaning.specs.Environment.{TableName}
use Rattle.sq_meaning.specs.Privilege as rules
use Rattle.sq_bound.specs.Fits.{IsBase}
use Rattle.sq_bound.specs.Known.{under_of}
use Rattle.sq_bound.specs.declared.names.BaseTable.{BaseTable}
use Rattle.sq_bound.specs.declared.names.Column.{Column}
use Rattle.sq_bound.specs.declared.names.Leaf.{Leaf}
use Rattle.sq_binding.specs.Changeable.{UnderTable, UserNames}
use Rattle.sq_binding.specs.From.{NamedTables}
use Rattle.sq_binder.specs.declared.surroundings.Surroundings.{Surroundings}
use Rattle.sq_binder.specs.declared.names.Privilege.{Privilege}
use Rattle.sq_binder.specs.declared.names.Privilege.TheVariants as privilege
use Rattle.sq_binder.specs.declared.under.UnderTable.{UnderTable as FoundUnder}

-- Rows of a base table, and the columns of the table that is over it. Each comes with the column of the base table that it is.
pub record Beneath : Type 0 where
  pub leaf : Leaf
  pub columns : List Column

abbrev pub under_table : Beneath → UnderTable
under_table b = record { leaf = under_of b.leaf; columns = map (λ c. c.leaf_column) b.columns }

-- the leaf under each table that may be changed, and the privileges that the user holds
pub record Changes : Type 0 where
  pub beneath : TableName → Option Beneath
  pub holds : TableName → rules.Privilege → Bool

abbrev pub user_names : Name → NamedTables → Changes → UserNames
user_names user tables changes = record {
  user = user;
  tables = tables;
  under = λ t. option_map under_table (changes.beneath t);
  holds = changes.holds;
}

-- the meanings of names of tables to the user of a text
abbrev pub names_at : {T : Type 0} → (T → NamedTables) → (T → Changes) → Surroundings T → UserNames
names_at named changes at = user_names at.environment.now.user (named at.tables.now) (changes at.tables.now)

-- these rows of a base table are under the table of a name
abbrev pub IsUnder : Changes → TableName → Leaf → Type 0
IsUnder changes t leaf = option_map (λ b. b.leaf) (changes.beneath t) ≡ Some leaf

-- each table that may be changed is over an existing base table
abbrev pub AreOverBases : List BaseTable → Changes → Type 0
AreOverBases bases changes = (t : TableName) → IfSome (changes.beneath t) (λ b. IsBase bases b.leaf.table)

-- ---- the parts that the definitions see

abbrev pub beneath_of : FoundUnder → Beneath
beneath_of u = record { leaf = u.leaf.now; columns = u.columns.now }

abbrev pub privilege_of : Privilege → rules.Privilege
privilege_of privilege.Select = rules.Privilege.select
privilege_of privilege.Insert = rules.Privilege.insert
privilege_of privilege.Delete = rules.Privilege.delete
privilege_of (privilege.Update column) = rules.Privilege.update column
