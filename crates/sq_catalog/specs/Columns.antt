-- The columns of a base table are those of its CREATE TABLE text (ISO/IEC 9075:1992, 11.3 to 11.5).
use Rattle.std.specs.Prelude.{◌≡◌, ◌≤◌, ℕ, List, [], ◌∷◌, flat_map, Option, None, Some, Ok}
use Rattle.std.specs.List.{AllZip, enumerate_from}
use Rattle.std.specs.Option.{option_map}
use Rattle.sq_tree.specs.declared.schema.ColumnDefinition.{ColumnDefinition}
use Rattle.sq_tree.specs.declared.schema.DefaultValue.{DefaultValue}
use Rattle.sq_tree.specs.declared.schema.DefaultValue.TheVariants as written
use Rattle.sq_tree.specs.declared.schema.TableDefinition.{TableDefinition}
use Rattle.sq_tree.specs.declared.schema.TableElement.{TableElement}
use Rattle.sq_tree.specs.declared.schema.TableElement.TheVariants as element
use Rattle.sq_value.specs.Domain.{domain_length, kind_of}
use Rattle.sq_value.specs.Storing.{stored}
use Rattle.sq_value.specs.declared.domain.Domain.{Domain}
use Rattle.sq_value.specs.declared.value.Value.{Value}
use Rattle.sq_value.specs.declared.value.Value.TheVariants.{Null, Num, Chars}
use Rattle.sq_meaning.specs.Spelled.{domain_of, listed, number_with_sign}
use Rattle.sq_bound.specs.declared.names.BaseColumn.{BaseColumn}
use Rattle.sq_bound.specs.declared.names.BaseTable.{BaseTable}
use Rattle.sq_bound.specs.declared.names.Column.{Column}
use Rattle.sq_bound.specs.declared.names.ColumnDefault.{ColumnDefault}
use Rattle.sq_bound.specs.declared.names.ColumnDefault.TheVariants as default
use Rattle.sq_catalog.specs.Written.{is_written_not_null}

-- the column definition that a table element is, if it is one
abbrev pub column_in : TableElement → List ColumnDefinition
column_in (element.Column w) = w ∷ []
column_in (element.Unique columns) = []
column_in (element.PrimaryKey columns) = []
column_in (element.ForeignKey key) = []
column_in (element.Check condition) = []

-- the column definitions of a table definition, in the order of the text
abbrev pub columns_written : TableDefinition → List ColumnDefinition
columns_written t = flat_map column_in (listed t.elements)

-- ---- as names see them

-- the column that a definition at a position writes: of that name, of the kind of its data type's domain, and at that position
pub record IsColumnOf (placed : ℕ × ColumnDefinition) (c : Column) : Type 0 where
  pub name : c.name ≡ placed.1.name
  pub kind : option_map kind_of (domain_of placed.1.data_type) ≡ Some c.kind
  pub place : c.leaf_column ≡ placed.0

-- the columns that these definitions write, each at its position
abbrev pub AreColumnsOf : List ColumnDefinition → List Column → Type 0
AreColumnsOf ws columns = AllZip IsColumnOf (enumerate_from 0 ws) columns

-- the columns of a table definition
abbrev pub HasColumnsOf : TableDefinition → List Column → Type 0
HasColumnsOf t columns = AreColumnsOf (columns_written t) columns

-- ---- as their table holds them

-- a default that is this value as a domain stores it
abbrev pub IsStoredAs : Domain → Value → ColumnDefault → Type 0
IsStoredAs d v (default.Value s) = stored d v ≡ Ok s
IsStoredAs d v default.User = ⊥

-- the default that is written for a column of a domain; without one it is null (11.5). USER needs 18 characters (own rule)
abbrev pub IsDefaultOf : Domain → Option DefaultValue → ColumnDefault → Type 0
IsDefaultOf d None c = c ≡ default.Value Null
IsDefaultOf d (Some written.Null) c = c ≡ default.Value Null
IsDefaultOf d (Some written.User) c = (c ≡ default.User) × (18 ≤ domain_length d)
IsDefaultOf d (Some (written.Number n)) c = IsStoredAs d (Num (number_with_sign n)) c
IsDefaultOf d (Some (written.Text t)) c = IsStoredAs d (Chars t) c

-- the column that a definition writes: in the domain of its data type, NOT NULL where that is written, and with its default
pub record IsBaseColumnOf (w : ColumnDefinition) (c : BaseColumn) : Type 0 where
  pub domain : domain_of w.data_type ≡ Some c.domain
  pub not_null : c.not_null ≡ is_written_not_null w
  pub default : IsDefaultOf c.domain w.default c.default

-- the columns that these definitions write, in their order
abbrev pub AreBaseColumnsOf : List ColumnDefinition → List BaseColumn → Type 0
AreBaseColumnsOf = AllZip IsBaseColumnOf

-- a base table with the columns of a table definition
abbrev pub HasBaseColumnsOf : TableDefinition → BaseTable → Type 0
HasBaseColumnsOf t b = AreBaseColumnsOf (columns_written t) b.columns
