-- The keys of a base table are those of its CREATE TABLE text (ISO/IEC 9075:1992, 11.7; 11.4 for those of columns).
use Rattle.std.specs.Prelude.{◌≡◌, ℕ, true, false, List, [], ◌∷◌, filter_map, flat_map, if◌then◌else◌, map, position, Option, None, Some}
use Rattle.std.specs.List.{AllZip}
use Rattle.sq_lex.specs.declared.name.Name.{Name}
use Rattle.sq_tree.specs.declared.schema.ColumnConstraint.{ColumnConstraint}
use Rattle.sq_tree.specs.declared.schema.ColumnConstraint.TheVariants as constraint
use Rattle.sq_tree.specs.declared.schema.TableDefinition.{TableDefinition}
use Rattle.sq_tree.specs.declared.schema.TableElement.{TableElement}
use Rattle.sq_tree.specs.declared.schema.TableElement.TheVariants as element
use Rattle.sq_meaning.specs.Spelled.{listed}
use Rattle.sq_meaning.specs.Environment.{same_name}
use Rattle.sq_catalog.specs.Columns.{columns_written}
use Rattle.sq_catalog.specs.declared.written.WrittenKey.{WrittenKey}

-- ---- as they are written

-- UNIQUE or PRIMARY KEY of one column (11.4)
abbrev pub key_of_column : Name → ColumnConstraint → List WrittenKey
key_of_column name constraint.NotNull = []
key_of_column name constraint.Unique = record { is_primary = false; columns = name ∷ [] } ∷ []
key_of_column name constraint.PrimaryKey = record { is_primary = true; columns = name ∷ [] } ∷ []
key_of_column name (constraint.References to) = []
key_of_column name (constraint.Check condition) = []

-- the keys that a table element writes: UNIQUE or PRIMARY KEY of a list of columns, or those of a column definition
abbrev pub keys_in : TableElement → List WrittenKey
keys_in (element.Column w) = flat_map (key_of_column w.name) w.constraints
keys_in (element.Unique columns) = record { is_primary = false; columns = listed columns } ∷ []
keys_in (element.PrimaryKey columns) = record { is_primary = true; columns = listed columns } ∷ []
keys_in (element.ForeignKey key) = []
keys_in (element.Check condition) = []

-- the keys of a table definition, in the order of the text
abbrev pub keys_written : TableDefinition → List WrittenKey
keys_written t = flat_map keys_in (listed t.elements)

-- ---- as their table holds them

-- the names of the columns of a table definition, in the order of the text
abbrev pub names_written : TableDefinition → List Name
names_written t = map (λ w. w.name) (columns_written t)

-- where a table has columns of the first names, those of the others stand at these positions
abbrev pub StandAt : List Name → List Name → List ℕ → Type 0
StandAt columns = AllZip (λ name place. position (same_name name) columns ≡ Some place)

-- the columns of each key stand at its positions
abbrev pub KeysStandAt : List Name → List WrittenKey → List (List ℕ) → Type 0
KeysStandAt columns = AllZip (λ key places. StandAt columns key.columns places)

-- the number of the key that is written PRIMARY KEY, if one is
abbrev pub primary_among : List WrittenKey → Option ℕ
primary_among keys = position (λ key. key.is_primary) keys

-- the columns of a key that is written PRIMARY KEY
abbrev pub primary_columns : WrittenKey → Option (List Name)
primary_columns key = if key.is_primary then Some key.columns else None

abbrev pub primaries : List WrittenKey → List (List Name)
primaries keys = filter_map primary_columns keys
