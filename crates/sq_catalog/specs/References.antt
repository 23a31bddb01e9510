-- The references of a base table are those of its CREATE TABLE text (ISO/IEC 9075:1992, 11.8; of a column, 11.4).
use Rattle.std.specs.Prelude.{⊤, ◌≡◌, ℕ, nat_eq, Bool, ◌&&◌, List, [], ◌∷◌, flat_map, length, map, position, slice_get, Option, None, Some, unwrap_or}
use Rattle.std.specs.List.{AllZip, list_all, list_any}
use Rattle.std.specs.Option.{option_and_then}
use Rattle.sq_lex.specs.declared.name.Name.{Name}
use Rattle.sq_tree.specs.declared.list.CommaList.{CommaList}
use Rattle.sq_tree.specs.declared.names.TableName.{TableName}
use Rattle.sq_tree.specs.declared.schema.ColumnConstraint.{ColumnConstraint}
use Rattle.sq_tree.specs.declared.schema.ColumnConstraint.TheVariants as constraint
use Rattle.sq_tree.specs.declared.schema.References.{References}
use Rattle.sq_tree.specs.declared.schema.TableDefinition.{TableDefinition}
use Rattle.sq_tree.specs.declared.schema.TableElement.{TableElement}
use Rattle.sq_tree.specs.declared.schema.TableElement.TheVariants as element
use Rattle.sq_meaning.specs.Spelled.{listed}
use Rattle.sq_store.specs.Keys.{Keys}
use Rattle.sq_bound.specs.declared.names.BaseTable.{BaseTable}
use Rattle.sq_bound.specs.declared.names.Column.{Column}
use Rattle.sq_bound.specs.declared.names.Reference.{Reference}
use Rattle.sq_catalog.specs.Keys.{StandAt, names_written}

-- ---- as they are written

-- a referential constraint: its referencing columns, and its references specification
pub record ReferentialConstraint : Type 0 where
  pub columns : List Name
  pub to : References

-- REFERENCES of a column is a constraint on this column alone (11.4)
abbrev pub reference_on : Name → ColumnConstraint → List ReferentialConstraint
reference_on name constraint.NotNull = []
reference_on name constraint.Unique = []
reference_on name constraint.PrimaryKey = []
reference_on name (constraint.References to) = record { columns = name ∷ []; to = to } ∷ []
reference_on name (constraint.Check condition) = []

-- the referential constraints that a table element writes
abbrev pub references_in : TableElement → List ReferentialConstraint
references_in (element.Column w) = flat_map (reference_on w.name) w.constraints
references_in (element.Unique columns) = []
references_in (element.PrimaryKey columns) = []
references_in (element.ForeignKey key) = record { columns = listed key.columns; to = key.references } ∷ []
references_in (element.Check condition) = []

-- the referential constraints of a table definition, in the order of the text
abbrev pub references_written : TableDefinition → List ReferentialConstraint
references_written t = flat_map references_in (listed t.elements)

-- ---- the columns that are listed

-- where a table has columns of the first names, those that are listed stand at these positions; where none are listed, there are none
abbrev pub AreListed : List Name → Option (CommaList Name) → Option (List ℕ) → Type 0
AreListed columns None None = ⊤
AreListed columns None (Some positions) = ⊥
AreListed columns (Some list) None = ⊥
AreListed columns (Some list) (Some positions) = StandAt columns (listed list) positions

-- ---- the key that is referenced

-- each column of a key is listed
abbrev pub are_listed : List ℕ → List ℕ → Bool
are_listed listed key = list_all (λ column. list_any (λ other. nat_eq other column) listed) key

-- a key has the columns that are listed and no others, in any order
abbrev pub is_key_of : List ℕ → List ℕ → Bool
is_key_of listed key = are_listed listed key && are_listed key listed

-- the first key that has the columns that are listed; where none are listed, the primary key
abbrev pub key_referenced : Keys → Option ℕ → Option (List ℕ) → Option ℕ
key_referenced keys primary None = primary
key_referenced keys primary (Some listed) = position (is_key_of listed) keys

-- the referencing column that has the place of a referenced one
abbrev pub paired_with : List ℕ → List ℕ → ℕ → Option ℕ
paired_with referenced referencing column =
    option_and_then (λ place. slice_get referencing place)
    (position (λ other. nat_eq other column) referenced)

-- A reference is to that key of a table with these keys. Its columns as they are listed, or else in their own order, are paired with as
-- many referencing columns, each with the one that has its place.
pub record IsToKey (keys : Keys) (primary : Option ℕ) (listed : Option (List ℕ))
    (r : Reference) : Type 0 where
  pub key_is : key_referenced keys primary listed ≡ Some r.key
  pub key : List ℕ
  pub there : slice_get keys r.key ≡ Some key
  pub as_many : length r.columns ≡ length (unwrap_or listed key)
  pub paired : map (paired_with (unwrap_or listed key) r.columns) key ≡ map (λ own. Some own) r.by_key

-- ---- the references of a base table

-- A reference is the one that a constraint writes, in a table with columns of these names: to the base table of the number that the name
-- means, of which the columns as names see them have the names that are listed.
pub record IsReferenceOf (number : TableName → Option ℕ) (columns : List (List Column))
    (bases : List BaseTable)
    (own : List Name) (w : ReferentialConstraint) (r : Reference) : Type 0 where
  pub referencing : StandAt own w.columns r.columns
  pub table : number w.to.table ≡ Some r.table
  pub described : List Column
  pub columns_are : slice_get columns r.table ≡ Some described
  pub referenced : BaseTable
  pub base_is : slice_get bases r.table ≡ Some referenced
  pub listed : Option (List ℕ)
  pub listed_are : AreListed (map (λ c. c.name) described) w.to.columns listed
  pub to_key : IsToKey referenced.keys referenced.primary_key listed r

-- a base table has the references of a table definition, in the order of the text, where names of tables mean these numbers
abbrev pub HasReferencesOf : (TableName → Option ℕ) → List (List Column) → List BaseTable → TableDefinition
    → BaseTable → Type 0
HasReferencesOf number columns bases t b =
    AllZip (IsReferenceOf number columns bases (names_written t)) (references_written t) b.references
