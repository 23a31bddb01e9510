-- What a catalog defines, and what schema texts declare (ISO/IEC 9075:1992, 11.1 and 11.3).
use Rattle.std.proofs.Common.{zero, suc, ap, arith}
use Rattle.std.specs.Prelude.{⊤, ◌≡◌, ℕ, ◌<◌, Bool, true, ◌&&◌, List, [], ◌∷◌, ◌++◌, length, flat_map, Ok, Option, None, Some, unwrap_or, nat_eq, position, slice_get}
use Rattle.std.proofs.Math.Logic.{∥∥₁_prop}
use Rattle.std.specs.Coded.{Π_prop}
use Rattle.std.specs.Option.{option_and_then, option_map}
use Rattle.std.specs.List.{AllZip}
use Rattle.std.specs.Cmp.Lexicographic.{pointwise}
use Rattle.sq_lex.specs.declared.name.Name.{Name}
use Rattle.sq_tree.specs.declared.names.TableName.{TableName}
use Rattle.sq_tree.specs.declared.schema.SchemaDefinition.{SchemaDefinition}
use Rattle.sq_tree.specs.declared.schema.SchemaElement.{SchemaElement}
use Rattle.sq_tree.specs.declared.schema.SchemaElement.TheVariants as element
use Rattle.sq_tree.specs.declared.schema.SchemaText.{SchemaText}
use Rattle.sq_tree.specs.declared.schema.TableDefinition.{TableDefinition}
use Rattle.sq_value.specs.declared.domain.Kind.{Kind}
use Rattle.sq_meaning.specs.Status.{well_formed}
use Rattle.sq_meaning.specs.WellFormed.{HasValue}
use Rattle.sq_bound.specs.Fits.{all_refer}
use Rattle.sq_bound.specs.Known.{KnownTable, KnownTables, Under}
use Rattle.sq_bound.specs.WellFormed.{BasesAreThere, IsViewQuery, TableKinds, base_kinds, kinds_of_select}
use Rattle.sq_bound.specs.declared.condition.BoundSpecification.{BoundSpecification}
use Rattle.sq_bound.specs.declared.condition.TablePlace.TheVariants.{Base, View}
use Rattle.sq_bound.specs.declared.names.BaseTable.{BaseTable}
use Rattle.sq_bound.specs.declared.names.Column.{Column}
use Rattle.sq_bound.specs.declared.names.TableDesc.{TableDesc}
use Rattle.sq_binding.specs.Catalog.{Grant}
use Rattle.sq_catalog.specs.Base.{AreBasesOf}
use Rattle.sq_catalog.specs.Columns.{HasColumnsOf}
use Rattle.sq_catalog.specs.References.{HasReferencesOf}
use Rattle.sq_catalog.specs.declared.catalog.FullName.{FullName}

-- the kinds of the columns of these base tables, and of views with these queries
abbrev pub kinds_at : List BaseTable → List BoundSpecification → TableKinds
kinds_at bases views (Base n) = well_formed (option_map base_kinds (slice_get bases n))
kinds_at bases views (View n) = well_formed (option_map kinds_of_select (slice_get views n))

-- each view's query is well formed over the tables that were there before
abbrev pub AreViewQueries : List BaseTable → List BoundSpecification → Type 0
AreViewQueries bases views =
    (place : ℕ) (kinds : List Kind) → kinds_at bases views (View place) ≡ Ok kinds
    → IsViewQuery (kinds_at bases views) views place kinds

pub AreViewQueries-prop : (bases : List BaseTable) (views : List BoundSpecification)
    → IsProp (AreViewQueries bases views)
AreViewQueries-prop bases views = Π_prop λ place. Π_prop λ kinds. Π_prop λ known. ∥∥₁_prop

-- a view as names see it: its columns, and what is under it, if it may be changed
pub record SeenView : Type 0 where
  pub columns : List Column
  pub under : Option Under

-- The users that have a schema; the base tables and the views that stand under names, in the order of the texts; and what is granted. Of
-- these the base tables' names, their columns and the base tables, as many of each and each at its place, with references to keys of base
-- tables alone; and the views' names, the views as names see them and their queries, likewise.
pub record Catalog : Type 0 where
  pub users : List Name
  pub base_entries : List (FullName × TableDesc)
  pub view_entries : List (FullName × TableDesc)
  pub grants : List Grant
  pub tables : List FullName
  pub columns : List (List Column)
  pub bases : List BaseTable
  pub view_names : List FullName
  pub seen_views : List SeenView
  pub views : List BoundSpecification
  pub described : nat_eq (length columns) (length tables) ≡ true
  pub counted : nat_eq (length bases) (length tables) ≡ true
  pub refer : all_refer bases ≡ true
  pub stand : AreViewQueries bases views

-- the kinds at the place of a base table are those of its columns
pub base_there : (c : Catalog) (place : ℕ) (b : BaseTable) → slice_get c.bases place ≡ Some b
    → kinds_at c.bases c.views (Base place) ≡ Ok (base_kinds b)
base_there c place b there = ap (λ found. well_formed (option_map base_kinds found)) there

-- the kinds of the columns of each table and view
abbrev pub column_kinds : Catalog → TableKinds
column_kinds c = kinds_at c.bases c.views

-- a place at which something stands is within the list
pub there_within : {A : Type 0} (xs : List A) (place : ℕ) → HasValue (well_formed (slice_get xs place))
    → place < length xs
there_within [] place h = absurd h
there_within (x ∷ xs) zero h = omega arith
there_within (x ∷ xs) (suc place) h = omega (arith, there_within xs place h)

pub known_there : {A : Type 0} (f : A → List Kind) (o : Option A) → HasValue (well_formed (option_map f o))
    → HasValue (well_formed o)
known_there f None h = absurd h
known_there f (Some x) h = tt

-- each base table whose columns are known is one of the catalog's
pub bases_there : (c : Catalog) → BasesAreThere c.bases (column_kinds c)
bases_there c place h = there_within c.bases place (known_there base_kinds (slice_get c.bases place) h)

abbrev pub is_table : Name → Name → FullName → Bool
is_table user name t = pointwise nat_eq user t.user && pointwise nat_eq name t.name

-- the place of the table of this owner and name
abbrev pub table_number : List FullName → Name → Name → Option ℕ
table_number tables user name = position (is_table user name) tables

-- a base table is under itself
abbrev pub itself : ℕ → Under
itself place = record { base = place; conditions = []; demanded = 0 }

-- what a name means that the base table at a place has, with these columns, and one that the view at a place has
abbrev pub base_meant : ℕ → List Column → KnownTable
base_meant place columns = record { place = Base place; columns = columns; under = Some (itself place) }

abbrev pub view_meant : ℕ → SeenView → KnownTable
view_meant place v = record { place = View place; columns = v.columns; under = v.under }

-- what the name of the table at a number means
abbrev pub known_at : {A : Type 0} → (ℕ → A → KnownTable) → List A → Option ℕ → Option KnownTable
known_at meant all number = option_and_then (λ n. option_map (meant n) (slice_get all n)) number

abbrev pub known_first : Option KnownTable → Option KnownTable → Option KnownTable
known_first None other = other
known_first (Some t) other = Some t

-- what an owner and a name mean, where these are the base tables with their columns, and the views: a base table, or a view
abbrev pub meant : List FullName → List (List Column) → List FullName → List SeenView → KnownTables
meant tables columns views seen user name =
    known_first (known_at base_meant columns (table_number tables user name))
    (known_at view_meant seen (table_number views user name))

abbrev pub known : Catalog → KnownTables
known c = meant c.tables c.columns c.view_names c.seen_views

-- no table and no view has the name (11.3, 11.19)
abbrev pub IsNewName : Catalog → FullName → Type 0
IsNewName c name =
    (table_number c.tables name.user name.name ≡ None)
    × (table_number c.view_names name.user name.name ≡ None)

-- ---- the base tables of schema texts, in the order of the texts

-- a table's full name: an unqualified one is in the user's own schema (5.4)
abbrev pub named_by : Name → TableName → FullName
named_by user written = record { user = unwrap_or written.schema user; name = written.table }

-- the base table that an element of this user's schema creates
abbrev pub table_in : Name → SchemaElement → List FullName
table_in user (element.Table t) = named_by user t.name ∷ []
table_in user (element.View v) = []
table_in user (element.Grant g) = []

abbrev pub schema_tables : SchemaDefinition → List FullName
schema_tables d = flat_map (table_in d.authorization) d.elements

abbrev pub text_tables : SchemaText → List FullName
text_tables t = flat_map schema_tables (t.first ∷ t.rest)

abbrev pub declared_tables : List SchemaText → List FullName
declared_tables texts = flat_map text_tables texts

-- ---- their definitions, in the same order

-- the table definition that a schema element is, if it is one
abbrev pub definition_in : SchemaElement → List TableDefinition
definition_in (element.Table t) = t ∷ []
definition_in (element.View v) = []
definition_in (element.Grant g) = []

abbrev pub schema_definitions : SchemaDefinition → List TableDefinition
schema_definitions d = flat_map definition_in d.elements

abbrev pub text_definitions : SchemaText → List TableDefinition
text_definitions t = flat_map schema_definitions (t.first ∷ t.rest)

abbrev pub declared_definitions : List SchemaText → List TableDefinition
declared_definitions texts = flat_map text_definitions texts

-- ---- their references

-- the number of the base table that a name in a text of a user means
abbrev pub number_meant : List FullName → Name → TableName → Option ℕ
number_meant tables user written =
    table_number tables (named_by user written).user (named_by user written).name

-- Base tables of these names have the references of these definitions, to base tables among all. (An unqualified name is in the schema in
-- which the table stands.)
abbrev pub HaveReferences : List FullName → List (List Column) → List BaseTable → List FullName
    → List TableDefinition → List BaseTable
    → Type 0
HaveReferences tables columns all [] [] [] = ⊤
HaveReferences tables columns all (name ∷ names) (t ∷ definitions) (b ∷ bases) =
    HasReferencesOf (number_meant tables name.user) columns all t b
    × HaveReferences tables columns all names definitions bases
HaveReferences _ _ _ _ _ _ = ⊥

-- ---- a catalog that grows

-- base tables of these names, with these columns as names see them, are added behind the others
pub record Adds (old new : Catalog) (names : List FullName) (described : List (List Column))
    (added : List BaseTable) : Type 0 where
  pub tables : new.tables ≡ old.tables ++ names
  pub columns : new.columns ≡ old.columns ++ described
  pub bases : new.bases ≡ old.bases ++ added

-- base tables of these names are added, each that of its definition, with its references
pub record Gains (old new : Catalog) (names : List FullName)
    (definitions : List TableDefinition) : Type 0 where
  pub columns : List (List Column)
  pub bases : List BaseTable
  pub added : Adds old new names columns bases
  pub columns_are : AllZip HasColumnsOf definitions columns
  pub bases_are : AreBasesOf names definitions bases
  pub references_are : HaveReferences new.tables new.columns new.bases names definitions bases
  pub count : length bases ≡ length names
