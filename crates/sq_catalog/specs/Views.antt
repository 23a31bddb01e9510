-- Views are those of their CREATE VIEW texts (ISO/IEC 9075:1992, 11.19).
use Rattle.std.specs.Prelude.{◌≡◌, ◌++◌, if◌then◌else◌, length, List, [], ◌∷◌, flat_map, map, Option, None, Some, IfSome, Ok}
use Rattle.std.specs.List.{AllZip}
use Rattle.sq_lex.specs.declared.name.Name.{Name}
use Rattle.sq_tree.specs.declared.list.CommaList.{CommaList}
use Rattle.sq_tree.specs.declared.schema.SchemaDefinition.{SchemaDefinition}
use Rattle.sq_tree.specs.declared.schema.SchemaElement.{SchemaElement}
use Rattle.sq_tree.specs.declared.schema.SchemaElement.TheVariants as element
use Rattle.sq_tree.specs.declared.schema.SchemaText.{SchemaText}
use Rattle.sq_tree.specs.declared.schema.ViewDefinition.{ViewDefinition}
use Rattle.sq_meaning.specs.Spelled.{listed, select_of}
use Rattle.sq_meaning.specs.Status.{Outcome}
use Rattle.sq_bound.specs.Known.{KnownTables, StillKnown, Under}
use Rattle.sq_bound.specs.WellFormed.{kinds_of_columns, kinds_of_select}
use Rattle.sq_bound.specs.declared.condition.BoundSpecification.{BoundSpecification}
use Rattle.sq_bound.specs.declared.names.Column.{Column}
use Rattle.sq_bound.specs.declared.names.TableDesc.{TableDesc}
use Rattle.sq_bound.specs.declared.query.UpdatableQuery.{UpdatableQuery}
use Rattle.sq_binding.specs.PlacedQuery.{select_placed}
use Rattle.sq_binding.specs.ColumnNames.{names_placed}
use Rattle.sq_binding.specs.Names.{outside, tables_of}
use Rattle.sq_binding.specs.Written.{IsUpdatableOf, SelectIs}
use Rattle.sq_catalog.specs.Catalog.{Catalog, SeenView, known, named_by}
use Rattle.sq_catalog.specs.Stored.{query_in, seen}
use Rattle.sq_catalog.specs.View.{conditions_with}
use Rattle.sq_catalog.specs.declared.catalog.FullName.{FullName}

-- a view definition, and the user in whose schema it stands
pub record WrittenView : Type 0 where
  pub user : Name
  pub view : ViewDefinition

abbrev pub view_name : WrittenView → FullName
view_name w = named_by w.user w.view.name

-- ---- the views of schema texts, in the order of the texts

abbrev pub view_in : Name → SchemaElement → List WrittenView
view_in user (element.Table t) = []
view_in user (element.View v) = record { user = user; view = v } ∷ []
view_in user (element.Grant g) = []

abbrev pub schema_views : SchemaDefinition → List WrittenView
schema_views d = flat_map (view_in d.authorization) d.elements

abbrev pub text_views : SchemaText → List WrittenView
text_views t = flat_map schema_views (t.first ∷ t.rest)

abbrev pub declared_views : List SchemaText → List WrittenView
declared_views texts = flat_map text_views texts

-- ---- what a view is

-- a view's query is the text's, where names of tables mean this: it has no parameters, and is in no query
abbrev pub HasQueryOf : KnownTables → WrittenView → BoundSpecification → Type 0
HasQueryOf known w q = SelectIs (select_placed (outside known []) (select_of w.user w.view.query)) q

abbrev pub names_written : KnownTables → WrittenView → Outcome (List (Option Name))
names_written known w = names_placed (tables_of known) (select_of w.user w.view.query)

-- a view's columns have the names that are listed, or those of the query's columns
abbrev pub column_names : Option (CommaList Name) → Outcome (List (Option Name))
    → Outcome (List (Option Name))
column_names None names = names
column_names (Some list) names = Ok (map (λ n. Some n) (listed list))

abbrev pub HasNamesOf : KnownTables → WrittenView → List Column → Type 0
HasNamesOf known w columns =
    column_names w.view.columns (names_written known w) ≡ Ok (map (λ c. Some c.name) columns)

-- What is under a view that may be changed: the base table under the table of its query, and behind the conditions in between its own.
-- New and changed rows have to meet all of them where the check option is written, and else those that they have to meet below. Each
-- column is the one of the base table that the query shows (7.9, 11.19).
pub record IsUnderView (known : KnownTables) (w : WrittenView) (columns : List Column)
    (under : Under) : Type 0 where
  pub over : UpdatableQuery
  pub is_over : IsUpdatableOf known [] (select_of w.user w.view.query) over
  pub base : under.base ≡ over.target.leaf.table.place
  pub conditions : under.conditions ≡ conditions_with over.target.leaf.conditions over.target.condition
  pub demanded : under.demanded
      ≡ (if w.view.check_option then length under.conditions else over.target.leaf.demanded)
  pub shows : map (λ c. c.leaf_column) columns ≡ over.columns

-- a view is seen as it is written: the names of its columns, and what is under it, if it may be changed
pub record IsSeenAs (known : KnownTables) (w : WrittenView) (v : SeenView) : Type 0 where
  pub names : HasNamesOf known w v.columns
  pub under : IfSome v.under (IsUnderView known w v.columns)

-- a view's columns are of the kinds of its query's columns
abbrev pub HasQueryKinds : SeenView → BoundSpecification → Type 0
HasQueryKinds v q = kinds_of_columns v.columns ≡ kinds_of_select q

-- a description of a table is the view that is written
pub record IsViewOf (known : KnownTables) (w : WrittenView) (t : TableDesc) : Type 0 where
  pub is_seen : IsSeenAs known w (seen t)
  pub query : BoundSpecification
  pub stands_for : query_in t.body ≡ query ∷ []
  pub is_written : HasQueryOf known w query

-- ---- a catalog that grows

-- views of these names, seen as these, with these queries, are added behind the others
pub record AddsViews (old new : Catalog) (names : List FullName) (seen : List SeenView)
    (added : List BoundSpecification) : Type 0 where
  pub view_names : new.view_names ≡ old.view_names ++ names
  pub seen_views : new.seen_views ≡ old.seen_views ++ seen
  pub views : new.views ≡ old.views ++ added

-- these views are added behind the others
pub record GainsViews (old new : Catalog) (views : List WrittenView) : Type 0 where
  pub seen : List SeenView
  pub queries : List BoundSpecification
  pub added : AddsViews old new (map view_name views) seen queries
  pub still : StillKnown (known old) (known new)
  pub seen_are : AllZip (IsSeenAs (known new)) views seen
  pub queries_are : AllZip (HasQueryOf (known new)) views queries
  pub kinds_are : AllZip HasQueryKinds seen queries
