-- What schema texts declare: base tables with their columns, keys, references and conditions, views with their queries, and what names
-- of both mean (ISO/IEC 9075:1992, 11.3 to 11.9 and 11.19).
use Rattle.std.specs.Prelude.{◌≡◌, List, map}
use Rattle.std.specs.List.{AllZip}
use Rattle.sq_tree.specs.declared.schema.SchemaText.{SchemaText}
use Rattle.sq_bound.specs.Known.{KnownTables}
use Rattle.sq_bound.specs.declared.condition.BoundSpecification.{BoundSpecification}
use Rattle.sq_bound.specs.declared.names.BaseTable.{BaseTable}
use Rattle.sq_bound.specs.declared.names.Column.{Column}
use Rattle.sq_catalog.specs.Base.{AreBasesOf}
use Rattle.sq_catalog.specs.Catalog.{AreViewQueries, HaveReferences, SeenView, declared_definitions, declared_tables, meant}
use Rattle.sq_catalog.specs.Columns.{HasColumnsOf}
use Rattle.sq_catalog.specs.Views.{HasQueryKinds, HasQueryOf, IsSeenAs, declared_views, view_name}

-- The base tables of these texts are those that are written, with their references. The views have the queries that are written, and are
-- seen as they are written, where names of tables mean this: the base tables by their names, each at its place with its columns, and then
-- the views by theirs; no other name means anything. The queries are well formed, and the views' columns are of their kinds.
pub record Declares (texts : List SchemaText) (known : KnownTables) (bases : List BaseTable)
    (views : List BoundSpecification) : Type 0 where
  pub columns : List (List Column)
  pub columns_are : AllZip HasColumnsOf (declared_definitions texts) columns
  pub bases_are : AreBasesOf (declared_tables texts) (declared_definitions texts) bases
  pub references_are : HaveReferences (declared_tables texts) columns bases (declared_tables texts)
      (declared_definitions texts) bases
  pub seen : List SeenView
  pub seen_are : AllZip (IsSeenAs known) (declared_views texts) seen
  pub views_are : AllZip (HasQueryOf known) (declared_views texts) views
  pub kinds_are : AllZip HasQueryKinds seen views
  pub stand : AreViewQueries bases views
  pub names : known ≡ meant (declared_tables texts) columns (map view_name (declared_views texts)) seen
