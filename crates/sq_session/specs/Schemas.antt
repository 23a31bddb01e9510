-- What schemas define (ISO/IEC 9075:1992, 11.3 and 11.19).
use Rattle.std.specs.Prelude.{List}
use Rattle.sq_bound.specs.WellFormed.{TableKinds}
use Rattle.sq_bound.specs.declared.condition.BoundSpecification.{BoundSpecification}
use Rattle.sq_bound.specs.declared.names.BaseTable.{BaseTable}
use Rattle.sq_catalog.specs.Catalog.{Catalog, kinds_at}

-- the base tables, and the queries of the views, each at its place
pub record Schemas : Type 0 where
  pub bases : List BaseTable
  pub views : List BoundSpecification

abbrev pub schemas_of : Catalog → Schemas
schemas_of c = record { bases = c.bases; views = c.views }

-- the kinds of the columns of each table and view
abbrev pub columns_of : Schemas → TableKinds
columns_of s = kinds_at s.bases s.views
