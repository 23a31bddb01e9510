-- What a call may read: the views of a catalog stand in order, and while a call runs each parameter has a value of its kind.
use Rattle.std.proofs.Common.{ℕ, List, Option, Some, None, slice_get}
use Rattle.std.specs.Option.{option_map}
use Rattle.sq_lex.specs.declared.name.Name.{Name}
use Rattle.sq_value.specs.declared.domain.Kind.{Kind}
use Rattle.sq_value.specs.declared.value.Value.{Value}
use Rattle.sq_store.specs.Content.{Content}
use Rattle.sq_meaning.specs.Environment.{Row}
use Rattle.sq_meaning.specs.Status.{Outcome, well_formed}
use Rattle.sq_meaning.specs.WellFormed.{HasValue}
use Rattle.sq_bound.specs.Fits.{AreInDomains}
use Rattle.sq_bound.specs.WellFormed.{kinds_of_select}
use Rattle.sq_bound.specs.declared.condition.BoundSpecification.{BoundSpecification}
use Rattle.sq_bound.specs.declared.condition.TablePlace.{TablePlace}
use Rattle.sq_bound.specs.declared.condition.TablePlace.TheVariants.{View}
use Rattle.sq_catalog.specs.Catalog.{Catalog, bases_there, column_kinds}
use Rattle.sq_query.specs.MayRead.{MayRead}
use Rattle.sq_query.specs.Table.{AreMeant}
use Rattle.sq_query.proofs.Needs.MeantTables.{AreInOrder, tables_there, views_in_order}
use Rattle.sq_session.specs.Parameter.{AreGiven}
use Rattle.sq_session.specs.Schemas.{schemas_of}
use Rattle.sq_session.specs.Step.{HasTables}
use Rattle.sq_session.proofs.Parameters.Started.{given_row}

-- the columns of each view that is there are known
views_known : (c : Catalog) (place : ℕ) → HasValue (well_formed (slice_get c.views place)) → HasValue (column_kinds c (View place))
views_known c place h = known (slice_get c.views place) h
  where
    known : (found : Option BoundSpecification) → HasValue (well_formed found) → HasValue (well_formed (option_map kinds_of_select found))
    known None there = absurd there
    known (Some q) there = tt

in_order : (c : Catalog) → AreInOrder c.views
in_order c = views_in_order (column_kinds c) c.views c.stand (views_known c)

pub has_tables : (c : Catalog) (tables : Content) → HasTables (schemas_of c) tables
has_tables c tables = λ user. tables_there c.views tables user (in_order c)

module _ (c : Catalog) (tables : Content) (user : Name) (kinds : List Kind) (values : List Value) (given : AreGiven kinds values) (in_domains : AreInDomains c.bases tables) where
  -- these are the tables that a statement reads
  pub may_read : (shown : TablePlace → Outcome (List Row)) → AreMeant c.views tables user shown → MayRead c.bases c.views (column_kinds c) tables user values kinds shown
  may_read shown are = record { inputs = given_row kinds values given; there = bases_there c; in_domains = in_domains; meant = are }

  -- There are tables that a statement reads.
  pub some_tables : (shown : TablePlace → Outcome (List Row)) × MayRead c.bases c.views (column_kinds c) tables user values kinds shown
  some_tables =
      let there = has_tables c tables user in
      (there.0, may_read there.0 there.1)
