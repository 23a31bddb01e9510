-- The tables that a query reads, as they were read (ISO/IEC 9075:1992, 11.19).
use Rattle.std.specs.Prelude.{◌≡◌, ◌<◌, nat_eq, true, List, length}
use Rattle.std.specs.List.{AllByRecursion, list_any}
use Rattle.sq_lex.specs.declared.name.Name.{Name}
use Rattle.sq_store.specs.Content.{Content, table_at}
use Rattle.sq_meaning.specs.Environment.{Row}
use Rattle.sq_meaning.specs.Status.{Outcome}
use Rattle.sq_meaning.specs.Tables.{rows_in}
use Rattle.sq_meaning.specs.WellFormed.{HasValue}
use Rattle.sq_bound.specs.Fits.{AreInDomains}
use Rattle.sq_bound.specs.WellFormed.{TableKinds}
use Rattle.sq_bound.specs.declared.condition.BoundSpecification.{BoundSpecification}
use Rattle.sq_bound.specs.declared.condition.TablePlace.{TablePlace}
use Rattle.sq_bound.specs.declared.condition.TablePlace.TheVariants.{Base, View}
use Rattle.sq_bound.specs.declared.names.BaseTable.{BaseTable}
use Rattle.sq_expression.specs.Frame.{lent, view_outcome}
use Rattle.sq_expression.specs.declared.table.BaseRows.{BaseRows}
use Rattle.sq_expression.specs.declared.table.ViewRows.{ViewRows}
use Rattle.sq_query.specs.Table.{AreMeant}
use Rattle.sq_ending.specs.declared.read.Tables.{Tables}

-- a table was read
abbrev pub IsThere : Tables → TablePlace → Type 0
IsThere read (Base place) = list_any (λ b. nat_eq b.place place) read.bases.items ≡ true
IsThere read (View place) = list_any (λ v. nat_eq v.place place) read.views.items ≡ true

-- each table that was read before still is
abbrev pub HasMore : Tables → Tables → Type 0
HasMore before after = (t : TablePlace) → IsThere before t → IsThere after t

-- what is known of the schemas: the base tables, the queries of the views, and the kinds of the columns
pub record Known : Type 0 where
  pub bases : List BaseTable
  pub queries : List BoundSpecification
  pub columns : TableKinds

abbrev pub known_by : List BaseTable → List BoundSpecification → TableKinds → Known
known_by bases queries columns = record { bases = bases; queries = queries; columns = columns }

-- where the store has this base table, these are its rows
abbrev pub AreStored : Content → BaseRows → Type 0
AreStored content base =
    base.place < length content → lent base.rows.items ≡ rows_in (table_at content base.place)

-- whatever the tables mean, a known view has these rows, or its query ends with this status
abbrev pub AreShown : Known → Content → Name → ViewRows → Type 0
AreShown known content user view =
    AreInDomains known.bases content → (tables : TablePlace → Outcome (List Row))
    → AreMeant known.queries content user tables → HasValue (known.columns (View view.place))
    → view_outcome view.rows.items view.failure ≡ tables (View view.place)

-- all that was read is right
pub record AreRight (known : Known) (content : Content) (user : Name) (read : Tables) : Type 0 where
  pub bases : AllByRecursion (AreStored content) read.bases.items
  pub views : AllByRecursion (AreShown known content user) read.views.items
