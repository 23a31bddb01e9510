-- How a view is shown (own form): its columns, and a line for each of its rows, as the report has them.
use Rattle.std.specs.Prelude.{◌≡◌, ℕ, ◌++◌, List, [], codes, flat_map, Option, None, Some, Ok, Err}
use Rattle.sq_lex.specs.declared.name.Name.{Name}
use Rattle.sq_store.specs.Content.{Content}
use Rattle.sq_meaning.specs.Environment.{Row}
use Rattle.sq_meaning.specs.Report.{Bytes, blank_value}
use Rattle.sq_meaning.specs.Status.{Outcome}
use Rattle.sq_bound.specs.Known.{KnownTable}
use Rattle.sq_bound.specs.declared.condition.TablePlace.{TablePlace}
use Rattle.sq_bound.specs.declared.condition.TablePlace.TheVariants.{Base, View}
use Rattle.sq_catalog.specs.Catalog.{Catalog, known}
use Rattle.sq_query.specs.Table.{AreMeant}
use Rattle.sq_session.specs.Schemas.{Schemas, schemas_of}
use Rattle.sq_session.specs.Session.{Session}

-- two blanks before the first value, and one before each other
abbrev pub view_line : Row → Bytes
view_line row = codes " " ++ flat_map blank_value row ++ codes "\n"

-- where a query ends with a status, there is no row to show
abbrev pub rows_shown : Outcome (List Row) → List Row
rows_shown (Ok rows) = rows
rows_shown (Err st) = []

-- a heading is added, and behind it these rows
pub record AreAdded (rows : List Row) (old new : Bytes) : Type 0 where
  pub heading : Bytes
  pub added : new ≡ old ++ heading ++ flat_map view_line rows

-- The rows are those that the view at this place has for this user, over these stored tables (11.19).
pub record ShowsRead (s : Schemas) (stored : Content) (user : Name) (place : ℕ) (old new : Bytes) : Type 0 where
  pub outcome : Outcome (List Row)
  pub meant : (tables : TablePlace → Outcome (List Row)) → AreMeant s.views stored user tables
      → tables (View place) ≡ outcome
  pub added : AreAdded (rows_shown outcome) old new

abbrev pub ShowsAt : Session → Name → TablePlace → Bytes → Bytes → Type 0
ShowsAt s user (Base n) old new = new ≡ old
ShowsAt s user (View n) old new = ShowsRead s.schemas s.state.tables user n old new

-- nothing is added for what is no view
abbrev pub ShowsKnown : Session → Name → Option KnownTable → Bytes → Bytes → Type 0
ShowsKnown s user None old new = new ≡ old
ShowsKnown s user (Some t) old new = ShowsAt s user t.place old new

-- The view of this owner and name is shown, as its owner sees it.
pub record IsViewShown (s : Session) (user name : Name) (old new : Bytes) : Type 0 where
  pub catalog : Catalog
  pub schemas : schemas_of catalog ≡ s.schemas
  pub tables : catalog.tables ≡ s.tables
  pub shown : ShowsKnown s user (known catalog user name) old new
