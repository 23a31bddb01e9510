-- Where a text is read, by its names and by its places.
use Rattle.std.specs.Prelude.{false, List, map, None}
use Rattle.sq_meaning.specs.Status.{Outcome}
use Rattle.sq_meaning.specs.Environment.{Item, Row, TableName, TableReference}
use Rattle.sq_meaning.specs.Expression.{Reading}
use Rattle.sq_meaning.specs.Placed.{Placed, by_place}
use Rattle.sq_meaning.specs.Spelled.{Named}
use Rattle.sq_meaning.specs.Tables.{Tables, reading_by_name}
use Rattle.sq_bound.specs.Known.{KnownTable, KnownTables}
use Rattle.sq_bound.specs.declared.condition.TablePlace.{TablePlace}
use Rattle.sq_bound.specs.declared.names.ParameterDesc.{ParameterDesc}
use Rattle.sq_binding.specs.From.{NamedItem, NamedTables, item_over}
use Rattle.sq_binding.specs.Scope.{FromItem, Scope, item_named}
use Rattle.sq_binding.specs.Select.{Surroundings}
use Rattle.sq_binding.specs.Names.{declared, named_table, tables_of}

-- the tables and the rows of their names; what binding knows of the names, and the rows at the places that it gives them; and
-- the parameters of the procedure
pub record Setting : Type 0 where
  pub tables : Tables
  pub rows_of : TableName → Outcome (List Row)
  pub known : KnownTables
  pub shown : TablePlace → Outcome (List Row)
  pub parameters : List ParameterDesc

abbrev pub named : Setting → Reading Named
named s = reading_by_name s.tables s.rows_of

abbrev pub at_places : Setting → Reading (Placed TablePlace)
at_places s = by_place s.shown

-- what names of tables mean there
abbrev pub names_in : Setting → NamedTables
names_in s = tables_of s.known

-- a table that FROM names, as an item
abbrev pub known_item : TableReference → KnownTable → NamedItem
known_item r t = item_over r (named_table false false t)

abbrev pub items_named : List FromItem → List Item
items_named items = map item_named items

-- the scopes of queries with these items, of which each column may be read
abbrev pub scopes_with : List (List FromItem) → List Scope
scopes_with scopes = map (λ items. record { items = items; grouping = None }) scopes

-- what surrounds a text that stands in queries with these items
abbrev pub around : Setting → List (List FromItem) → Surroundings
around s scopes = record { names = names_in s; parameters = declared s.parameters; scopes = scopes_with scopes; functions_allowed = false }
