-- The names of the columns of a query specification (ISO/IEC 9075:1992, 7.9).
use Rattle.std.specs.Prelude.{List, map, Option, Some, Ok}
use Rattle.std.specs.List.{flat_map}
use Rattle.sq_lex.specs.declared.name.Name.{Name}
use Rattle.sq_meaning.specs.SortKeys.{item_name}
use Rattle.sq_meaning.specs.Spelled.{Named}
use Rattle.sq_meaning.specs.Status.{Outcome, each, ◌>>=◌}
use Rattle.sq_meaning.specs.Syntax.{SelectList, all_columns, expressions, Select, select}
use Rattle.sq_binding.specs.From.{NamedTables, items_of}
use Rattle.sq_binding.specs.PlacedQuery.{item_placed}
use Rattle.sq_binding.specs.Scope.{FromItem}

abbrev pub item_names : FromItem → List (Option Name)
item_names item = map (λ c. Some c.name) item.columns

-- `*` has the names of all columns of all items, and an expression has a name if it is a column reference alone
abbrev pub list_names : List FromItem → SelectList Named → List (Option Name)
list_names items all_columns = flat_map item_names items
list_names items (expressions es) = map item_name es

-- the names of a query specification's columns: the names of its select list, over the items of its FROM
abbrev pub names_placed : NamedTables → Select Named → Outcome (List (Option Name))
names_placed names (select distinct list from filter by having) = do
  items ← each (item_placed names) from
  Ok (list_names (items_of items) list)
