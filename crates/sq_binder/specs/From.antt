-- FROM clauses (ISO/IEC 9075:1992, 5.4, 6.3 and 7.4).
use Rattle.std.specs.Prelude.{Bool, false, List, map, Option, None, Some}
use Rattle.std.specs.List.{enumerate_from}
use Rattle.std.specs.Option.{option_map}
use Rattle.sq_lex.specs.declared.name.Name.{Name}
use Rattle.sq_tree.specs.declared.cond.TableReference.{TableReference as SpelledReference}
use Rattle.sq_meaning.specs.Environment.{TableReference, same_name, same_table}
use Rattle.sq_bound.specs.declared.condition.TablePlace.{TablePlace}
use Rattle.sq_bound.specs.declared.names.Column.{Column}
use Rattle.sq_binding.specs.Found.{Binding, ◌>>=◌, ◌>>◌, has_found, pure}
use Rattle.sq_binding.specs.From.{NamedTable, NamedTables, NamedItem, column_over, from_bound, items_of, table_findings, tables_of}
use Rattle.sq_binding.specs.From as binding
use Rattle.sq_binding.specs.Scope as scope
use Rattle.sq_binder.specs.Scope.{item_of}
use Rattle.sq_binder.specs.Surroundings.{descriptor_of}
use Rattle.sq_binder.specs.declared.from.FromClause.{FromClause}
use Rattle.sq_binder.specs.declared.scope.FromItem.{FromItem}

-- the tables of a FROM clause and its items, apart
abbrev pub from_split : NamedTables → List TableReference → Binding (List TablePlace × List scope.FromItem)
from_split names from = from_bound names from >>= λ items. pure (tables_of items, items_of items)

abbrev pub clause_of : FromClause → List TablePlace × List scope.FromItem
clause_of c = (c.tables.tables, map item_of c.items)

abbrev pub named_item_of : FromItem → NamedItem
named_item_of item = record { table = item.place; item = item_of item }

-- the names that expose an item
abbrev pub exposed : FromItem → TableReference
exposed item = (item_of item).reference

abbrev pub same_names : Option Name → Option Name → (tables : Bool) → Bool
same_names None None tables = tables
same_names (Some m) (Some n) tables = same_name m n
same_names _ _ tables = false

-- two items are exposed by one name
abbrev pub clashes : TableReference → TableReference → Bool
clashes r s = same_names r.correlation s.correlation (same_table r.table s.table)

-- a reference to a table of this user
abbrev pub reference_under : Name → SpelledReference → TableReference
reference_under user r = record {
  table = record { user = user; name = r.table.table };
  correlation = option_map (λ c. c.name) r.correlation;
}

abbrev pub item_over : TableReference → NamedTable → Binding NamedItem
item_over r t = has_found (table_findings t) >> pure (binding.item_over r t)

abbrev pub columns_over : List Column → List scope.ItemColumn
columns_over columns = map column_over (enumerate_from 0 (map descriptor_of columns))
