use Rattle.std.proofs.Common.{◌≡◌, ◌+◌, ◌++◌, drop, take, flat_map}
use Rattle.sq_meaning.specs.SchemaRefusal.{parts_of_schema, parts_of_text}
use Rattle.sq_binding.specs.Declaring.{with_parts}
use Rattle.sq_catalog.specs.Catalog.{Gains, schema_definitions, schema_tables}
use Rattle.sq_catalog.specs.Exact.{declared}
use Rattle.sq_catalog.specs.Views.{GainsViews, schema_views}
use Rattle.sq_catalog.proofs.Growth.Building.{left}
use Rattle.sq_catalog.proofs.catalog.Catalog.add_text.Given as goal

abbrev pub invariant-loop-number : goal.invariant-loop-number
invariant-loop-number l =
    Gains l.fn.self l.self (schema_tables l.tree.first ++ flat_map schema_tables (take l.number l.tree.rest))
    (schema_definitions l.tree.first ++ flat_map schema_definitions (take l.number l.tree.rest))
    × GainsViews l.fn.self l.self (schema_views l.tree.first ++ flat_map schema_views (take l.number l.tree.rest))
    × (with_parts (parts_of_text (l.text, l.tree)) (declared l.fn.self) ≡ with_parts (left (parts_of_schema l.text) (l.number + 1) (drop l.number l.tree.rest)) (declared l.self))
