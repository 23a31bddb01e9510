use Rattle.std.proofs.Common.{◌≡◌, drop, take, flat_map}
use Rattle.sq_meaning.specs.SchemaRefusal.{parts_of_schema}
use Rattle.sq_binding.specs.Declaring.{with_parts}
use Rattle.sq_catalog.specs.Catalog.{Gains, definition_in, table_in}
use Rattle.sq_catalog.specs.Exact.{declared}
use Rattle.sq_catalog.specs.Views.{GainsViews, view_in}
use Rattle.sq_catalog.proofs.Growth.Building.{elements_left}
use Rattle.sq_catalog.proofs.catalog.Catalog.add_schema.Given as goal

abbrev pub invariant-loop-number : goal.invariant-loop-number
invariant-loop-number l =
    Gains l.fn.self l.self (flat_map (table_in l.user) (take l.number l.definition.elements)) (flat_map definition_in (take l.number l.definition.elements))
    × GainsViews l.fn.self l.self (flat_map (view_in l.user) (take l.number l.definition.elements))
    × (with_parts (parts_of_schema l.text (l.schema, l.definition)) (declared l.fn.self) ≡ with_parts (elements_left l.text l.schema l.definition l.number (drop l.number l.definition.elements)) (declared l.self))
