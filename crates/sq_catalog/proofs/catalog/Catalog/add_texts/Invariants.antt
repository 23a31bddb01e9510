use Rattle.std.proofs.Common.{◌≡◌, drop, take}
use Rattle.sq_meaning.specs.SchemaRefusal.{parts_of_text, schema_parts}
use Rattle.sq_binding.specs.Declaring.{with_parts}
use Rattle.sq_catalog.specs.Catalog.{Gains, declared_definitions, declared_tables}
use Rattle.sq_catalog.specs.Exact.{declared}
use Rattle.sq_catalog.specs.Views.{GainsViews, declared_views}
use Rattle.sq_catalog.proofs.Growth.Building.{left}
use Rattle.sq_catalog.proofs.catalog.Catalog.add_texts.Given as goal

abbrev pub invariant-loop-number : goal.invariant-loop-number
invariant-loop-number l =
    Gains l.fn.self l.self (declared_tables (take l.number l.texts)) (declared_definitions (take l.number l.texts)) × GainsViews l.fn.self l.self (declared_views (take l.number l.texts))
    × (with_parts (schema_parts l.texts) (declared l.fn.self) ≡ with_parts (left parts_of_text l.number (drop l.number l.texts)) (declared l.self))
