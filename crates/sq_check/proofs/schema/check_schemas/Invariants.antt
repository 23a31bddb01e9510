use Rattle.std.proofs.Common.{◌≡◌, map, take}
use Rattle.sq_catalog.specs.Catalog.{known}
use Rattle.sq_check.specs.Schemas.{text_marks}
use Rattle.sq_check.proofs.schema.check_schemas.Given as goal

abbrev pub invariant-loop-text : goal.invariant-loop-text
invariant-loop-text l = l.marks.items ≡ map (text_marks (known l.catalog)) (take l.text-index l.schemas)
