use Rattle.std.proofs.Common.{◌≡◌, ◌∷◌, flat_map, take}
use Rattle.sq_catalog.specs.Checks.{checks_in}
use Rattle.sq_catalog.specs.Columns.{column_in}
use Rattle.sq_catalog.specs.Keys.{keys_in}
use Rattle.sq_catalog.specs.Reference.{constraints_lent}
use Rattle.sq_catalog.specs.References.{references_in}
use Rattle.sq_catalog.specs.Written.{conditions_lent, definitions_lent}
use Rattle.sq_catalog.proofs.written.parts_of.Given as goal

abbrev pub invariant-loop-element : goal.invariant-loop-element
invariant-loop-element l = record {
  columns : definitions_lent l.written.columns.items ≡ flat_map column_in (l.definition.elements.first ∷ take l.element-index l.definition.elements.rest);
  keys : l.written.keys.items ≡ flat_map keys_in (l.definition.elements.first ∷ take l.element-index l.definition.elements.rest);
  checks : conditions_lent l.written.checks.items ≡ flat_map checks_in (l.definition.elements.first ∷ take l.element-index l.definition.elements.rest);
  references : constraints_lent l.written.references.items ≡ flat_map references_in (l.definition.elements.first ∷ take l.element-index l.definition.elements.rest);
}
