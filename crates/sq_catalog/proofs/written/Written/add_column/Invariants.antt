use Rattle.std.proofs.Common.{◌≡◌, ◌∷◌, ◌++◌, [], flat_map, take}
use Rattle.sq_catalog.specs.Checks.{check_of_column}
use Rattle.sq_catalog.specs.Keys.{key_of_column}
use Rattle.sq_catalog.specs.Reference.{constraints_lent}
use Rattle.sq_catalog.specs.References.{reference_on}
use Rattle.sq_catalog.specs.Written.{conditions_lent, definitions_lent}
use Rattle.sq_catalog.proofs.written.Written.add_column.Given as goal

abbrev pub invariant-loop-constraint : goal.invariant-loop-constraint
invariant-loop-constraint l = record {
  columns : definitions_lent l.self.columns.items ≡ definitions_lent l.fn.self.columns.items ++ l.column ∷ [];
  keys : l.self.keys.items ≡ l.fn.self.keys.items ++ flat_map (key_of_column l.column.name) (take l.constraint-index l.column.constraints);
  checks : conditions_lent l.self.checks.items ≡ conditions_lent l.fn.self.checks.items ++ flat_map check_of_column (take l.constraint-index l.column.constraints);
  references : constraints_lent l.self.references.items
      ≡ constraints_lent l.fn.self.references.items ++ flat_map (reference_on l.column.name) (take l.constraint-index l.column.constraints);
}
