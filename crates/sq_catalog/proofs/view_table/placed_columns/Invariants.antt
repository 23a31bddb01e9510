use Rattle.std.proofs.Common.{◌≡◌, List, Some, map, take}
use Rattle.std.specs.List.{AllZip, slice_get}
use Rattle.sq_value.specs.declared.domain.Kind.{Kind}
use Rattle.sq_bound.specs.WellFormed.{kinds_of_columns}
use Rattle.sq_catalog.specs.Stored.{AreColumnsOver}
use Rattle.sq_catalog.proofs.view_table.placed_columns.Given as goal

abbrev pub invariant-loop-position : goal.invariant-loop-position
invariant-loop-position l = record {
  columns : (base : List Kind) → AllZip (λ p k. slice_get base p ≡ Some k) l.below (kinds_of_columns l.columns) → AreColumnsOver base (take l.position (kinds_of_columns l.columns)) l.placed;
  places : map (λ c. c.leaf_column) l.placed ≡ take l.position l.below;
  names : map (λ c. c.name) l.placed ≡ map (λ c. c.name) (take l.position l.columns);
}
