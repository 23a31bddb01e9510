use Rattle.std.proofs.Common.{◌≡◌, map, take}
use Rattle.sq_meaning.specs.Target.{places_of}
use Rattle.sq_binding.specs.Table.{typed_descriptor}
use Rattle.sq_binding.specs.Names.{descriptor_of}
use Rattle.sq_catalog.specs.Columns.{AreColumnsOf}
use Rattle.sq_catalog.specs.Stored.{AreColumnsOver}
use Rattle.sq_catalog.specs.Table.{typed_definitions, typed_kinds, typed_seen}
use Rattle.sq_catalog.proofs.column.columns_of.Given as goal

abbrev pub invariant-loop-position : goal.invariant-loop-position
invariant-loop-position l = record {
  over : AreColumnsOver (typed_kinds l.typed) (take l.position (typed_kinds l.typed)) l.columns;
  written : AreColumnsOf (typed_definitions (take l.position l.typed)) l.columns;
  exact : map descriptor_of l.columns ≡ map (λ c. typed_descriptor (typed_seen c)) (take l.position l.typed);
  places : map (λ c. c.leaf_column) l.columns ≡ places_of (take l.position l.typed);
}
