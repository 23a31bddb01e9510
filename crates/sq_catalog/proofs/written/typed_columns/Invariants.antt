use Rattle.std.proofs.Common.{◌≡◌, length, map, take}
use Rattle.sq_binding.specs.Column.{typed_column}
use Rattle.sq_catalog.specs.Table.{typed_seen}
use Rattle.sq_catalog.specs.Written.{definitions_lent}
use Rattle.sq_catalog.proofs.OneByOne.Turns.{IsSeenTo}
use Rattle.sq_catalog.proofs.written.typed_columns.Given as goal

abbrev pub invariant-loop-definition : goal.invariant-loop-definition
invariant-loop-definition l = record {
  count : length l.typed.items ≡ l.definition-index;
  definitions : map (λ t. t.definition.now) l.typed.items ≡ definitions_lent (take l.definition-index l.definitions);
  exact : IsSeenTo typed_column (λ w. w.now) typed_seen l.definitions l.definition-index l.typed.items;
}
