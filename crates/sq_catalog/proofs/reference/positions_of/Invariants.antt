use Rattle.std.proofs.Common.{◌≡◌, true, length, take}
use Rattle.sq_bound.specs.Names.{are_positions}
use Rattle.sq_binding.specs.Position.{position_of}
use Rattle.sq_catalog.specs.Exact.{names_in}
use Rattle.sq_catalog.specs.Keys.{StandAt}
use Rattle.sq_catalog.proofs.OneByOne.Turns.{IsDoneTo}
use Rattle.sq_catalog.proofs.reference.positions_of.Given as goal

abbrev pub invariant-loop-name : goal.invariant-loop-name
invariant-loop-name l = record {
  within : are_positions (length l.table.columns) l.positions ≡ true;
  named : StandAt (names_in l.table.columns) (take l.name-index l.names) l.positions;
  exact : IsDoneTo (position_of (names_in l.table.columns)) l.names l.name-index l.positions;
}
