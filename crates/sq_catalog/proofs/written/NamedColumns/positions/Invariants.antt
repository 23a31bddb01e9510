use Rattle.std.proofs.Common.{◌≡◌, true, take}
use Rattle.sq_bound.specs.Names.{are_positions}
use Rattle.sq_binding.specs.Position.{position_of}
use Rattle.sq_catalog.specs.Keys.{StandAt}
use Rattle.sq_catalog.specs.Written.{column_count, names_at}
use Rattle.sq_catalog.proofs.OneByOne.Turns.{IsDoneTo}
use Rattle.sq_catalog.proofs.written.NamedColumns.positions.Given as goal

abbrev pub invariant-loop-name : goal.invariant-loop-name
invariant-loop-name l = record {
  within : are_positions (column_count l.self) l.positions ≡ true;
  named : StandAt (names_at l.self) (take l.name-index l.wanted) l.positions;
  exact : IsDoneTo (position_of (names_at l.self)) l.wanted l.name-index l.positions;
}
