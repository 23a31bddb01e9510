use Rattle.std.proofs.Common.{◌≡◌, true, length, nat_lt, take}
use Rattle.std.specs.List.{list_all}
use Rattle.sq_bound.specs.Names.{are_positions}
use Rattle.sq_binding.specs.Position.{positions_of}
use Rattle.sq_catalog.specs.Keys.{KeysStandAt, primaries, primary_among}
use Rattle.sq_catalog.specs.Written.{column_count, names_at}
use Rattle.sq_catalog.proofs.OneByOne.Turns.{IsMadeTo}
use Rattle.sq_catalog.proofs.key.Keys.add_all.Given as goal

abbrev pub invariant-loop-key : goal.invariant-loop-key
invariant-loop-key l = record {
  count : length l.self.columns ≡ l.key-index;
  within : list_all (are_positions (column_count l.named)) l.self.columns ≡ true;
  named : KeysStandAt (names_at l.named) (take l.key-index l.written) l.self.columns;
  primary : l.self.primary ≡ primary_among (take l.key-index l.written);
  two : l.self.has_two_primary ≡ nat_lt 1 (length (primaries (take l.key-index l.written)));
  exact : IsMadeTo (positions_of (names_at l.named)) (λ key. key.columns) l.written l.key-index l.self.columns;
}
