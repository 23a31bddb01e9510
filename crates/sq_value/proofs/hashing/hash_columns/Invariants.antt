use Rattle.std.proofs.Common.{◌≡◌, drop}
use Rattle.std.specs.List.{fold, flat_map}
use Rattle.sq_value.specs.Key.{in_columns, value_writes}
use Rattle.sq_value.proofs.hashing.hash_columns.Given as goal

abbrev pub invariant-loop-column : goal.invariant-loop-column
invariant-loop-column g l = fold g.H.Hasher.write l.initial.state (flat_map value_writes (in_columns l.row l.columns)) ≡ fold g.H.Hasher.write l.state (flat_map value_writes (in_columns l.row (drop l.column-index l.columns)))
