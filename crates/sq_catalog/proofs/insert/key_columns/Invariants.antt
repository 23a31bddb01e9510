use Rattle.std.proofs.Common.{◌≡◌, map, take}
use Rattle.sq_catalog.proofs.insert.key_columns.Given as goal

abbrev pub invariant-loop-key : goal.invariant-loop-key
invariant-loop-key l = map (λ key. key.items) l.columns.items ≡ take l.key-index l.keys
