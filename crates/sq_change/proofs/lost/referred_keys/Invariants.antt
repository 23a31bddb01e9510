use Rattle.std.proofs.Common.{◌≡◌, filter, take}
use Rattle.sq_change.specs.Lost.{is_referred}
use Rattle.sq_change.proofs.lost.referred_keys.Given as goal

abbrev pub invariant-loop-key : goal.invariant-loop-key
invariant-loop-key g l = l.referred.items ≡ filter (is_referred (g.N.Names.base_tables l.names) l.table) (take l.key-index l.keys)
