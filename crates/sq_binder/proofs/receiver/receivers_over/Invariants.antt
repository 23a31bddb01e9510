use Rattle.std.proofs.Common.{◌≡◌, map, take}
use Rattle.sq_binder.specs.Receiver.{receiver_at, receiver_seen}
use Rattle.sq_binder.proofs.receiver.receivers_over.Given as goal

abbrev pub invariant-loop-column : goal.invariant-loop-column
invariant-loop-column l = map receiver_seen l.receivers ≡ map receiver_at (take l.column-index l.columns)
