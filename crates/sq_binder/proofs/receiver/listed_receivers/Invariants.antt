use Rattle.std.proofs.Common.{map}
use Rattle.sq_binding.specs.Change.{itself}
use Rattle.sq_binder.specs.Receiver.{receiver_seen}
use Rattle.sq_binder.proofs.OneByOne.ColumnLoops.{ColumnsSoFar}
use Rattle.sq_binder.proofs.receiver.listed_receivers.Given as goal

abbrev pub invariant-loop-number : goal.invariant-loop-number
invariant-loop-number l = ColumnsSoFar receiver_seen (map receiver_seen l.all) (λ name. name) itself l.fn.before l.list.first l.list.rest l.number l.receivers
