use Rattle.std.proofs.Common.{◌≡◌, drop, map}
use Rattle.std.specs.Prelude.{find}
use Rattle.sq_meaning.specs.Environment.{same_name}
use Rattle.sq_binder.specs.Receiver.{receiver_seen}
use Rattle.sq_binder.proofs.receiver.receiver_with.Given as goal

abbrev pub invariant-loop-receiver : goal.invariant-loop-receiver
invariant-loop-receiver l = find (λ r. same_name r.name l.name) (map receiver_seen l.all) ≡ find (λ r. same_name r.name l.name) (map receiver_seen (drop l.receiver-index l.all))
