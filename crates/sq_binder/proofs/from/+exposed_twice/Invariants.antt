use Rattle.std.proofs.Common.{length}
use Rattle.sq_binder.proofs.from.+exposed_twice.Given as goal

abbrev pub decreases-exposed_twice : goal.decreases-exposed_twice
decreases-exposed_twice l = length l.items.now
