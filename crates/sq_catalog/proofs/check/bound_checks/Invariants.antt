use Rattle.std.proofs.Common.{map}
use Rattle.sq_binding.specs.Seen.{cond_seen}
use Rattle.sq_binding.specs.Names.{descriptor_of}
use Rattle.sq_catalog.specs.Checks.{check_over}
use Rattle.sq_catalog.specs.Exact.{name_in}
use Rattle.sq_catalog.proofs.OneByOne.Turns.{IsSeenTo}
use Rattle.sq_catalog.proofs.check.bound_checks.Given as goal

abbrev pub invariant-loop-check : goal.invariant-loop-check
invariant-loop-check l = IsSeenTo (check_over l.table.user (name_in l.table.name.now) (map descriptor_of l.table.columns.now)) (λ c. c.now) cond_seen l.checks l.check-index l.bound
