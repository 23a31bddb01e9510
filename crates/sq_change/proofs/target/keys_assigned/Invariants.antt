use Rattle.sq_change.proofs.Keys.LostKeys.{LosesFirst}
use Rattle.sq_change.proofs.target.keys_assigned.Given as goal

abbrev pub invariant-loop-key : goal.invariant-loop-key
invariant-loop-key l = LosesFirst l.table.keys l.assignments l.keys.items l.key
