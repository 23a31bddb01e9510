use Rattle.std.proofs.Common.{[], map, take}
use Rattle.sq_bound.specs.Condition.{test_of}
use Rattle.sq_bound.specs.Keyed.{IsShortest, start_with_key}
use Rattle.sq_bound.proofs.keyed.shortest_start.Given as goal

abbrev pub invariant-loop-number : goal.invariant-loop-number
invariant-loop-number l = IsShortest (λ key. start_with_key key (map (test_of []) l.tests)) (take l.number l.keys) l.shortest
