use Rattle.std.proofs.Common.{◌≡◌, map, take}
use Rattle.sq_query.proofs.target.lend_conditions.Given as goal

abbrev pub invariant-loop-condition : goal.invariant-loop-condition
invariant-loop-condition l = map (λ c. c.now) l.levels.items ≡ take l.condition-index l.conditions
