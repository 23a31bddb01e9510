use Rattle.std.proofs.Common.{◌≡◌, map, take}
use Rattle.sq_query.proofs.meant.numbers.Given as goal

abbrev pub invariant-loop-found : goal.invariant-loop-found
invariant-loop-found l = l.numbers.items ≡ map (λ found. found.0) (take l.found-index l.rows)
