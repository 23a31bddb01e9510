use Rattle.sq_change.specs.Lost.{lost_in_key}
use Rattle.sq_change.proofs.OneByOne.Gathered.{GatheredTo}
use Rattle.sq_change.proofs.lost.push_lost.Given as goal

abbrev pub invariant-loop-key : goal.invariant-loop-key
invariant-loop-key l = GatheredTo (lost_in_key l.table.keys l.row) l.keys l.initial.lost.items l.key-index l.lost.items
