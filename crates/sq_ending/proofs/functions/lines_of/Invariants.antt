use Rattle.std.specs.List.{AllByRecursion}
use Rattle.sq_ending.specs.Functions.{HasWidth}
use Rattle.sq_ending.proofs.GroupLines.{AreLinesTo}
use Rattle.sq_ending.proofs.functions.lines_of.Given as goal

abbrev pub invariant-loop-placed : goal.invariant-loop-placed
invariant-loop-placed l = AllByRecursion (HasWidth l.width) l.group → AreLinesTo l.width l.group l.placed-index l.lines
