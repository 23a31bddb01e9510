use Rattle.std.proofs.Common.{◌∷◌, drop, map}
use Rattle.std.specs.List.{AllByRecursion, zip}
use Rattle.sq_binding.specs.Change.{value_for}
use Rattle.sq_binding.specs.Found.{each}
use Rattle.sq_binding.specs.Seen.{numbered_of}
use Rattle.sq_binder.specs.Found.{counts_of}
use Rattle.sq_binder.specs.Surroundings.{surroundings}
use Rattle.sq_binder.proofs.OneByOne.InTurn.{SoFar}
use Rattle.sq_binding.specs.There.{IsPlain}
use Rattle.sq_binder.proofs.Changes.Sources.{pair_seen}
use Rattle.sq_binder.proofs.source.values_for.Given as goal

abbrev pub invariant-loop-number : goal.invariant-loop-number
invariant-loop-number g l =
    let f = value_for (surroundings g.T.Tables.named l.at) in
    SoFar numbered_of f pair_seen l.fn.before (each f (map pair_seen ((l.fn.receiver, l.list.first) ∷ zip l.others l.list.rest)) (counts_of l.fn.before)) l.values (drop l.number (zip l.others l.list.rest))
    × AllByRecursion IsPlain l.values.part
