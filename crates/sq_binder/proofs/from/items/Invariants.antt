use Rattle.std.proofs.Common.{drop, map}
use Rattle.sq_meaning.specs.Spelled.{listed, reference_of}
use Rattle.sq_binding.specs.Found.{each}
use Rattle.sq_binding.specs.From.{item_bound}
use Rattle.sq_binder.specs.Found.{counts_of}
use Rattle.sq_binder.specs.From.{named_item_of}
use Rattle.sq_binder.proofs.OneByOne.InTurn.{SoFar}
use Rattle.sq_binder.proofs.from.items.Given as goal

abbrev pub invariant-loop-reference : goal.invariant-loop-reference
invariant-loop-reference g l =
    let f = item_bound (g.T.Tables.named l.at.tables.now) in
    let own = reference_of l.at.environment.now.user in
    SoFar named_item_of f own l.fn.before (each f (map own (listed l.list)) (counts_of l.fn.before)) l.items (drop l.reference-index l.reference-items)
