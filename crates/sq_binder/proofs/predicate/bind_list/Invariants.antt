use Rattle.std.proofs.Common.{drop, map}
use Rattle.sq_meaning.specs.Spelled.{expr_of, listed}
use Rattle.sq_binding.specs.Condition.{agreeing}
use Rattle.sq_binding.specs.Found.{each}
use Rattle.sq_binding.specs.Seen.{numbered_of}
use Rattle.sq_binder.specs.Found.{counts_of}
use Rattle.sq_binder.specs.Surroundings.{surroundings}
use Rattle.sq_binder.proofs.OneByOne.InTurn.{SoFar}
use Rattle.sq_binder.proofs.predicate.bind_list.Given as goal

abbrev pub invariant-loop-expr : goal.invariant-loop-expr
invariant-loop-expr g l =
    let f = agreeing (surroundings g.T.Tables.named l.at) l.kind in
    SoFar numbered_of f expr_of l.fn.before (each f (map expr_of (listed l.list)) (counts_of l.fn.before)) l.exprs (drop l.expr-index l.expr-items)
