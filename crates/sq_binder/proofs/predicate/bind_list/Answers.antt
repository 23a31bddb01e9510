-- Left open for bind_list: its result, and that the loop keeps its invariant; answered by InTurn.
use Rattle.std.proofs.Common.{map}
use Rattle.sq_meaning.specs.Spelled.{expr_of, listed}
use Rattle.sq_binding.specs.Condition.{agreeing}
use Rattle.sq_binding.specs.Found.{each}
use Rattle.sq_binding.specs.Seen.{numbered_of}
use Rattle.sq_binder.specs.Found.{counts_of}
use Rattle.sq_binder.specs.Surroundings.{surroundings}
use Rattle.sq_binder.proofs.OneByOne.InTurn.{begun_found, next_found, next_stop}
use Rattle.sq_binder.proofs.predicate.bind_list.Goals as goal

pub loop-expr-init : goal.loop-expr-init
loop-expr-init g c =
    begun_found numbered_of (agreeing (surroundings g.T.Tables.named c.args.at.now) c.args.kind) expr_of c.args.before c.args.list.now.first c.args.list.now.rest
    c.as_slice-expr-items.result.now c.bind_agreeing-first.result c.in_ok-exprs.exprs c.as_slice-expr-items.ensures c.bind_agreeing-first.ensures c.in_ok-exprs.ensures

pub returns-in-Err : goal.returns-in-Err
returns-in-Err g c =
    let f = agreeing (surroundings g.T.Tables.named c.args.at.now) c.args.kind in
    next_stop numbered_of f expr_of c.args.before (each f (map expr_of (listed c.args.list.now)) (counts_of c.args.before))
    c.as_slice-expr-items.result.now c.loop-expr.expr-index c.loop-expr.exprs c.expr-item.result c.bind_agreeing-next.result c.in-Err.stop
    c.loop-expr-test.true c.expr-item.is c.loop-expr.invariant c.bind_agreeing-next.ensures c.in-Err.ensures

pub loop-expr-preserved : goal.loop-expr-preserved
loop-expr-preserved g c =
    let f = agreeing (surroundings g.T.Tables.named c.args.at.now) c.args.kind in
    next_found numbered_of f expr_of c.args.before (each f (map expr_of (listed c.args.list.now)) (counts_of c.args.before))
    c.as_slice-expr-items.result.now c.loop-expr.expr-index c.loop-expr.exprs c.expr-item.result c.bind_agreeing-next.result c.in-Ok.more
    c.loop-expr-test.true c.expr-item.is c.loop-expr.invariant c.bind_agreeing-next.ensures c.in-Ok.ensures
