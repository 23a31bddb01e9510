-- Left open for items: its result, and that the loop keeps its invariant; answered by InTurn.
use Rattle.std.proofs.Common.{map}
use Rattle.sq_meaning.specs.Spelled.{listed, reference_of}
use Rattle.sq_binding.specs.Found.{each}
use Rattle.sq_binding.specs.From.{item_bound}
use Rattle.sq_binder.specs.Found.{counts_of}
use Rattle.sq_binder.specs.From.{named_item_of}
use Rattle.sq_binder.proofs.OneByOne.InTurn.{begun_found, next_found, next_stop}
use Rattle.sq_binder.proofs.from.items.Goals as goal

pub loop-reference-init : goal.loop-reference-init
loop-reference-init g c =
    begun_found named_item_of (item_bound (g.T.Tables.named c.args.at.now.tables.now)) (reference_of c.args.at.now.environment.now.user) c.args.before c.args.list.now.first c.args.list.now.rest
    c.as_slice-reference-items.result.now c.item-first.result c.in_ok-items.items c.as_slice-reference-items.ensures c.item-first.ensures c.in_ok-items.ensures

pub returns-in-Err : goal.returns-in-Err
returns-in-Err g c =
    let f = item_bound (g.T.Tables.named c.args.at.now.tables.now) in
    let own = reference_of c.args.at.now.environment.now.user in
    next_stop named_item_of f own c.args.before (each f (map own (listed c.args.list.now)) (counts_of c.args.before))
    c.as_slice-reference-items.result.now c.loop-reference.reference-index c.loop-reference.items c.reference-item.result c.item-next.result c.in-Err.stop
    c.loop-reference-test.true c.reference-item.is c.loop-reference.invariant c.item-next.ensures c.in-Err.ensures

pub loop-reference-preserved : goal.loop-reference-preserved
loop-reference-preserved g c =
    let f = item_bound (g.T.Tables.named c.args.at.now.tables.now) in
    let own = reference_of c.args.at.now.environment.now.user in
    next_found named_item_of f own c.args.before (each f (map own (listed c.args.list.now)) (counts_of c.args.before))
    c.as_slice-reference-items.result.now c.loop-reference.reference-index c.loop-reference.items c.reference-item.result c.item-next.result c.in-Ok.more
    c.loop-reference-test.true c.reference-item.is c.loop-reference.invariant c.item-next.ensures c.in-Ok.ensures
