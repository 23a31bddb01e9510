-- Left open: the result, and that the loop keeps its invariant; answered by Finds, InTurn and Steps.
use Rattle.std.proofs.Common.{Ok, map, sym, ap}
use Rattle.sq_tree.specs.declared.names.ColumnReference.{ColumnReference}
use Rattle.sq_meaning.specs.Spelled.{listed}
use Rattle.sq_bound.specs.Expression.{place_meant}
use Rattle.sq_binding.specs.Found.{each}
use Rattle.sq_binding.specs.Select.{grouping_column}
use Rattle.sq_binder.specs.Found.{counts_of}
use Rattle.sq_binder.specs.Surroundings.{surroundings}
use Rattle.sq_binder.proofs.OneByOne.Finds.{finds_as}
use Rattle.sq_binder.proofs.OneByOne.InTurn.{all_found, begun_found, itself, next_found, next_stop}
use Rattle.sq_binder.proofs.OneByOne.Steps.{stops_as}
use Rattle.sq_binder.proofs.group.columns_listed.Goals as goal

pub loop-reference-init : goal.loop-reference-init
loop-reference-init g c =
    begun_found place_meant (grouping_column (surroundings g.T.Tables.named c.args.at.now)) (λ (r : ColumnReference). r) c.args.before c.args.list.now.first c.args.list.now.rest
    c.as_slice-reference-items.result.now c.grouping_column-first.result c.in_ok-columns.columns c.as_slice-reference-items.ensures c.grouping_column-first.ensures c.in_ok-columns.ensures

pub returns-in-Err : goal.returns-in-Err
returns-in-Err g c =
    let f = grouping_column (surroundings g.T.Tables.named c.args.at.now) in
    let same = λ (r : ColumnReference). r in
    let list = listed c.args.list.now in
    stops_as (each f list (counts_of c.args.before)) (each f (map same list) (counts_of c.args.before)) c.in-Err.stop (ap (λ l. each f l (counts_of c.args.before)) (sym (itself list)))
    (next_stop place_meant f same c.args.before (each f (map same list) (counts_of c.args.before))
    c.as_slice-reference-items.result.now c.loop-reference.reference-index c.loop-reference.columns c.reference-item.result c.grouping_column-next.result c.in-Err.stop
    c.loop-reference-test.true c.reference-item.is c.loop-reference.invariant c.grouping_column-next.ensures c.in-Err.ensures)

pub loop-reference-preserved : goal.loop-reference-preserved
loop-reference-preserved g c =
    let f = grouping_column (surroundings g.T.Tables.named c.args.at.now) in
    let same = λ (r : ColumnReference). r in
    next_found place_meant f same c.args.before (each f (map same (listed c.args.list.now)) (counts_of c.args.before))
    c.as_slice-reference-items.result.now c.loop-reference.reference-index c.loop-reference.columns c.reference-item.result c.grouping_column-next.result c.in-Ok.more
    c.loop-reference-test.true c.reference-item.is c.loop-reference.invariant c.grouping_column-next.ensures c.in-Ok.ensures

pub returns : goal.returns
returns g c =
    let f = grouping_column (surroundings g.T.Tables.named c.args.at.now) in
    let same = λ (r : ColumnReference). r in
    let list = listed c.args.list.now in
    finds_as (map place_meant) (each f list) (each f (map same list)) c.args.before (Ok c.loop-reference.columns) (ap (λ l. each f l (counts_of c.args.before)) (sym (itself list)))
    (all_found place_meant f same c.args.before (each f (map same list)) c.as_slice-reference-items.result.now c.loop-reference.reference-index c.loop-reference.columns c.loop-reference-test.false c.loop-reference.invariant)
