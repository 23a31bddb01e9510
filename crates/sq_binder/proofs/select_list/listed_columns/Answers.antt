-- Left open: the result, and that the loop keeps its invariant; answered by Behind, Finds and others.
use Rattle.std.proofs.Common.{[], Ok, map, arith}
use Rattle.sq_meaning.specs.Spelled.{expr_of, listed}
use Rattle.sq_meaning.specs.Syntax.{expressions}
use Rattle.sq_binding.specs.Found.{each}
use Rattle.sq_binding.specs.Select.{shown_column}
use Rattle.sq_binder.specs.Found.{counts_of}
use Rattle.sq_binder.specs.SelectList.{list_seen, list_split, split}
use Rattle.sq_binder.specs.Surroundings.{surroundings}
use Rattle.sq_binder.proofs.OneByOne.Behind.{made_of}
use Rattle.sq_binder.proofs.OneByOne.Finds.{finds_as}
use Rattle.sq_binder.proofs.Clauses.SelectLists.{all_shown, begun_shown, few_columns, few_listed, next_shown, next_shown_stop}
use Rattle.sq_binder.proofs.OneByOne.Steps.{stops_as}
use Rattle.sq_binder.proofs.select_list.listed_columns.Goals as goal

pub loop-expr-init : goal.loop-expr-init
loop-expr-init g c =
    begun_shown (shown_column (surroundings g.T.Tables.named c.args.at.now)) expr_of c.args.before c.args.list.now.first c.args.list.now.rest
    c.as_slice-expr-items.result.now c.shown_column-first.result c.in_ok-shown.shown c.as_slice-expr-items.ensures c.shown_column-first.ensures c.in_ok-shown.ensures

pub loop-expr-preserved : goal.loop-expr-preserved
loop-expr-preserved g c =
    let f = shown_column (surroundings g.T.Tables.named c.args.at.now) in
    next_shown f expr_of c.args.before (made_of split (each f (map expr_of (listed c.args.list.now)) (counts_of c.args.before)))
    c.as_slice-expr-items.result.now c.loop-expr.expr-index c.loop-expr.shown c.expr-item.result c.shown_column-next.result c.in-Ok.more
    c.loop-expr-test.true c.expr-item.is c.loop-expr.invariant c.shown_column-next.ensures c.in-Ok.ensures

pub returns-in-Err : goal.returns-in-Err
returns-in-Err g c =
    let a = surroundings g.T.Tables.named c.args.at.now in
    let f = shown_column a in
    let es = map expr_of (listed c.args.list.now) in
    stops_as (list_split a [] (expressions es) (counts_of c.args.before)) (made_of split (each f es (counts_of c.args.before))) c.in-Err.stop
    (few_columns a [] es (counts_of c.args.before) (few_listed c.args.list.now.first c.args.list.now.rest c.len.result c.len.ensures (omega (arith, c.if-len-ge-MOST_COLUMNS.false))))
    (next_shown_stop f expr_of c.args.before (made_of split (each f es (counts_of c.args.before)))
    c.as_slice-expr-items.result.now c.loop-expr.expr-index c.loop-expr.shown c.expr-item.result c.shown_column-next.result c.in-Err.stop
    c.loop-expr-test.true c.expr-item.is c.loop-expr.invariant c.shown_column-next.ensures c.in-Err.ensures)

pub returns : goal.returns
returns g c =
    let a = surroundings g.T.Tables.named c.args.at.now in
    let f = shown_column a in
    let es = map expr_of (listed c.args.list.now) in
    finds_as list_seen (list_split a [] (expressions es)) (λ counts. made_of split (each f es counts)) c.args.before (Ok c.loop-expr.shown)
    (few_columns a [] es (counts_of c.args.before) (few_listed c.args.list.now.first c.args.list.now.rest c.len.result c.len.ensures (omega (arith, c.if-len-ge-MOST_COLUMNS.false))))
    (all_shown f expr_of c.args.before (λ counts. made_of split (each f es counts)) c.as_slice-expr-items.result.now c.loop-expr.expr-index c.loop-expr.shown c.loop-expr-test.false c.loop-expr.invariant)
