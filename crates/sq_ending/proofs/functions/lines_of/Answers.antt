-- Left open for lines_of: its result, and that the loop keeps its invariant; answered by GroupLines and laws of sq_expression.
use Rattle.std.proofs.Common.{◌∙◌, Ok, refl, sym, true}
use Rattle.sq_expression.proofs.WholeLines.{lines_none, whole_none}
use Rattle.sq_ending.proofs.GroupLines.{all_behind, given_wide, line_behind}
use Rattle.sq_ending.proofs.functions.lines_of.Goals as goal

pub loop-placed-init : goal.loop-placed-init
loop-placed-init c = λ wide. (c.new-lines.ensures.width, whole_none c.new-lines.result c.new-lines.ensures.rows, lines_none c.new-lines.result c.new-lines.ensures.rows)

pub loop-placed-preserved : goal.loop-placed-preserved
loop-placed-preserved c = λ wide.
    let width = c.args.width in
    let group = c.args.group.now in
    let i = c.loop-placed.placed-index in
    let p = c.placed-item.result in
    let given = c.as_slice.result.now in
    let so_far = c.loop-placed.invariant wide in
    let long = given_wide width group i p c.loop-placed-test.true c.placed-item.is given c.as_slice.ensures.value wide ∙ sym so_far.0 in
    line_behind width group i p c.loop-placed-test.true c.placed-item.is given c.as_slice.ensures.value wide c.loop-placed.lines c.push_if.new.self so_far c.push_if.ensures.width
    (rw c.in-Ok.is at (c.push_if.ensures.whole so_far.1 long)) (rw c.in-Ok.is at (c.push_if.ensures.lines (Ok true) refl so_far.1 long))

pub returns : goal.returns
returns c = λ wide. all_behind c.args.width c.args.group.now c.loop-placed.placed-index c.loop-placed.lines c.loop-placed-test.false (c.loop-placed.invariant wide)
