-- Left open for lacks_value: its result, and that the loop keeps its invariant; answered by AllSatisfied.
use Rattle.std.proofs.Common.{◌≡◌, false, true, refl, arith, sym, rules}
use Rattle.std.specs.List.{zip}
use Rattle.sq_bound.specs.Fits.{lacks_value}
use Rattle.sq_change.proofs.OneByOne.AllSatisfied.{beside, none_more, none_there, one_found, paired, zip_short}
use Rattle.sq_change.proofs.constraint.lacks_value.Goals as goal
use Rattle.sq_change.proofs.constraint.lacks_value.Goals.{else-column-via-then-column+else-is_null, else-column-via-else-column}

pub loop-place-init : goal.loop-place-init
loop-place-init c = refl

pub returns-then-is_null : goal.returns-then-is_null
returns-then-is_null c =
    let columns = c.args.table.now.columns in
    let row = c.args.row.now in
    let x = c.column-item.result in
    let y = c.index-row-place.result in
    let lt = rw c.as_slice-column-items.ensures at c.loop-place-test.true in
    let is = rw c.as_slice-column-items.ensures at c.column-item.is in
    let here = paired columns row c.loop-place.place x y c.requires lt is c.index-row-place.is in
    let lacks : lacks_value (x, y) ≡ true = search rules in
    sym (one_found lacks_value (zip columns row) c.loop-place.place (x, y) here.0 here.1 c.loop-place.invariant lacks)

pub loop-place-preserved : goal.loop-place-preserved
loop-place-preserved c =
    let columns = c.args.table.now.columns in
    let row = c.args.row.now in
    let x = c.column-item.result in
    let lt = rw c.as_slice-column-items.ensures at c.loop-place-test.true in
    let is = rw c.as_slice-column-items.ensures at c.column-item.is in
    elim c.else-column.branch [
      | else-column-via-then-column+else-is_null w ↦
          let y = w.index-row-place.result in
          let here = paired columns row c.loop-place.place x y c.requires lt is w.index-row-place.is in
          let has : lacks_value (x, y) ≡ false = search rules in
          none_more lacks_value (zip columns row) c.loop-place.place (x, y) here.0 here.1 c.loop-place.invariant has
      | else-column-via-else-column w ↦
          let here = beside columns row c.loop-place.place x c.requires lt is in
          let has : lacks_value (x, here.0) ≡ false = search rules in
          none_more lacks_value (zip columns row) c.loop-place.place (x, here.0) here.1 here.2 c.loop-place.invariant has
    ]

pub returns : goal.returns
returns c =
    let columns = c.args.table.now.columns in
    let past = rw c.as_slice-column-items.ensures at c.loop-place-test.false in
    sym (none_there lacks_value (zip columns c.args.row.now) c.loop-place.place (omega (arith, past, zip_short columns c.args.row.now)) c.loop-place.invariant)
