-- Left open: the loop's invariant; answered by Filtered.
use Rattle.std.proofs.Common.{◌∙◌, List, ap}
use Rattle.sq_value.specs.declared.value.Value.{Value}
use Rattle.sq_store.specs.Found.{has_one_of, numbered_in}
use Rattle.sq_store.proofs.Filtered.{filtered_on}
use Rattle.sq_store.proofs.key.all_with.Goals as goal

pub loop-row-preserved : goal.loop-row-preserved
loop-row-preserved c =
    let test = has_one_of c.args.columns.now c.args.several.now in
    let number = c.row-item.result.number in
    filtered_on test c.args.rows.now (numbered_in c.loop-row.found) (numbered_in c.push_if.new.found) c.loop-row.row-index c.row-item.result c.has_one_of.result c.loop-row-test.true c.row-item.is
    (c.has_one_of.ensures ∙ ap (λ (row : List Value). test (record { number = number; row = row })) c.as_slice.ensures) c.in_ok-push_if.ensures c.loop-row.invariant
