-- Left open for first_values: its result, and that the loop keeps its invariant; answered by KeyTests.
use Rattle.std.proofs.Common.{[], subst, sym}
use Rattle.std.specs.List.{AllZip}
use Rattle.sq_meaning.specs.Environment.{Row}
use Rattle.sq_query.specs.Sought.{IsKnownIn}
use Rattle.sq_query.proofs.Keys.KeyTests.{if_some, zip_all, zip_more}
use Rattle.sq_query.proofs.known.first_values.Goals as goal

pub loop-row-init : goal.loop-row-init
loop-row-init c = subst (AllZip (IsKnownIn 0) []) (sym c.new-values.ensures.items) tt

pub loop-row-preserved : goal.loop-row-preserved
loop-row-preserved c =
    let value = c.in-Some.value in
    let known = if_some (IsKnownIn 0 c.row-item.result) c.in_ok-value.field-0 value c.in_ok-value.ensures c.in-Some.is in
    zip_more (IsKnownIn 0) c.args.rows.now c.loop-row.row-index c.row-item.result c.loop-row.values.items c.push.new.self.items value c.loop-row-test.true c.loop-row.invariant
    (subst (λ (x : Row). IsKnownIn 0 x value) c.row-item.is known) c.in_ok-push-in-Some.ensures.items

pub returns : goal.returns
returns c = zip_all (IsKnownIn 0) c.args.rows.now c.loop-row.row-index c.loop-row.values.items c.loop-row-test.false c.loop-row.invariant
