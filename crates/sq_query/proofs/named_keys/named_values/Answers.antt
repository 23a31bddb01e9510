-- Left open for named_values: the clause named, and that the loop keeps its invariant; answered by KeyTests.
use Rattle.std.proofs.Common.{[], get_or, subst, sym}
use Rattle.std.specs.List.{AllZip}
use Rattle.sq_query.specs.Asked.{IsFalseThrough}
use Rattle.sq_query.specs.Named.{IsFalseOf, IsOneOf}
use Rattle.sq_query.proofs.Keys.KeyTests.{if_some, zip_all, zip_more}
use Rattle.sq_query.proofs.named_keys.named_values.Goals as goal

pub loop-column-init : goal.loop-column-init
loop-column-init c = subst (AllZip (IsOneOf (IsFalseThrough c.args.asked.now.through (IsFalseOf c.args.sought.now c.args.sure c.args.call.now.parameters.now c.args.call.now.user c.args.condition.now))) []) (sym c.new-values.ensures.items) tt

pub loop-column-preserved : goal.loop-column-preserved
loop-column-preserved c =
    let R = IsOneOf (IsFalseThrough c.args.asked.now.through (IsFalseOf c.args.sought.now c.args.sure c.args.call.now.parameters.now c.args.call.now.user c.args.condition.now)) in
    let i = c.loop-column.column-index in
    zip_more R c.args.columns.now i 0 c.loop-column.values.items c.push.new.self.items c.in-Some.value c.loop-column-test.true c.loop-column.invariant
    (if_some (R (get_or c.args.columns.now i 0)) c.in_ok-value.field-0 c.in-Some.value c.in_ok-value.ensures.named c.in-Some.is) c.in_ok-push-in-Some.ensures.items

pub returns-clause-named : goal.returns-clause-named
returns-clause-named c =
    zip_all (IsOneOf (IsFalseThrough c.args.asked.now.through (IsFalseOf c.args.sought.now c.args.sure c.args.call.now.parameters.now c.args.call.now.user c.args.condition.now))) c.args.columns.now c.loop-column.column-index c.loop-column.values.items c.loop-column-test.false
    c.loop-column.invariant
