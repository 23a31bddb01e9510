-- Left open for values_by_own: the clause named; answered by AskedColumns and KeyTests.
use Rattle.sq_query.specs.Asked.{IsShownBy}
use Rattle.sq_query.specs.Named.{IsFalseOf}
use Rattle.sq_query.proofs.FoundByKey.AskedColumns.{through_shown}
use Rattle.sq_query.proofs.Keys.KeyTests.{if_some}
use Rattle.sq_query.proofs.named_keys.values_by_own.Goals as goal

pub returns-in-Some-clause-named : goal.returns-in-Some-clause-named
returns-in-Some-clause-named c =
    let IsFalse = IsFalseOf c.args.sought.now c.args.sure c.args.call.now.parameters.now c.args.call.now.user c.args.condition.now in
    let through = c.args.asked.now.through in
    through_shown through IsFalse c.args.column c.in-Some.shown c.values_by_condition.result
    (if_some (IsShownBy through c.args.column) c.shown.result c.in-Some.shown c.shown.ensures c.in-Some.is) c.values_by_condition.ensures.named
