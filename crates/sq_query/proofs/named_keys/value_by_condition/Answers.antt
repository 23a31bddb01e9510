-- Left open for value_by_condition: the clause named; answered by KeyTests and NamedRows.
use Rattle.std.proofs.Common.{Some}
use Rattle.sq_query.specs.Asked.{IsFalseThrough}
use Rattle.sq_query.specs.Named.{IsFalseOf}
use Rattle.sq_query.proofs.Keys.KeyTests.{if_some}
use Rattle.sq_query.proofs.Keys.NamedRows.{Found, only_found}
use Rattle.sq_query.proofs.named_keys.value_by_condition.Goals as goal

pub returns-in-Some-clause-named : goal.returns-in-Some-clause-named
returns-in-Some-clause-named c =
    let IsFalse = IsFalseThrough c.args.asked.now.through (IsFalseOf c.args.sought.now c.args.sure c.args.call.now.parameters.now c.args.call.now.user c.args.condition.now) in
    only_found IsFalse c.args.column c.in-Some.values.items c.only_value.result
    (if_some (λ vs. Found IsFalse c.args.column (Some vs)) c.in_ok-values.field-0 c.in-Some.values c.in_ok-values.ensures.named c.in-Some.is) c.only_value.ensures
