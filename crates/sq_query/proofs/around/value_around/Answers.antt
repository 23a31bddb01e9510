-- Left open for value_around: the clause known; answered by AroundValues.
use Rattle.sq_query.proofs.FoundByKey.AroundValues.{anywhere_so, within_so}
use Rattle.sq_query.proofs.around.value_around.Goals as goal

pub returns-in-Within-clause-known : goal.returns-in-Within-clause-known
returns-in-Within-clause-known c =
    within_so c.args.around.now c.args.call.now.parameters.now c.args.call.now.user c.args.expr.now c.in-Within.is c.value_beneath.result c.value_beneath.ensures.known

pub returns-in_default-clause-known : goal.returns-in_default-clause-known
returns-in_default-clause-known c =
    anywhere_so c.args.around.now c.args.call.now.parameters.now c.args.call.now.user c.args.expr.now c.value_beneath-in_default.result c.value_beneath-in_default.ensures.known
