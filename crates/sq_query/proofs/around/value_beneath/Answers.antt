-- Left open for value_beneath: the clause known; answered by AroundValues.
use Rattle.sq_expression.specs.Frame.{scopes_beyond}
use Rattle.sq_query.proofs.FoundByKey.AroundValues.{known_beneath}
use Rattle.sq_query.proofs.around.value_beneath.Goals as goal

pub returns-clause-known : goal.returns-clause-known
returns-clause-known c =
    known_beneath (scopes_beyond c.args.lines) c.args.call.now.parameters.now c.args.call.now.user c.args.expr.now c.value_within.result c.if_known.result c.value_within.ensures c.if_known.ensures.known
