-- Left open for known_values: the clause known; answered by KnownSearch.
use Rattle.sq_query.proofs.FoundByKey.KnownSearch.{values_so}
use Rattle.sq_query.proofs.known.known_values.Goals as goal

pub returns-in_ok-values-in-Ok-clause-known : goal.returns-in_ok-values-in-Ok-clause-known
returns-in_ok-values-in-Ok-clause-known c =
    values_so c.args.found.now c.args.call.now.parameters.now c.args.call.now.user c.args.compared c.args.query.now c.in-Ok.rows.items c.as_slice.result.now c.in_ok-values-in-Ok.field-0 c.as_slice.ensures.value c.in-Ok.ensures
    c.in_ok-values-in-Ok.ensures.firsts c.in_ok-values-in-Ok.ensures.count
