-- Left open for values_by_equality: the clause named; answered by NamedRows.
use Rattle.sq_query.proofs.Keys.NamedRows.{equal_found}
use Rattle.sq_query.proofs.named.values_by_equality.Goals as goal

pub returns-in-Some-clause-named : goal.returns-in-Some-clause-named
returns-in-Some-clause-named c =
    equal_found c.args.sought.now c.args.call.now.parameters.now c.args.call.now.user c.in-Some.expr.now c.args.column c.args.test.now c.values_among_lines.result c.in-Some.ensures c.values_among_lines.ensures.known
