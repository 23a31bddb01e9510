-- Left open: the clauses memory, value and found; answered by KeyTests, KeyValues and KnownKeys.
use Rattle.sq_query.proofs.Keys.KeyTests.{compared_if}
use Rattle.sq_query.proofs.Keys.KeyValues.{valued_memory}
use Rattle.sq_query.proofs.Keys.KnownKeys.{known_found}
use Rattle.sq_query.proofs.key.compared_value.Goals as goal

pub returns-in_err-value-clause-memory : goal.returns-in_err-value-clause-memory
returns-in_err-value-clause-memory c = λ valued.
    let e = c.in_err-value.field-0.0 in
    valued_memory c.from_residual.result e c.args.tests.now c.args.call.now.parameters.now c.args.call.now.user c.args.column c.compared_expr.result.now c.compared_expr.ensures valued (λ tables. c.in_err-value.ensures tables) c.from_residual.ensures.1

pub returns-clause-value : goal.returns-clause-value
returns-clause-value c =
    compared_if c.args.tests.now c.args.call.now.parameters.now c.args.call.now.user c.args.column c.compared_expr.result.now c.in_ok-value.value c.unless_null.result c.compared_expr.ensures (λ tables. c.in_ok-value.ensures tables) c.unless_null.ensures.known

pub returns-clause-found : goal.returns-clause-found
returns-clause-found c =
    known_found c.args.tests.now c.args.call.now.parameters.now c.args.call.now.user c.args.column c.compared_expr.result.now c.in_ok-value.value c.unless_null.result c.compared_expr.ensures (λ tables. c.in_ok-value.ensures tables) c.unless_null.ensures.found
