-- Left open for value_within: its result; answered by Rows.
use Rattle.sq_expression.specs.Frame.{scopes_beyond}
use Rattle.std.proofs.Common.{[]}
use Rattle.sq_query.proofs.FoundByKey.Rows.{value_within}
use Rattle.sq_query.proofs.around.value_within.Goals as goal

pub returns : goal.returns
returns c = λ tables.
    value_within c.line_frame.result c.args.call.now [] c.line_frame.ensures.functions (scopes_beyond c.args.lines) c.line_frame.ensures.scopes c.args.expr.now c.owned_value.result c.owned_value.ensures tables
