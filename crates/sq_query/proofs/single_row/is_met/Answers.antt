-- Left open for is_met: its result; answered by Expressions of sq_expression.
use Rattle.std.proofs.Common.{None, map, sym}
use Rattle.sq_meaning.specs.Syntax.{literal}
use Rattle.sq_meaning.specs.Query.{truth}
use Rattle.sq_bound.specs.Condition.{cond_of}
use Rattle.sq_condition.specs.Condition.{cond_on}
use Rattle.sq_expression.specs.Frame.{group_values, inputs_of, lent, reading, truth_in}
use Rattle.sq_expression.specs.Lines.{line_env}
use Rattle.sq_expression.proofs.Expressions.{meets_by}
use Rattle.sq_query.proofs.single_row.is_met.Goals as goal

pub returns : goal.returns
returns c =
    let context = c.args.call.now in
    let having = c.args.having.now in
    let frame = c.frame.result in
    let met = truth (reading context) (cond_of (map literal c.args.group.now.functions.items) having) (line_env (lent c.args.group.now.line.items) None context) in
    let f = sym c.frame.ensures.functions in
    let s = sym c.frame.ensures.scopes in
    c.is_true-is_met.ensures met
    (meets_by c.truth.result met (truth_in frame context (cond_on frame having))
    (λ i. truth (reading context) (cond_of (map literal (f i)) having) (record { scopes = s i; inputs = inputs_of context.parameters.now; user = context.user }))
    (c.truth.ensures.plain (c.requires (map literal (group_values frame)))))
