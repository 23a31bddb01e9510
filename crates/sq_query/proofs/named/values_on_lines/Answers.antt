-- Left open: the clause known, and that the loop keeps its invariant; answered by KeyTests.
use Rattle.std.proofs.Common.{[], subst, sym}
use Rattle.std.specs.List.{AllZip}
use Rattle.sq_bound.specs.declared.expression.BoundExpr.{BoundExpr}
use Rattle.sq_query.specs.Sought.{IsSameOnLines}
use Rattle.sq_query.proofs.Keys.KeyTests.{if_some, zip_all, zip_more}
use Rattle.sq_query.proofs.named.values_on_lines.Goals as goal

pub loop-expr-init : goal.loop-expr-init
loop-expr-init c = subst (AllZip (IsSameOnLines c.args.sought.now c.args.call.now.parameters.now c.args.call.now.user) []) (sym c.new-values.ensures.items) tt

pub loop-expr-preserved : goal.loop-expr-preserved
loop-expr-preserved c =
    let R = IsSameOnLines c.args.sought.now c.args.call.now.parameters.now c.args.call.now.user in
    let i = c.loop-expr.expr-index in
    let e = c.expr-item.result in
    zip_more R c.args.exprs.now i e c.loop-expr.values.items c.push.new.self.items c.in-Some.value c.loop-expr-test.true c.loop-expr.invariant
    (subst (λ (x : BoundExpr). R x c.in-Some.value) c.expr-item.is (if_some (R e) c.in_ok-value.field-0 c.in-Some.value c.in_ok-value.ensures.known c.in-Some.is)) c.in_ok-push-in-Some.ensures.items

pub returns-clause-known : goal.returns-clause-known
returns-clause-known c =
    zip_all (IsSameOnLines c.args.sought.now c.args.call.now.parameters.now c.args.call.now.user) c.args.exprs.now c.loop-expr.expr-index c.loop-expr.values.items c.loop-expr-test.false c.loop-expr.invariant
