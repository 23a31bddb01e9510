-- Left open for exprs_by_comparison: its result; answered by what its calls ensure.
use Rattle.std.proofs.Common.{List, subst, sym}
use Rattle.sq_bound.specs.declared.expression.BoundExpr.{BoundExpr}
use Rattle.sq_query.specs.Ways.{IsFoundByTest}
use Rattle.sq_query.specs.declared.named.Sure.TheVariants.{Unnoted}
use Rattle.sq_query.proofs.named_exprs.exprs_by_comparison.Goals as goal

pub returns-in_ok-lend_each-in-Some : goal.returns-in_ok-lend_each-in-Some
returns-in_ok-lend_each-in-Some c =
    subst (λ (es : List BoundExpr). IsFoundByTest c.args.seen.now.item Unnoted c.args.test.now c.args.column es) (sym c.in_ok-lend_each-in-Some.ensures) c.in-Some.ensures
