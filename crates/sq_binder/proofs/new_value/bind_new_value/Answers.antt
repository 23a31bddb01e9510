-- Left open for bind_new_value: the clauses finds and plain; answered by Images, NewValues and Turned.
use Rattle.std.proofs.Common.{Ok, sym, ap, subst, ◌∙◌}
use Rattle.sq_value.specs.declared.value.Value.TheVariants as value
use Rattle.sq_binding.specs.Change.{new_value_bound}
use Rattle.sq_binding.specs.Numbered.{Numbered}
use Rattle.sq_binding.specs.Seen.{numbered_of}
use Rattle.sq_binder.specs.Found.{Finds}
use Rattle.sq_binder.specs.Surroundings.{surroundings}
use Rattle.sq_binder.proofs.Expressions.Images.{numbered_of-Literal}
use Rattle.sq_binder.proofs.Expressions.NewValues.{value_is, value_plain}
use Rattle.sq_binder.proofs.OneByOne.Turned.{alone_seen}
use Rattle.sq_binder.proofs.new_value.bind_new_value.Goals as goal

pub returns-in-Expr-clause-finds : goal.returns-in-Expr-clause-finds
returns-in-Expr-clause-finds g c =
    let a = surroundings g.T.Tables.named c.args.at.now in
    subst (λ b. Finds numbered_of b c.args.before c.bind_agreeing.result) (sym (ap (new_value_bound a c.args.kind) c.in-Expr.is ∙ value_is a c.args.kind c.in-Expr.expr)) c.bind_agreeing.ensures

pub returns-in-Null-clause-finds : goal.returns-in-Null-clause-finds
returns-in-Null-clause-finds g c =
    let a = surroundings g.T.Tables.named c.args.at.now in
    subst (λ v. Finds numbered_of (new_value_bound a c.args.kind v) c.args.before (Ok c.bring_nothing.result)) (sym c.in-Null.is)
    (alone_seen numbered_of (Numbered.literal value.Null) c.bring_nothing.result c.args.before (ap (λ x. numbered_of x.part) c.bring_nothing.ensures ∙ numbered_of-Literal value.Null) (ap (λ x. x.brought) c.bring_nothing.ensures))

pub returns-in-Expr-clause-plain : goal.returns-in-Expr-clause-plain
returns-in-Expr-clause-plain g c = value_plain (surroundings g.T.Tables.named c.args.at.now) c.args.kind c.in-Expr.expr c.args.before c.bind_agreeing.result c.bind_agreeing.ensures

pub returns-in-Null-clause-plain : goal.returns-in-Null-clause-plain
returns-in-Null-clause-plain g c = λ null. ap (λ x. x.part) c.bring_nothing.ensures
