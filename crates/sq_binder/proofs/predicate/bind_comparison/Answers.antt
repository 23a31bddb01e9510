-- Left open for bind_comparison: its result; answered by Finds and Predicates.
use Rattle.std.proofs.Common.{refl}
use Rattle.sq_bound.specs.declared.condition.Predicate.TheVariants as predicate
use Rattle.sq_meaning.specs.Spelled.{expr_of}
use Rattle.sq_meaning.specs.Syntax.{compare}
use Rattle.sq_binding.specs.Condition.{agreeing, cond_bound}
use Rattle.sq_binding.specs.NumberedCondition.{NumberedCond}
use Rattle.sq_binding.specs.Seen.{numbered_of, predicate_seen}
use Rattle.sq_binding.specs.Select.{value}
use Rattle.sq_binding.proofs.Standing.SeenLevels.{predicate_seen-Compare}
use Rattle.sq_binder.specs.Surroundings.{surroundings, typed_of}
use Rattle.sq_binder.proofs.OneByOne.Finds.{made_found}
use Rattle.sq_binder.proofs.Clauses.Predicates.{compare_made}
use Rattle.sq_binder.proofs.predicate.bind_comparison.Goals as goal

pub returns : goal.returns
returns g c =
    let a = surroundings g.T.Tables.named c.args.at.now in
    let e = expr_of c.args.left.now in
    let f = expr_of c.args.right.now in
    let op = c.args.comparison in
    let both = c.in_ok-part.field-0 in
    made_found typed_of numbered_of predicate_seen (cond_bound a (compare op e f)) (value a e) (λ x. agreeing a x.kind f) (λ x y. NumberedCond.compare op x.tree y) (compare_made a op e f)
    c.args.before c.in_ok-left.left c.in_ok-left.ensures c.bind_agreeing-right.result c.bind_agreeing-right.ensures
    both (record { part = predicate.Compare op both.part.0.expr both.part.1; brought = both.brought }) c.in_ok-part.ensures refl (predicate_seen-Compare op both.part.0.expr both.part.1)
