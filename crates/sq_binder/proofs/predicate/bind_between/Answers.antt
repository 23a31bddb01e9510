-- Left open for bind_between: its result; answered by Finds and Predicates.
use Rattle.std.proofs.Common.{refl}
use Rattle.sq_bound.specs.declared.condition.Predicate.TheVariants as predicate
use Rattle.sq_meaning.specs.Spelled.{expr_of}
use Rattle.sq_meaning.specs.Spelled as spelled
use Rattle.sq_meaning.specs.Syntax.{between}
use Rattle.sq_binding.specs.Condition.{agreeing, cond_bound}
use Rattle.sq_binding.specs.NumberedCondition.{NumberedCond}
use Rattle.sq_binding.specs.Seen.{not_if, numbered_of, predicate_seen}
use Rattle.sq_binding.specs.Select.{value}
use Rattle.sq_binding.proofs.Standing.SeenLevels.{predicate_seen-Between}
use Rattle.sq_binder.specs.Found.{both_of, pairs}
use Rattle.sq_binder.specs.Surroundings.{surroundings, typed_of}
use Rattle.sq_binder.proofs.OneByOne.Finds.{made_found, made_stop}
use Rattle.sq_binder.proofs.Clauses.Predicates.{between_made}
use Rattle.sq_binder.proofs.predicate.bind_between.Goals as goal

pub returns-in_err-part : goal.returns-in_err-part
returns-in_err-part g c =
    let a = surroundings g.T.Tables.named c.args.at.now in
    let e = expr_of c.args.left.now in
    let low = expr_of c.args.low.now in
    let high = expr_of c.args.high.now in
    made_stop typed_of (both_of numbered_of numbered_of) predicate_seen (cond_bound a (spelled.not_if c.args.negated (between e low high))) (value a e) (λ x. pairs (agreeing a x.kind low) (λ y. agreeing a x.kind high))
    (λ x w. not_if c.args.negated (NumberedCond.between x.tree w.0 w.1)) (between_made a c.args.negated e low high)
    c.args.before c.in_ok-left.left c.in_ok-left.ensures c.bind_bounds-bounds.result c.bind_bounds-bounds.ensures c.from_residual-in_err-part.result c.in_err-part.field-0.0 c.from_residual-in_err-part.ensures.1 c.in_err-part.ensures

pub returns : goal.returns
returns g c =
    let a = surroundings g.T.Tables.named c.args.at.now in
    let e = expr_of c.args.left.now in
    let low = expr_of c.args.low.now in
    let high = expr_of c.args.high.now in
    let both = c.in_ok-part.field-0 in
    made_found typed_of (both_of numbered_of numbered_of) predicate_seen (cond_bound a (spelled.not_if c.args.negated (between e low high))) (value a e) (λ x. pairs (agreeing a x.kind low) (λ y. agreeing a x.kind high))
    (λ x w. not_if c.args.negated (NumberedCond.between x.tree w.0 w.1)) (between_made a c.args.negated e low high)
    c.args.before c.in_ok-left.left c.in_ok-left.ensures c.bind_bounds-bounds.result c.bind_bounds-bounds.ensures
    both (record { part = predicate.Between c.args.negated both.part.0.expr both.part.1.0 both.part.1.1; brought = both.brought }) c.in_ok-part.ensures refl
    (predicate_seen-Between c.args.negated both.part.0.expr both.part.1.0 both.part.1.1)
