-- Left open for bind_in_list: its result; answered by Finds and Predicates.
use Rattle.std.proofs.Common.{map, refl}
use Rattle.sq_bound.specs.declared.condition.Predicate.TheVariants as predicate
use Rattle.sq_meaning.specs.Spelled.{expr_of, listed}
use Rattle.sq_meaning.specs.Spelled as spelled
use Rattle.sq_meaning.specs.Syntax.{in_list}
use Rattle.sq_binding.specs.Condition.{agreeing, cond_bound}
use Rattle.sq_binding.specs.Found.{each}
use Rattle.sq_binding.specs.NumberedCondition.{NumberedCond}
use Rattle.sq_binding.specs.Seen.{not_if, numbered_of, predicate_seen}
use Rattle.sq_binding.specs.Select.{value}
use Rattle.sq_binding.proofs.Standing.SeenLevels.{predicate_seen-InList}
use Rattle.sq_binder.specs.Surroundings.{surroundings, typed_of}
use Rattle.sq_binder.proofs.OneByOne.Finds.{made_found, made_stop}
use Rattle.sq_binder.proofs.Clauses.Predicates.{in_list_made}
use Rattle.sq_binder.proofs.predicate.bind_in_list.Goals as goal

pub returns-in_err-part : goal.returns-in_err-part
returns-in_err-part g c =
    let a = surroundings g.T.Tables.named c.args.at.now in
    let e = expr_of c.args.left.now in
    let es = map expr_of (listed c.args.list.now) in
    made_stop typed_of (map numbered_of) predicate_seen (cond_bound a (spelled.not_if c.args.negated (in_list e es))) (value a e) (λ x. each (agreeing a x.kind) es)
    (λ x ys. not_if c.args.negated (NumberedCond.in_list x.tree ys)) (in_list_made a c.args.negated e es)
    c.args.before c.in_ok-left.left c.in_ok-left.ensures c.bind_list-list.result c.bind_list-list.ensures c.from_residual-in_err-part.result c.in_err-part.field-0.0 c.from_residual-in_err-part.ensures.1 c.in_err-part.ensures

pub returns : goal.returns
returns g c =
    let a = surroundings g.T.Tables.named c.args.at.now in
    let e = expr_of c.args.left.now in
    let es = map expr_of (listed c.args.list.now) in
    let both = c.in_ok-part.field-0 in
    made_found typed_of (map numbered_of) predicate_seen (cond_bound a (spelled.not_if c.args.negated (in_list e es))) (value a e) (λ x. each (agreeing a x.kind) es)
    (λ x ys. not_if c.args.negated (NumberedCond.in_list x.tree ys)) (in_list_made a c.args.negated e es)
    c.args.before c.in_ok-left.left c.in_ok-left.ensures c.bind_list-list.result c.bind_list-list.ensures
    both (record { part = predicate.InList c.args.negated both.part.0.expr both.part.1; brought = both.brought }) c.in_ok-part.ensures refl
    (predicate_seen-InList c.args.negated both.part.0.expr both.part.1)
