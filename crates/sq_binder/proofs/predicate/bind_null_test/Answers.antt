-- Left open for bind_null_test: its result; answered by Finds and Predicates.
use Rattle.std.proofs.Common.{refl}
use Rattle.sq_bound.specs.declared.condition.Predicate.TheVariants as predicate
use Rattle.sq_meaning.specs.Spelled.{expr_of}
use Rattle.sq_meaning.specs.Spelled as spelled
use Rattle.sq_meaning.specs.Syntax.{is_null}
use Rattle.sq_binding.specs.Condition.{cond_bound}
use Rattle.sq_binding.specs.NumberedCondition.{NumberedCond}
use Rattle.sq_binding.specs.Seen.{not_if, predicate_seen}
use Rattle.sq_binding.specs.Select.{value}
use Rattle.sq_binding.proofs.Standing.SeenLevels.{predicate_seen-Null}
use Rattle.sq_binder.specs.Surroundings.{surroundings, typed_of}
use Rattle.sq_binder.proofs.OneByOne.Finds.{makes_found}
use Rattle.sq_binder.proofs.Clauses.Predicates.{null_made}
use Rattle.sq_binder.proofs.predicate.bind_null_test.Goals as goal

pub returns : goal.returns
returns g c =
    let a = surroundings g.T.Tables.named c.args.at.now in
    let e = expr_of c.args.left.now in
    let x = c.in_ok-part.field-0 in
    makes_found typed_of predicate_seen (cond_bound a (spelled.not_if c.args.negated (is_null e))) (value a e) (λ x. not_if c.args.negated (NumberedCond.is_null x.tree)) (null_made a c.args.negated e)
    c.args.before x (record { part = predicate.Null c.args.negated x.part.expr; brought = x.brought }) c.in_ok-part.ensures refl (predicate_seen-Null c.args.negated x.part.expr)
