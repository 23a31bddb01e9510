-- Left open for bind_like: its result; answered by Finds and Predicates.
use Rattle.std.proofs.Common.{refl}
use Rattle.std.specs.Option.{option_map}
use Rattle.sq_bound.specs.declared.condition.Predicate.TheVariants as predicate
use Rattle.sq_meaning.specs.Spelled.{expr_of}
use Rattle.sq_meaning.specs.Spelled as spelled
use Rattle.sq_meaning.specs.Syntax.{like}
use Rattle.sq_binding.specs.Condition.{cond_bound, escape_bound, text}
use Rattle.sq_binding.specs.NumberedCondition.{NumberedCond}
use Rattle.sq_binding.specs.Seen.{not_if, numbered_of, predicate_seen}
use Rattle.sq_binding.proofs.Standing.SeenLevels.{predicate_seen-Like}
use Rattle.sq_binder.specs.Found.{both_of, pairs}
use Rattle.sq_binder.specs.Surroundings.{surroundings}
use Rattle.sq_binder.proofs.OneByOne.Finds.{made_found, made_stop}
use Rattle.sq_binder.proofs.Clauses.Predicates.{like_made}
use Rattle.sq_binder.proofs.predicate.bind_like.Goals as goal

pub returns-in_err-part : goal.returns-in_err-part
returns-in_err-part g c =
    let a = surroundings g.T.Tables.named c.args.at.now in
    let e = expr_of c.args.left.now in
    let pattern = expr_of c.args.pattern.now in
    let escape = option_map expr_of c.args.escape.now in
    made_stop numbered_of (both_of numbered_of (option_map numbered_of)) predicate_seen (cond_bound a (spelled.not_if c.args.negated (like e pattern escape))) (text a e) (λ x. pairs (text a pattern) (λ y. escape_bound a escape))
    (λ x w. not_if c.args.negated (NumberedCond.like x w.0 w.1)) (like_made a c.args.negated e pattern escape)
    c.args.before c.in_ok-left.left c.in_ok-left.ensures c.bind_pattern-pattern.result c.bind_pattern-pattern.ensures c.from_residual-in_err-part.result c.in_err-part.field-0.0 c.from_residual-in_err-part.ensures.1 c.in_err-part.ensures

pub returns : goal.returns
returns g c =
    let a = surroundings g.T.Tables.named c.args.at.now in
    let e = expr_of c.args.left.now in
    let pattern = expr_of c.args.pattern.now in
    let escape = option_map expr_of c.args.escape.now in
    let both = c.in_ok-part.field-0 in
    made_found numbered_of (both_of numbered_of (option_map numbered_of)) predicate_seen (cond_bound a (spelled.not_if c.args.negated (like e pattern escape))) (text a e) (λ x. pairs (text a pattern) (λ y. escape_bound a escape))
    (λ x w. not_if c.args.negated (NumberedCond.like x w.0 w.1)) (like_made a c.args.negated e pattern escape)
    c.args.before c.in_ok-left.left c.in_ok-left.ensures c.bind_pattern-pattern.result c.bind_pattern-pattern.ensures
    both (record { part = predicate.Like c.args.negated both.part.0 both.part.1.0 both.part.1.1; brought = both.brought }) c.in_ok-part.ensures refl
    (predicate_seen-Like c.args.negated both.part.0 both.part.1.0 both.part.1.1)
