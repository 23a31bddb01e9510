-- Left open for bind_in_query: its result; answered by Finds and Subqueries.
use Rattle.std.proofs.Common.{◌∙◌, refl}
use Rattle.sq_bound.specs.declared.condition.Predicate.TheVariants as predicate
use Rattle.sq_binding.specs.Condition.{beside}
use Rattle.sq_binding.specs.NumberedCondition.{NumberedCond}
use Rattle.sq_binding.specs.Seen.{not_if, numbered_of, predicate_seen, select_seen}
use Rattle.sq_binding.proofs.Standing.SeenLevels.{predicate_seen-InQuery}
use Rattle.sq_binder.specs.Subquery.{among_query}
use Rattle.sq_binder.specs.Surroundings.{typed_of}
use Rattle.sq_binder.proofs.OneByOne.Finds.{made_found, made_stop}
use Rattle.sq_binder.proofs.Clauses.Subqueries.{among_made}
use Rattle.sq_binder.proofs.subquery.bind_in_query.Goals as goal

pub returns-in_err-part : goal.returns-in_err-part
returns-in_err-part c = λ b q before left query.
    let n = c.args.negated in
    made_stop typed_of select_seen predicate_seen (among_query n b q) b (λ x. beside x.kind q) (λ x y. not_if n (NumberedCond.in_query x.tree y)) (among_made n b q)
    before c.args.left left c.check_beside-query.result (c.check_beside-query.ensures q c.args.left.brought.next query) c.from_residual.result c.in_err-part.field-0.0 c.from_residual.ensures.1 c.in_err-part.ensures

pub returns : goal.returns
returns c = λ b q before left query.
    let n = c.args.negated in
    let both = c.in_ok-part.field-0 in
    made_found typed_of select_seen predicate_seen (among_query n b q) b (λ x. beside x.kind q) (λ x y. not_if n (NumberedCond.in_query x.tree y)) (among_made n b q)
    before c.args.left left c.check_beside-query.result (c.check_beside-query.ensures q c.args.left.brought.next query)
    (record { part = (c.args.left.part, both.part.1); brought = both.brought }) (record { part = predicate.InQuery n both.part.0 both.part.1; brought = both.brought })
    c.in_ok-part.ensures.0 refl
    (predicate_seen-InQuery n both.part.0 both.part.1 ∙ (λ i. not_if n (NumberedCond.in_query (numbered_of (c.in_ok-part.ensures.1 i)) (select_seen both.part.1))))
