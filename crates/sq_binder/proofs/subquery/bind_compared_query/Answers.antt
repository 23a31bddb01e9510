-- Left open for bind_compared_query: its result; answered by Finds and Subqueries.
use Rattle.std.proofs.Common.{◌∙◌, refl}
use Rattle.sq_bound.specs.declared.condition.Predicate.TheVariants as predicate
use Rattle.sq_binding.specs.NumberedCondition.{NumberedCond}
use Rattle.sq_binding.specs.Seen.{numbered_of, predicate_seen, select_seen}
use Rattle.sq_binding.proofs.Standing.SeenLevels.{predicate_seen-CompareQuery}
use Rattle.sq_binder.specs.Subquery.{compared_as, compared_side, query_compared}
use Rattle.sq_binder.specs.Surroundings.{typed_of}
use Rattle.sq_binder.proofs.OneByOne.Finds.{made_found, made_stop}
use Rattle.sq_binder.proofs.Clauses.Subqueries.{compared_made}
use Rattle.sq_binder.proofs.subquery.bind_compared_query.Goals as goal

pub returns-in_err-part : goal.returns-in_err-part
returns-in_err-part c = λ b q before left query.
    let op = c.args.comparison in
    let k = c.args.quantifier in
    made_stop typed_of select_seen predicate_seen (query_compared op k b q) b (λ x. compared_side k x.kind q) (λ x y. NumberedCond.compare_query (compared_as k) op x.tree y) (compared_made op k b q)
    before c.args.left left c.compared_side-query.result (c.compared_side-query.ensures q c.args.left.brought.next query) c.from_residual.result c.in_err-part.field-0.0 c.from_residual.ensures.1 c.in_err-part.ensures

pub returns : goal.returns
returns c = λ b q before left query.
    let op = c.args.comparison in
    let k = c.args.quantifier in
    let both = c.in_ok-part.field-0 in
    made_found typed_of select_seen predicate_seen (query_compared op k b q) b (λ x. compared_side k x.kind q) (λ x y. NumberedCond.compare_query (compared_as k) op x.tree y) (compared_made op k b q)
    before c.args.left left c.compared_side-query.result (c.compared_side-query.ensures q c.args.left.brought.next query)
    (record { part = (c.args.left.part, both.part.1); brought = both.brought }) (record { part = predicate.CompareQuery op c.compared_as.result both.part.0 both.part.1; brought = both.brought })
    c.in_ok-part.ensures.0 refl
    (predicate_seen-CompareQuery op c.compared_as.result both.part.0 both.part.1 ∙ (λ i. NumberedCond.compare_query (c.compared_as.ensures i) op (numbered_of (c.in_ok-part.ensures.1 i)) (select_seen both.part.1)))
