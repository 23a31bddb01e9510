-- Left open: the calls of add_term and add_specifications, the results, and the loop's invariant; answered by OfQueries.
use Rattle.std.proofs.Common.{◌≡◌, ◌++◌, ◌∙◌, List, ap, arith, rules, subst, sym}
use Rattle.std.specs.Prelude.{OnOk, flat_map}
use Rattle.sq_bound.specs.Joined.{specifications_of, term_specifications, union_specifications}
use Rattle.sq_bound.specs.declared.condition.BoundSpecification.{BoundSpecification}
use Rattle.sq_bound.specs.declared.query.BoundUnion.{BoundUnion}
use Rattle.sq_bound.proofs.JoinedLaws.{term_specifications-Bracketed, term_specifications-Specification}
use Rattle.sq_query.proofs.ByUnion.QuerySizes.{bracketed_smaller, first_smaller, union_smaller}
use Rattle.sq_cause.specs.QueryCause.{lent_queries}
use Rattle.sq_cause.proofs.OfQueries.{all_of, first_of, lent_more, next_of}
use Rattle.sq_cause.proofs.query_cause.+add_specifications.Goals as goal

pub add_specifications-loop-union-init : goal.add_specifications-loop-union-init
add_specifications-loop-union-init t c =
    let old = lent_queries c.args.all.now.items in
    let now = lent_queries c.add_term.new.all.items in
    ap (λ (us : List BoundUnion). now ++ flat_map union_specifications us) c.as_slice-union-items.ensures ∙ first_of old now c.args.query.now c.in_ok-add_term.ensures

pub add_specifications-loop-union-preserved : goal.add_specifications-loop-union-preserved
add_specifications-loop-union-preserved t c =
    next_of (lent_queries c.loop-union.all.items) (lent_queries c.add_term-in-loop-union.new.all.items) (lent_queries c.args.all.now.items ++ specifications_of c.args.query.now)
    c.as_slice-union-items.result.now c.loop-union.union-index c.union-item.result c.loop-union-test.true c.union-item.is c.in_ok-add_term-2.ensures c.loop-union.invariant

pub add_specifications-returns : goal.add_specifications-returns
add_specifications-returns t c =
    all_of (lent_queries c.loop-union.all.items) (lent_queries c.args.all.now.items ++ specifications_of c.args.query.now) c.as_slice-union-items.result.now c.loop-union.union-index c.loop-union-test.false c.loop-union.invariant

pub add_term-returns-in_ok-push-in-Specification : goal.add_term-returns-in_ok-push-in-Specification
add_term-returns-in_ok-push-in-Specification t c =
    let old = c.args.all.now.items in
    ap lent_queries c.in_ok-push-in-Specification.ensures.items
    ∙ lent_more old _
    ∙ ap (λ (qs : List BoundSpecification). lent_queries old ++ qs) (sym (ap term_specifications c.in-Specification.is ∙ term_specifications-Specification _))

pub add_term-returns-in-Bracketed : goal.add_term-returns-in-Bracketed
add_term-returns-in-Bracketed t c =
    let old = lent_queries c.args.all.now.items in
    let now = lent_queries c.add_specifications.new.all.items in
    let same = ap term_specifications c.in-Bracketed.is ∙ term_specifications-Bracketed _ ∙ ap specifications_of (sym c.get.ensures) in
    subst (λ (qs : List BoundSpecification). OnOk c.add_specifications.result (now ≡ old ++ qs)) (sym same) c.add_specifications.ensures

pub add_specifications-add_term-requires : goal.add_specifications-add_term-requires
add_specifications-add_term-requires t c = (omega (arith, first_smaller c.args.query.now, c.decreases), search rules)

pub add_specifications-add_term-requires-in-loop-union : goal.add_specifications-add_term-requires-in-loop-union
add_specifications-add_term-requires-in-loop-union t c =
    let unions = c.as_slice-union-items.result.now in
    (omega (arith, union_smaller c.args.query.now unions c.loop-union.union-index c.union-item.result c.as_slice-union-items.ensures c.loop-union-test.true c.union-item.is, c.decreases), search rules)

pub add_term-add_specifications-requires : goal.add_term-add_specifications-requires
add_term-add_specifications-requires t c =
    (omega (arith, bracketed_smaller c.args.term.now _ c.get.result.now c.in-Bracketed.is c.get.ensures, c.decreases), search rules)
