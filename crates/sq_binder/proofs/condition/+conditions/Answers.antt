-- Left open: the results, and that the loops keep their invariants; answered by Conditions, Finds and others.
use Rattle.std.proofs.Common.{◌∷◌, Bool, true, false, List, Ok, map, sym, ap, subst, ◌∙◌}
use Rattle.std.specs.Option.{option_map}
use Rattle.sq_tree.specs.declared.cond.Cond.{out-Cond}
use Rattle.sq_tree.specs.declared.cond.Conj.{out-Conj}
use Rattle.sq_tree.specs.declared.cond.TableExpression.{out-TableExpression}
use Rattle.sq_meaning.specs.Spelled.{body_of, clause, cond_of, conj_of, expr_of, is_distinct_word, list_of, listed, listed_if_any, reference_of, select_of, select_of_parts, tail_of, test_of}
use Rattle.sq_meaning.specs.Spelled as spelled
use Rattle.sq_meaning.specs.Syntax.{between}
use Rattle.sq_meaning.proofs.SpelledLevels.{body_of-Bracketed, body_of-Exists, body_of-Predicate, tail_of-Between, tail_of-Compare, tail_of-CompareQuery, tail_of-InList, tail_of-InQuery, tail_of-Like, tail_of-Null}
use Rattle.sq_bound.specs.Expression.{place_meant}
use Rattle.sq_bound.specs.declared.condition.TablePlace.{TablePlace}
use Rattle.sq_binding.specs.Condition.{clause_bound, cond_bound, select_bound, test}
use Rattle.sq_binding.specs.Found.{each, from_first}
use Rattle.sq_binding.specs.NumberedCondition.{NumberedCond}
use Rattle.sq_binding.specs.Scope.{FromItem}
use Rattle.sq_binding.specs.Seen.{cond_seen, conds_in, conj_seen, predicate_seen, select_seen, test_seen}
use Rattle.sq_binding.specs.Select.{grouping_column, is_star, of_groups, of_lines, value}
use Rattle.sq_binder.specs.Binds.{Stops}
use Rattle.sq_binder.specs.Found.{Finds, counts_of, pairs}
use Rattle.sq_binder.specs.From.{clause_of, from_split}
use Rattle.sq_binder.specs.Scope.{item_of}
use Rattle.sq_binder.specs.SelectList.{list_seen, list_split}
use Rattle.sq_binder.specs.Specification.{clause_seen, clauses_bound, clauses_seen, first, groups_bound, groups_seen, parts_seen, shown_bound, shown_seen, specification_of, specified}
use Rattle.sq_binder.specs.Subquery.{among_query, query_compared}
use Rattle.sq_binder.specs.Surroundings.{surroundings}
use Rattle.sq_binder.proofs.Clauses.Conditions.{among_is, compared_is, cond_is, conj_is, parts_of, select_of-out, test_is}
use Rattle.sq_binder.proofs.OneByOne.Finds.{finds_as, makes_found, makes_stop, pairs_found, pairs_stop, stop_found}
use Rattle.sq_binder.proofs.OneByOne.InTurn.{all_found, begun_found, begun_stop, next_found, next_stop}
use Rattle.sq_binder.proofs.Clauses.Inside.{at, inside_groups, inside_lines}
use Rattle.sq_binder.proofs.Clauses.Specifications.{select_is}
use Rattle.sq_binder.proofs.OneByOne.Steps.{stops_as, stops_here}
use Rattle.sq_binder.proofs.Clauses.Subqueries.{among_stops, compared_stops}
use Rattle.sq_binder.proofs.condition.+conditions.Goals as goal

-- ---- conditions

pub bind_cond-returns-in_err-terms : goal.bind_cond-returns-in_err-terms
bind_cond-returns-in_err-terms g t c =
    let a = surroundings g.T.Tables.named c.args.at.now in
    let own = c.args.at.now.environment.now.user in
    let cond = c.args.cond.now in
    let stop = c.in_err-terms.field-0.0 in
    stop_found cond_seen (cond_bound a (cond_of own cond)) c.args.before c.from_residual.result stop c.from_residual.ensures.1
    (makes_stop (map conj_seen) cond_seen (cond_bound a (cond_of own cond)) (each (cond_bound a) (map (conj_of own) ((out-Cond cond).first ∷ (out-Cond cond).rest))) (λ xs. NumberedCond.disjunction (conds_in xs)) (cond_is a own cond) c.args.before stop
    (begun_stop conj_seen (cond_bound a) (conj_of own) c.args.before (out-Cond cond).first (out-Cond cond).rest c.conj_value-first.result stop c.conj_value-first.ensures c.in_err-terms.ensures))

pub bind_cond-loop-conj-init : goal.bind_cond-loop-conj-init
bind_cond-loop-conj-init g t c =
    let a = surroundings g.T.Tables.named c.args.at.now in
    let own = c.args.at.now.environment.now.user in
    let cond = c.args.cond.now in
    begun_found conj_seen (cond_bound a) (conj_of own) c.args.before (out-Cond cond).first (out-Cond cond).rest c.as_slice-conj-items.result.now c.conj_value-first.result c.in_ok-terms.terms
    c.as_slice-conj-items.ensures c.conj_value-first.ensures c.in_ok-terms.ensures

pub bind_cond-loop-conj-preserved : goal.bind_cond-loop-conj-preserved
bind_cond-loop-conj-preserved g t c =
    let a = surroundings g.T.Tables.named c.args.at.now in
    let own = c.args.at.now.environment.now.user in
    let cond = c.args.cond.now in
    next_found conj_seen (cond_bound a) (conj_of own) c.args.before (each (cond_bound a) (map (conj_of own) ((out-Cond cond).first ∷ (out-Cond cond).rest)) (counts_of c.args.before))
    c.as_slice-conj-items.result.now c.loop-conj.conj-index c.loop-conj.terms c.conj-item.result c.conj_value-next.result c.in-Ok.more
    c.loop-conj-test.true c.conj-item.is c.loop-conj.invariant c.conj_value-next.ensures c.in-Ok.ensures

pub bind_cond-returns-in-Err : goal.bind_cond-returns-in-Err
bind_cond-returns-in-Err g t c =
    let a = surroundings g.T.Tables.named c.args.at.now in
    let own = c.args.at.now.environment.now.user in
    let cond = c.args.cond.now in
    makes_stop (map conj_seen) cond_seen (cond_bound a (cond_of own cond)) (each (cond_bound a) (map (conj_of own) ((out-Cond cond).first ∷ (out-Cond cond).rest))) (λ xs. NumberedCond.disjunction (conds_in xs)) (cond_is a own cond) c.args.before c.in-Err.stop
    (next_stop conj_seen (cond_bound a) (conj_of own) c.args.before (each (cond_bound a) (map (conj_of own) ((out-Cond cond).first ∷ (out-Cond cond).rest)) (counts_of c.args.before))
    c.as_slice-conj-items.result.now c.loop-conj.conj-index c.loop-conj.terms c.conj-item.result c.conj_value-next.result c.in-Err.stop
    c.loop-conj-test.true c.conj-item.is c.loop-conj.invariant c.conj_value-next.ensures c.in-Err.ensures)

pub bind_cond-returns : goal.bind_cond-returns
bind_cond-returns g t c =
    let a = surroundings g.T.Tables.named c.args.at.now in
    let own = c.args.at.now.environment.now.user in
    let cond = c.args.cond.now in
    let terms = each (cond_bound a) (map (conj_of own) ((out-Cond cond).first ∷ (out-Cond cond).rest)) in
    makes_found (map conj_seen) cond_seen (cond_bound a (cond_of own cond)) terms (λ xs. NumberedCond.disjunction (conds_in xs)) (cond_is a own cond) c.args.before c.loop-conj.terms c.whole_cond.result
    (all_found conj_seen (cond_bound a) (conj_of own) c.args.before terms c.as_slice-conj-items.result.now c.loop-conj.conj-index c.loop-conj.terms c.loop-conj-test.false c.loop-conj.invariant)
    c.whole_cond.ensures.1 c.whole_cond.ensures.0

-- ---- terms

pub conj_value-returns-in_err-tests : goal.conj_value-returns-in_err-tests
conj_value-returns-in_err-tests g t c =
    let a = surroundings g.T.Tables.named c.args.at.now in
    let own = c.args.at.now.environment.now.user in
    let conj = c.args.conj.now in
    let stop = c.in_err-tests.field-0.0 in
    stop_found conj_seen (cond_bound a (conj_of own conj)) c.args.before c.from_residual.result stop c.from_residual.ensures.1
    (makes_stop (map test_seen) conj_seen (cond_bound a (conj_of own conj)) (each (λ c. test (cond_bound a c)) (map (test_of own) ((out-Conj conj).first ∷ (out-Conj conj).rest))) (λ xs. NumberedCond.conjunction (conds_in xs)) (conj_is a own conj)
    c.args.before stop
    (begun_stop test_seen (λ c. test (cond_bound a c)) (test_of own) c.args.before (out-Conj conj).first (out-Conj conj).rest c.test_value-first.result stop c.test_value-first.ensures c.in_err-tests.ensures))

pub conj_value-loop-test-init : goal.conj_value-loop-test-init
conj_value-loop-test-init g t c =
    let a = surroundings g.T.Tables.named c.args.at.now in
    let own = c.args.at.now.environment.now.user in
    let conj = c.args.conj.now in
    begun_found test_seen (λ c. test (cond_bound a c)) (test_of own) c.args.before (out-Conj conj).first (out-Conj conj).rest c.as_slice-test-items.result.now c.test_value-first.result c.in_ok-tests.tests
    c.as_slice-test-items.ensures c.test_value-first.ensures c.in_ok-tests.ensures

pub conj_value-loop-test-preserved : goal.conj_value-loop-test-preserved
conj_value-loop-test-preserved g t c =
    let a = surroundings g.T.Tables.named c.args.at.now in
    let own = c.args.at.now.environment.now.user in
    let conj = c.args.conj.now in
    next_found test_seen (λ c. test (cond_bound a c)) (test_of own) c.args.before (each (λ c. test (cond_bound a c)) (map (test_of own) ((out-Conj conj).first ∷ (out-Conj conj).rest)) (counts_of c.args.before))
    c.as_slice-test-items.result.now c.loop-test.test-index c.loop-test.tests c.test-item.result c.test_value-next.result c.in-Ok.more
    c.loop-test-test.true c.test-item.is c.loop-test.invariant c.test_value-next.ensures c.in-Ok.ensures

pub conj_value-returns-in-Err : goal.conj_value-returns-in-Err
conj_value-returns-in-Err g t c =
    let a = surroundings g.T.Tables.named c.args.at.now in
    let own = c.args.at.now.environment.now.user in
    let conj = c.args.conj.now in
    makes_stop (map test_seen) conj_seen (cond_bound a (conj_of own conj)) (each (λ c. test (cond_bound a c)) (map (test_of own) ((out-Conj conj).first ∷ (out-Conj conj).rest))) (λ xs. NumberedCond.conjunction (conds_in xs)) (conj_is a own conj)
    c.args.before c.in-Err.stop
    (next_stop test_seen (λ c. test (cond_bound a c)) (test_of own) c.args.before (each (λ c. test (cond_bound a c)) (map (test_of own) ((out-Conj conj).first ∷ (out-Conj conj).rest)) (counts_of c.args.before))
    c.as_slice-test-items.result.now c.loop-test.test-index c.loop-test.tests c.test-item.result c.test_value-next.result c.in-Err.stop
    c.loop-test-test.true c.test-item.is c.loop-test.invariant c.test_value-next.ensures c.in-Err.ensures)

pub conj_value-returns : goal.conj_value-returns
conj_value-returns g t c =
    let a = surroundings g.T.Tables.named c.args.at.now in
    let own = c.args.at.now.environment.now.user in
    let conj = c.args.conj.now in
    let tests = each (λ c. test (cond_bound a c)) (map (test_of own) ((out-Conj conj).first ∷ (out-Conj conj).rest)) in
    makes_found (map test_seen) conj_seen (cond_bound a (conj_of own conj)) tests (λ xs. NumberedCond.conjunction (conds_in xs)) (conj_is a own conj) c.args.before c.loop-test.tests c.whole_conj.result
    (all_found test_seen (λ c. test (cond_bound a c)) (test_of own) c.args.before tests c.as_slice-test-items.result.now c.loop-test.test-index c.loop-test.tests c.loop-test-test.false c.loop-test.invariant)
    c.whole_conj.ensures.1 c.whole_conj.ensures.0

-- ---- tests

pub test_value-returns : goal.test_value-returns
test_value-returns g t c =
    let a = surroundings g.T.Tables.named c.args.at.now in
    let own = c.args.at.now.environment.now.user in
    test_is a own c.args.test.now c.args.before c.whole_test.result (c.whole_test.ensures (cond_bound a (body_of own c.args.test.now.body)) c.args.before c.body_value-predicate.ensures)

pub body_value-returns-in-Predicate : goal.body_value-returns-in-Predicate
body_value-returns-in-Predicate g t c =
    let a = surroundings g.T.Tables.named c.args.at.now in
    let own = c.args.at.now.environment.now.user in
    subst (λ x. Finds predicate_seen (cond_bound a x) c.args.before c.tail_value.result) (sym (ap (body_of own) c.in-Predicate.is ∙ body_of-Predicate own c.in-Predicate.left c.in-Predicate.tail)) c.tail_value.ensures

pub body_value-returns-in-Exists : goal.body_value-returns-in-Exists
body_value-returns-in-Exists g t c =
    let a = surroundings g.T.Tables.named c.args.at.now in
    let own = c.args.at.now.environment.now.user in
    subst (λ x. Finds predicate_seen (cond_bound a x) c.args.before c.bind_exists.result) (sym (ap (body_of own) c.in-Exists.is ∙ body_of-Exists own c.in-Exists.query))
    (c.bind_exists.ensures (select_bound a (select_of own c.in-Exists.query)) c.args.before (subst (λ q. Finds select_seen (select_bound a (select_of own q)) c.args.before c.subquery_value.result) c.get.ensures c.subquery_value.ensures))

pub body_value-returns-in-Bracketed : goal.body_value-returns-in-Bracketed
body_value-returns-in-Bracketed g t c =
    let a = surroundings g.T.Tables.named c.args.at.now in
    let own = c.args.at.now.environment.now.user in
    subst (λ x. Finds predicate_seen (cond_bound a x) c.args.before c.bracket_condition.result) (sym (ap (body_of own) c.in-Bracketed.is ∙ body_of-Bracketed own c.in-Bracketed.cond))
    (c.bracket_condition.ensures (cond_bound a (cond_of own c.in-Bracketed.cond)) c.args.before (subst (λ x. Finds cond_seen (cond_bound a (cond_of own x)) c.args.before c.bind_cond.result) c.get-in-Bracketed.ensures c.bind_cond.ensures))

-- ---- predicates

pub tail_value-returns-in-Compare : goal.tail_value-returns-in-Compare
tail_value-returns-in-Compare g t c =
    let a = surroundings g.T.Tables.named c.args.at.now in
    let own = c.args.at.now.environment.now.user in
    let e = expr_of c.args.left.now in
    let arm = c.in-Compare in
    subst (λ x. Finds predicate_seen (cond_bound a x) c.args.before c.bind_comparison.result) (sym (ap (λ t. tail_of own t e) arm.is ∙ tail_of-Compare own arm.comparison arm.right e)) c.bind_comparison.ensures

pub tail_value-returns-in-Between : goal.tail_value-returns-in-Between
tail_value-returns-in-Between g t c =
    let a = surroundings g.T.Tables.named c.args.at.now in
    let own = c.args.at.now.environment.now.user in
    let e = expr_of c.args.left.now in
    let arm = c.in-Between in
    subst (λ x. Finds predicate_seen (cond_bound a x) c.args.before c.bind_between.result) (sym (ap (λ t. tail_of own t e) arm.is ∙ tail_of-Between own arm.negated arm.low arm.high e))
    (subst (λ high. Finds predicate_seen (cond_bound a (spelled.not_if arm.negated (between e (expr_of arm.low) (expr_of high)))) c.args.before c.bind_between.result) c.get-in-Between.ensures c.bind_between.ensures)

pub tail_value-returns-in-InList : goal.tail_value-returns-in-InList
tail_value-returns-in-InList g t c =
    let a = surroundings g.T.Tables.named c.args.at.now in
    let own = c.args.at.now.environment.now.user in
    let e = expr_of c.args.left.now in
    let arm = c.in-InList in
    subst (λ x. Finds predicate_seen (cond_bound a x) c.args.before c.bind_in_list.result) (sym (ap (λ t. tail_of own t e) arm.is ∙ tail_of-InList own arm.negated arm.list e)) c.bind_in_list.ensures

pub tail_value-returns-in-Like : goal.tail_value-returns-in-Like
tail_value-returns-in-Like g t c =
    let a = surroundings g.T.Tables.named c.args.at.now in
    let own = c.args.at.now.environment.now.user in
    let e = expr_of c.args.left.now in
    let arm = c.in-Like in
    subst (λ x. Finds predicate_seen (cond_bound a x) c.args.before c.bind_like.result) (sym (ap (λ t. tail_of own t e) arm.is ∙ tail_of-Like own arm.negated arm.pattern arm.escape e)) c.bind_like.ensures

pub tail_value-returns-in-Null : goal.tail_value-returns-in-Null
tail_value-returns-in-Null g t c =
    let a = surroundings g.T.Tables.named c.args.at.now in
    let own = c.args.at.now.environment.now.user in
    let e = expr_of c.args.left.now in
    let arm = c.in-Null in
    subst (λ x. Finds predicate_seen (cond_bound a x) c.args.before c.bind_null_test.result) (sym (ap (λ t. tail_of own t e) arm.is ∙ tail_of-Null own arm.negated e)) c.bind_null_test.ensures

pub tail_value-returns-in_err-left-in-CompareQuery : goal.tail_value-returns-in_err-left-in-CompareQuery
tail_value-returns-in_err-left-in-CompareQuery g t c =
    let a = surroundings g.T.Tables.named c.args.at.now in
    let own = c.args.at.now.environment.now.user in
    let e = expr_of c.args.left.now in
    let arm = c.in-CompareQuery in
    let q = select_bound a (select_of own arm.query) in
    let stop = c.in_err-left-in-CompareQuery.field-0.0 in
    stop_found predicate_seen (cond_bound a (tail_of own c.args.tail.now e)) c.args.before c.from_residual.result stop c.from_residual.ensures.1
    (stops_as (cond_bound a (tail_of own c.args.tail.now e) (counts_of c.args.before)) (query_compared arm.comparison arm.quantifier (value a e) q (counts_of c.args.before)) stop
    (ap (λ x. cond_bound a x (counts_of c.args.before)) (ap (λ t. tail_of own t e) arm.is ∙ tail_of-CompareQuery own arm.comparison arm.quantifier arm.query e) ∙ ap (λ b. b (counts_of c.args.before)) (compared_is a arm.comparison arm.quantifier e (select_of own arm.query)))
    (compared_stops arm.comparison arm.quantifier (value a e) q c.args.before stop c.in_err-left-in-CompareQuery.ensures))

pub tail_value-returns-in_ok-left-in-CompareQuery : goal.tail_value-returns-in_ok-left-in-CompareQuery
tail_value-returns-in_ok-left-in-CompareQuery g t c =
    let a = surroundings g.T.Tables.named c.args.at.now in
    let own = c.args.at.now.environment.now.user in
    let e = expr_of c.args.left.now in
    let arm = c.in-CompareQuery in
    let left = c.in_ok-left-in-CompareQuery.left in
    subst (λ b. Finds predicate_seen b c.args.before c.bind_compared_query.result)
    (sym (ap (cond_bound a) (ap (λ t. tail_of own t e) arm.is ∙ tail_of-CompareQuery own arm.comparison arm.quantifier arm.query e) ∙ compared_is a arm.comparison arm.quantifier e (select_of own arm.query)))
    (c.bind_compared_query.ensures (value a e) (select_bound a (select_of own arm.query)) c.args.before c.in_ok-left-in-CompareQuery.ensures
    (subst (λ q. Finds select_seen (select_bound a (select_of own q)) left.brought.next c.subquery_value-query.result) c.get.ensures c.subquery_value-query.ensures))

pub tail_value-returns-in_err-left-in-InQuery : goal.tail_value-returns-in_err-left-in-InQuery
tail_value-returns-in_err-left-in-InQuery g t c =
    let a = surroundings g.T.Tables.named c.args.at.now in
    let own = c.args.at.now.environment.now.user in
    let e = expr_of c.args.left.now in
    let arm = c.in-InQuery in
    let q = select_bound a (select_of own arm.query) in
    let stop = c.in_err-left-in-InQuery.field-0.0 in
    stop_found predicate_seen (cond_bound a (tail_of own c.args.tail.now e)) c.args.before c.from_residual-in_err-left-in-InQuery.result stop c.from_residual-in_err-left-in-InQuery.ensures.1
    (stops_as (cond_bound a (tail_of own c.args.tail.now e) (counts_of c.args.before)) (among_query arm.negated (value a e) q (counts_of c.args.before)) stop
    (ap (λ x. cond_bound a x (counts_of c.args.before)) (ap (λ t. tail_of own t e) arm.is ∙ tail_of-InQuery own arm.negated arm.query e) ∙ ap (λ b. b (counts_of c.args.before)) (among_is a arm.negated e (select_of own arm.query)))
    (among_stops arm.negated (value a e) q c.args.before stop c.in_err-left-in-InQuery.ensures))

pub tail_value-returns-in_ok-left-in-InQuery : goal.tail_value-returns-in_ok-left-in-InQuery
tail_value-returns-in_ok-left-in-InQuery g t c =
    let a = surroundings g.T.Tables.named c.args.at.now in
    let own = c.args.at.now.environment.now.user in
    let e = expr_of c.args.left.now in
    let arm = c.in-InQuery in
    let left = c.in_ok-left-in-InQuery.left in
    subst (λ b. Finds predicate_seen b c.args.before c.bind_in_query.result)
    (sym (ap (cond_bound a) (ap (λ t. tail_of own t e) arm.is ∙ tail_of-InQuery own arm.negated arm.query e) ∙ among_is a arm.negated e (select_of own arm.query)))
    (c.bind_in_query.ensures (value a e) (select_bound a (select_of own arm.query)) c.args.before c.in_ok-left-in-InQuery.ensures
    (subst (λ q. Finds select_seen (select_bound a (select_of own q)) left.brought.next c.subquery_value-query-in-InQuery.result) c.get-in-InQuery.ensures c.subquery_value-query-in-InQuery.ensures))

-- ---- clauses

pub clause_value-returns-in-Some : goal.clause_value-returns-in-Some
clause_value-returns-in-Some g t c =
    let a = surroundings g.T.Tables.named c.args.at.now in
    let own = c.args.at.now.environment.now.user in
    subst (λ cond. Finds clause_seen (clause_bound a (clause (option_map (cond_of own) cond))) c.args.before c.make_present.result) (sym c.in-Some.is)
    (c.make_present.ensures (cond_bound a (cond_of own c.in-Some.cond)) c.args.before c.bind_cond.ensures)

pub where_value-returns : goal.where_value-returns
where_value-returns g t c =
    let a = surroundings g.T.Tables.named c.args.at.now in
    let own = c.args.at.now.environment.now.user in
    let inner = c.within-environment.result in
    let cond = c.args.cond.now in
    c.count_functions.ensures (clause_bound (of_lines (map item_of c.args.items.now) a) (clause (option_map (cond_of own) cond)))
    (inside_lines (λ s u. Finds clause_seen (clause_bound s (clause (option_map (cond_of u) cond))) (first c.args.before) c.clause_value-filter.result) a inner own c.args.items.now
    c.within-environment.ensures.parameters c.within-environment.ensures.user (c.within-environment.ensures.scopes ∙ c.scope_over.ensures)
    (subst (λ n. Finds clause_seen (clause_bound (at a.names inner false) (clause (option_map (cond_of inner.user) cond))) n c.clause_value-filter.result) c.first.ensures c.clause_value-filter.ensures))

pub shown_value-returns-in_err-shown : goal.shown_value-returns-in_err-shown
shown_value-returns-in_err-shown g t c =
    let a = surroundings g.T.Tables.named c.args.at.now in
    let own = c.args.at.now.environment.now.user in
    let inner = c.within-environment.result in
    let items = map item_of c.args.items.now in
    let list = list_of c.args.list.now in
    let having = c.args.having.now in
    let stop = c.in_err-shown.field-0.0 in
    inside_groups (λ s u. Finds shown_seen (shown_bound s items list (clause (option_map (cond_of u) having))) c.args.before c.from_residual.result) a inner own c.args.items.now
    c.within-environment.ensures.parameters c.within-environment.ensures.user c.args.columns (c.within-environment.ensures.scopes ∙ c.scope_over.ensures)
    (stop_found shown_seen (shown_bound (at a.names inner true) items list (clause (option_map (cond_of inner.user) having))) c.args.before c.from_residual.result stop c.from_residual.ensures.1
    (pairs_stop list_seen clause_seen (list_split (at a.names inner true) items list) (λ shown. clause_bound (at a.names inner true) (clause (option_map (cond_of inner.user) having))) c.args.before stop c.in_err-shown.ensures))

pub shown_value-returns : goal.shown_value-returns
shown_value-returns g t c =
    let a = surroundings g.T.Tables.named c.args.at.now in
    let own = c.args.at.now.environment.now.user in
    let inner = c.within-environment.result in
    let items = map item_of c.args.items.now in
    let list = list_of c.args.list.now in
    let having = c.args.having.now in
    inside_groups (λ s u. Finds shown_seen (shown_bound s items list (clause (option_map (cond_of u) having))) c.args.before c.pair_parts.result) a inner own c.args.items.now
    c.within-environment.ensures.parameters c.within-environment.ensures.user c.args.columns (c.within-environment.ensures.scopes ∙ c.scope_over.ensures)
    (pairs_found list_seen clause_seen (list_split (at a.names inner true) items list) (λ shown. clause_bound (at a.names inner true) (clause (option_map (cond_of inner.user) having))) c.args.before
    c.in_ok-shown.shown c.clause_value-having.result c.pair_parts.result c.in_ok-shown.ensures c.clause_value-having.ensures c.pair_parts.ensures)

pub groups_value-returns : goal.groups_value-returns
groups_value-returns g t c =
    let a = surroundings g.T.Tables.named c.args.at.now in
    let own = c.args.at.now.environment.now.user in
    let items = map item_of c.args.items.now in
    let list = list_of c.args.list.now in
    let having = clause (option_map (cond_of own) c.args.having.now) in
    let columns = c.in_ok-columns.columns in
    pairs_found (map place_meant) shown_seen (each (grouping_column (of_lines items a)) (listed_if_any c.args.by.now)) (λ columns. shown_bound (of_groups items columns a) items list having) c.args.before
    columns c.shown_value-shown.result c.pair_parts.result c.in_ok-columns.ensures
    (subst (λ places. Finds shown_seen (shown_bound (of_groups items (map place_meant places) a) items list having) columns.brought.next c.shown_value-shown.result) c.as_slice.ensures c.shown_value-shown.ensures) c.pair_parts.ensures

pub clauses_value-returns : goal.clauses_value-returns
clauses_value-returns g t c =
    let a = surroundings g.T.Tables.named c.args.at.now in
    let own = c.args.at.now.environment.now.user in
    let items = map item_of c.args.items.now in
    let table = out-TableExpression c.args.table.now in
    let filter = clause (option_map (cond_of own) table.where_clause) in
    let having = clause (option_map (cond_of own) table.having) in
    pairs_found clause_seen groups_seen (from_first (clause_bound (of_lines items a) filter)) (λ kept. groups_bound a items (listed_if_any table.group_by) (list_of c.args.list.now) having) c.args.before
    c.in_ok-filter.filter c.groups_value-groups.result c.pair_parts.result c.in_ok-filter.ensures c.groups_value-groups.ensures c.pair_parts.ensures

-- ---- query specifications

pub bind_select-returns-in_err-from : goal.bind_select-returns-in_err-from
bind_select-returns-in_err-from g t c =
    let a = surroundings g.T.Tables.named c.args.at.now in
    let own = c.args.at.now.environment.now.user in
    let table = out-TableExpression c.args.table.now in
    let from = map (reference_of own) (listed table.from) in
    let filter = clause (option_map (cond_of own) table.where_clause) in
    let having = clause (option_map (cond_of own) table.having) in
    let by = listed_if_any table.group_by in
    let list = list_of c.args.list.now in
    let distinct = is_distinct_word c.args.quantifier in
    let counts = counts_of c.args.before in
    let behind = λ (f : List TablePlace × List FromItem). clauses_bound a f.1 filter by list having in
    let stop = c.in_err-from.field-0.0 in
    stop_found select_seen (select_bound a (select_of_parts own c.args.quantifier c.args.list.now c.args.table.now)) c.args.before c.from_residual.result stop c.from_residual.ensures.1
    (stops_as (select_bound a (select_of_parts own c.args.quantifier c.args.list.now c.args.table.now) counts) (specification_of (is_star list) distinct (pairs (from_split a.names from) behind) counts) stop
    (ap (λ q. select_bound a q counts) (parts_of own c.args.quantifier c.args.list.now c.args.table.now) ∙ select_is a distinct list from filter by having counts)
    (stops_here (pairs (from_split a.names from) behind (counts_of (first c.args.before))) (specified (is_star list) distinct) stop
    (pairs_stop clause_of clauses_seen (from_split a.names from) behind (first c.args.before) stop (subst (λ n. Stops (from_split a.names from (counts_of n)) stop) c.first.ensures c.in_err-from.ensures))))

pub bind_select-returns : goal.bind_select-returns
bind_select-returns g t c =
    let a = surroundings g.T.Tables.named c.args.at.now in
    let own = c.args.at.now.environment.now.user in
    let table = out-TableExpression c.args.table.now in
    let from = map (reference_of own) (listed table.from) in
    let filter = clause (option_map (cond_of own) table.where_clause) in
    let having = clause (option_map (cond_of own) table.having) in
    let by = listed_if_any table.group_by in
    let list = list_of c.args.list.now in
    let distinct = is_distinct_word c.args.quantifier in
    let counts = counts_of c.args.before in
    let behind = λ (f : List TablePlace × List FromItem). clauses_bound a f.1 filter by list having in
    let b = pairs (from_split a.names from) behind in
    let found = c.in_ok-from.from in
    let parts : Finds parts_seen b (first c.args.before) c.pair_parts-parts.result =
    pairs_found clause_of clauses_seen (from_split a.names from) behind (first c.args.before) found c.clauses_value-clauses.result c.pair_parts-parts.result
    (subst (λ n. Finds clause_of (from_split a.names from) n (Ok found)) c.first.ensures c.in_ok-from.ensures)
    (subst (λ items. Finds clauses_seen (clauses_bound a (map item_of items) filter by list having) found.brought.next c.clauses_value-clauses.result) c.as_slice-items.ensures c.clauses_value-clauses.ensures)
    c.pair_parts-parts.ensures in
    finds_as select_seen (select_bound a (select_of_parts own c.args.quantifier c.args.list.now c.args.table.now)) (specification_of (is_star list) distinct b) c.args.before c.specification.result
    (ap (λ q. select_bound a q counts) (parts_of own c.args.quantifier c.args.list.now c.args.table.now) ∙ select_is a distinct list from filter by having counts)
    (subst (λ (z : Bool × Bool). Finds select_seen (specification_of z.0 z.1 b) c.args.before c.specification.result) (λ i. (c.is_star.ensures i, c.is_distinct.ensures i)) (c.specification.ensures b parts))

pub subquery_value-returns : goal.subquery_value-returns
subquery_value-returns g t c =
    let a = surroundings g.T.Tables.named c.args.at.now in
    let own = c.args.at.now.environment.now.user in
    subst (λ q. Finds select_seen (select_bound a q) c.args.before c.bind_select.result) (sym (select_of-out own c.args.query.now)) c.bind_select.ensures
