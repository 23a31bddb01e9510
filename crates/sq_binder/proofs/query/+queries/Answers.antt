-- Left open: the clause finds, and that the loop keeps its invariant; answered by Conditions and others.
use Rattle.std.proofs.Common.{◌+◌, Ok, take, refl, sym, ap, subst, ◌∙◌}
use Rattle.sq_tree.specs.declared.query.Query.{out-Query}
use Rattle.sq_tree.specs.declared.query.QueryTerm.TheVariants as term
use Rattle.sq_meaning.proofs.SpelledLevels.{query_term_of-Bracketed, query_term_of-Specification}
use Rattle.sq_meaning.specs.Spelled.{Named, query_of, query_term_of, select_of}
use Rattle.sq_meaning.specs.Syntax.{Query, Select}
use Rattle.sq_binding.specs.Condition.{select_bound}
use Rattle.sq_binding.specs.QueryExpression.{query_bound}
use Rattle.sq_binding.specs.Seen.{select_seen}
use Rattle.sq_binder.specs.Binds.{Stops}
use Rattle.sq_binder.specs.Found.{Finds, counts_of}
use Rattle.sq_binder.specs.Surroundings.{surroundings}
use Rattle.sq_binder.proofs.Clauses.Conditions.{select_of-out}
use Rattle.sq_binder.proofs.OneByOne.Finds.{stop_found}
use Rattle.sq_binding.specs.SeenQuery.{query_seen, term_seen}
use Rattle.sq_binder.proofs.WholeQueries.Queries.{query_begun, query_next, query_whole, so_far, stops_later}
use Rattle.sq_binder.proofs.query.+queries.Goals as goal

pub bind_query-returns-in_err-joined-clause-finds : goal.bind_query-returns-in_err-joined-clause-finds
bind_query-returns-in_err-joined-clause-finds g t c =
    let a = surroundings g.T.Tables.named c.args.at.now in
    let own = c.args.at.now.environment.now.user in
    let q = c.args.query.now in
    let rest = (out-Query q).rest in
    let stop = c.in_err-joined.field-0.0 in
    stop_found query_seen (query_bound a (query_of own q)) c.args.before c.from_residual.result stop c.from_residual.ensures.1
    (stops_later a (counts_of c.args.before) stop own q rest 0 refl
    (subst (λ (x : Query Named). Stops (query_bound a x (counts_of c.args.before)) stop) (sym (query_begun own q rest))
    (c.in_err-joined.ensures.finds (query_bound a (query_term_of own (out-Query q).first)) c.args.before c.bind_term-first.ensures.finds)))

pub bind_query-loop-union-init : goal.bind_query-loop-union-init
bind_query-loop-union-init g t c =
    let a = surroundings g.T.Tables.named c.args.at.now in
    let own = c.args.at.now.environment.now.user in
    let q = c.args.query.now in (
      subst (λ (x : Query Named). Finds query_seen (query_bound a x) c.args.before (Ok c.in_ok-joined.joined)) (sym (query_begun own q c.as_slice-union-items.result.now))
          (c.in_ok-joined.ensures.finds (query_bound a (query_term_of own (out-Query q).first)) c.args.before c.bind_term-first.ensures.finds),
      c.in_ok-joined.ensures.columns,
    )

pub bind_query-returns-in-Err-clause-finds : goal.bind_query-returns-in-Err-clause-finds
bind_query-returns-in-Err-clause-finds g t c =
    let a = surroundings g.T.Tables.named c.args.at.now in
    let own = c.args.at.now.environment.now.user in
    let q = c.args.query.now in
    let items = c.as_slice-union-items.result.now in
    let i = c.loop-union.union-index in
    let u = c.union-item.result in
    stops_later a (counts_of c.args.before) c.in-Err.stop own q items (i + 1) c.as_slice-union-items.ensures
    (subst (λ (x : Query Named). Stops (query_bound a x (counts_of c.args.before)) c.in-Err.stop) (sym (query_next own q items i u c.loop-union-test.true c.union-item.is))
    (c.in-Err.ensures.finds (query_bound a (so_far own q (take i items))) (query_bound a (query_term_of own u.term)) c.args.before c.loop-union.invariant.0 c.bind_term-term.ensures.finds))

pub bind_query-loop-union-preserved : goal.bind_query-loop-union-preserved
bind_query-loop-union-preserved g t c =
    let a = surroundings g.T.Tables.named c.args.at.now in
    let own = c.args.at.now.environment.now.user in
    let q = c.args.query.now in
    let items = c.as_slice-union-items.result.now in
    let i = c.loop-union.union-index in
    let u = c.union-item.result in (
      subst (λ (x : Query Named). Finds query_seen (query_bound a x) c.args.before (Ok c.in-Ok.more)) (sym (query_next own q items i u c.loop-union-test.true c.union-item.is))
          (c.in-Ok.ensures.finds (query_bound a (so_far own q (take i items))) (query_bound a (query_term_of own u.term)) c.args.before c.loop-union.invariant.0 c.bind_term-term.ensures.finds),
      c.in-Ok.ensures.columns,
    )

pub bind_query-returns-clause-finds : goal.bind_query-returns-clause-finds
bind_query-returns-clause-finds g t c =
    let a = surroundings g.T.Tables.named c.args.at.now in
    let own = c.args.at.now.environment.now.user in
    let q = c.args.query.now in
    subst (λ (x : Query Named). Finds query_seen (query_bound a x) c.args.before (Ok c.loop-union.joined))
    (query_whole own q c.as_slice-union-items.result.now c.loop-union.union-index c.as_slice-union-items.ensures c.loop-union-test.false) c.loop-union.invariant.0

pub bind_term-returns-in-Specification-clause-finds : goal.bind_term-returns-in-Specification-clause-finds
bind_term-returns-in-Specification-clause-finds g t c =
    let a = surroundings g.T.Tables.named c.args.at.now in
    let own = c.args.at.now.environment.now.user in
    let q = c.in-Specification.query in
    subst (λ (x : Query Named). Finds term_seen (query_bound a x) c.args.before c.specification_term.result) (sym (ap (query_term_of own) c.in-Specification.is ∙ query_term_of-Specification own q))
    (c.specification_term.ensures.finds (select_bound a (select_of own q)) c.args.before
    (subst (λ (x : Select Named). Finds select_seen (select_bound a x) c.args.before c.bind_select.result) (sym (select_of-out own q)) c.bind_select.ensures))

pub bind_term-returns-in-Bracketed-clause-finds : goal.bind_term-returns-in-Bracketed-clause-finds
bind_term-returns-in-Bracketed-clause-finds g t c =
    let a = surroundings g.T.Tables.named c.args.at.now in
    let own = c.args.at.now.environment.now.user in
    let q = c.get.result.now in
    subst (λ (x : Query Named). Finds term_seen (query_bound a x) c.args.before c.bracketed_term.result)
    (sym (ap (query_term_of own) (c.in-Bracketed.is ∙ ap term.Bracketed (sym c.get.ensures)) ∙ query_term_of-Bracketed own q))
    (c.bracketed_term.ensures.finds (query_bound a (query_of own q)) c.args.before c.bind_query.ensures.finds)
