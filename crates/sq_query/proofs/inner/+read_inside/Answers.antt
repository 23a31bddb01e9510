-- Left open: the clause found, and that the loop keeps its invariant; answered by Served, ServedWhere and ServedHaving.
use Rattle.std.proofs.Common.{[], List, Bor, inl, inr, ap, refl, subst, sym, ◌∙◌}
use Rattle.std.specs.Prelude.{IfOk}
use Rattle.sq_bound.specs.Condition.{cond_of, conj_of, predicate_of}
use Rattle.sq_bound.specs.Noted.{CondIsNoted, IsNoted}
use Rattle.sq_bound.specs.Numbered.{ConjWith, PredicateWith}
use Rattle.sq_bound.specs.declared.condition.Predicate.TheVariants as bound
use Rattle.sq_expression.specs.Frame.{scopes_of}
use Rattle.sq_expression.specs.declared.table.BaseRows.{BaseRows}
use Rattle.sq_meaning.specs.Environment.{Row}
use Rattle.sq_query.specs.Inner.{IsLineBeneath, ServesLine}
use Rattle.sq_query.proofs.FoundByKey.Served.{bracketed_serves, cond_none, subquery_serves, test_more, term_more}
use Rattle.sq_query.proofs.FoundByKey.ServedHaving.{having_found}
use Rattle.sq_query.proofs.FoundByKey.ServedWhere.{items_serve, line_found, select_both, select_none, select_then, where_found}
use Rattle.sq_query.proofs.inner.+read_inside.Goals as goal

pub with_select-returns-clause-found : goal.with_select-returns-clause-found
with_select-returns-clause-found g t c =
    let q = c.args.query.now in
    let content = g.S.Store.content_now c.args.store.now in
    let keys = g.S.Store.key_columns c.args.store.now in
    let values = c.args.call.now.parameters.now in
    let user = c.args.call.now.user in
    let elsewhere = c.args.elsewhere.now in
    let a = c.args.around.now in
    let items = items_serve q content keys values user elsewhere a c.in_ok-others.others c.in_ok-others.ensures c.args.before.items c.in_ok-own.own.items c.in_ok-own.ensures.found in
    select_then q content keys values user elsewhere a c.args.before.items c.in_ok-lines.lines.items c.with_having.result
    (select_both q content keys values user elsewhere a c.args.before.items c.in_ok-own.own.items c.in_ok-lines.lines.items items c.in_ok-lines.ensures.found) c.with_having.ensures.found

pub with_where-returns-in_default-clause-found : goal.with_where-returns-in_default-clause-found
with_where-returns-in_default-clause-found g t c =
    select_none c.args.query.now (g.S.Store.content_now c.args.store.now) (g.S.Store.key_columns c.args.store.now) c.args.call.now.parameters.now c.args.call.now.user c.args.elsewhere.now c.args.around.now c.args.before.items

pub with_where-returns-then-not-branch-clause-found : goal.with_where-returns-then-not-branch-clause-found
with_where-returns-then-not-branch-clause-found g t c =
    select_none c.args.query.now (g.S.Store.content_now c.args.store.now) (g.S.Store.key_columns c.args.store.now) c.args.call.now.parameters.now c.args.call.now.user c.args.elsewhere.now c.args.around.now c.args.before.items

pub with_where-returns-clause-found : goal.with_where-returns-clause-found
with_where-returns-clause-found g t c =
    where_found c.args.query.now (g.S.Store.content_now c.args.store.now) (g.S.Store.key_columns c.args.store.now) c.args.call.now.parameters.now c.args.call.now.user c.args.elsewhere.now c.args.around.now c.in-Some.condition c.in-Some.is
    c.in_ok-others.others c.in_ok-others.ensures c.args.before.items c.in_ok-line.line.standing c.as_slice-rows.result.now
    (subst (λ (r : List (Bor Row)). IsLineBeneath c.args.query.now c.args.around.now c.args.before.items c.in_ok-line.line.standing r) (sym c.as_slice-rows.ensures.value)
    (subst (λ (l : List BaseRows). IsLineBeneath c.args.query.now c.args.around.now l c.in_ok-line.line.standing c.in_ok-line.line.rows.items) c.as_slice.ensures.value c.in_ok-line.ensures)) c.with_line-found.result c.with_line-found.ensures.found

pub with_having-returns-in_default-clause-found : goal.with_having-returns-in_default-clause-found
with_having-returns-in_default-clause-found g t c =
    select_none c.args.query.now (g.S.Store.content_now c.args.store.now) (g.S.Store.key_columns c.args.store.now) c.args.call.now.parameters.now c.args.call.now.user c.args.elsewhere.now c.args.around.now c.args.before.items

pub with_having-returns-in_default-having-clause-found : goal.with_having-returns-in_default-having-clause-found
with_having-returns-in_default-having-clause-found g t c =
    select_none c.args.query.now (g.S.Store.content_now c.args.store.now) (g.S.Store.key_columns c.args.store.now) c.args.call.now.parameters.now c.args.call.now.user c.args.elsewhere.now c.args.around.now c.args.before.items

pub with_having-returns-then-not-branch-clause-found : goal.with_having-returns-then-not-branch-clause-found
with_having-returns-then-not-branch-clause-found g t c =
    select_none c.args.query.now (g.S.Store.content_now c.args.store.now) (g.S.Store.key_columns c.args.store.now) c.args.call.now.parameters.now c.args.call.now.user c.args.elsewhere.now c.args.around.now c.args.before.items

pub with_having-returns-clause-found : goal.with_having-returns-clause-found
with_having-returns-clause-found g t c =
    having_found c.args.query.now (g.S.Store.content_now c.args.store.now) (g.S.Store.key_columns c.args.store.now) c.args.call.now.parameters.now c.args.call.now.user c.args.elsewhere.now c.args.around.now c.in-Some.grouping c.in-Some.is c.in-Some-having.condition c.in-Some-having.is
    c.on_groups-groups.result c.on_groups-groups.ensures c.in_ok-others.others c.in_ok-others.ensures c.args.before.items c.with_condition-found.result c.with_condition-found.ensures.found

pub with_line-returns-clause-found : goal.with_line-returns-clause-found
with_line-returns-clause-found g t c =
    subst (λ ss. IfOk c.with_lines.result (λ found. ServesLine c.args.condition.now c.args.elsewhere.now c.args.standing ss (g.S.Store.content_now c.args.store.now) (g.S.Store.key_columns c.args.store.now) c.args.call.now.parameters.now c.args.call.now.user c.args.before.items found.items))
    c.line_beneath.ensures c.with_lines.ensures.found

pub with_lines-returns-clause-found : goal.with_lines-returns-clause-found
with_lines-returns-clause-found g t c =
    line_found c.args.condition.now (g.S.Store.content_now c.args.store.now) (g.S.Store.key_columns c.args.store.now) c.args.call.now.parameters.now c.args.call.now.user c.args.elsewhere.now _ (scopes_of c.args.lines.now) refl c.args.before.items
    c.with_condition.result (c.with_condition.ensures.found [])

pub with_condition-loop-number-init : goal.with_condition-loop-number-init
with_condition-loop-number-init g t c = λ functions.
    cond_none (g.S.Store.content_now c.args.store.now) (g.S.Store.key_columns c.args.store.now) c.args.call.now.parameters.now c.args.call.now.user c.args.elsewhere.now c.args.around.now (cond_of functions c.args.condition.now) (CondIsNoted c.args.condition.now) c.args.before.items

pub with_condition-loop-number-preserved : goal.with_condition-loop-number-preserved
with_condition-loop-number-preserved g t c = λ functions.
    term_more (g.S.Store.content_now c.args.store.now) (g.S.Store.key_columns c.args.store.now) c.args.call.now.parameters.now c.args.call.now.user c.args.elsewhere.now c.args.around.now functions c.args.condition.now c.as_slice-terms.result.now c.as_slice-terms.ensures
    c.loop-number.number c.index-terms-number.result c.loop-number-test.true c.index-terms-number.is c.in_ok-others.others (c.in_ok-others.ensures functions) c.args.before.items c.loop-number.found.items c.in_ok-found.found.items (c.loop-number.invariant functions) (c.in_ok-found.ensures.found functions)

pub with_term-loop-number-init : goal.with_term-loop-number-init
with_term-loop-number-init g t c = λ functions.
    cond_none (g.S.Store.content_now c.args.store.now) (g.S.Store.key_columns c.args.store.now) c.args.call.now.parameters.now c.args.call.now.user c.args.elsewhere.now c.args.around.now (conj_of functions c.args.term.now) (ConjWith IsNoted c.args.term.now) c.args.before.items

pub with_term-loop-number-preserved : goal.with_term-loop-number-preserved
with_term-loop-number-preserved g t c = λ functions.
    test_more (g.S.Store.content_now c.args.store.now) (g.S.Store.key_columns c.args.store.now) c.args.call.now.parameters.now c.args.call.now.user c.args.elsewhere.now c.args.around.now functions c.args.term.now c.as_slice-tests.result.now c.as_slice-tests.ensures
    c.loop-number.number c.index-tests-number.result c.loop-number-test.true c.index-tests-number.is c.in_ok-others.others (c.in_ok-others.ensures functions) c.args.before.items c.loop-number.found.items c.in_ok-found.found.items (c.loop-number.invariant functions) (c.in_ok-found.ensures.found functions)

pub with_predicate-returns-in-CompareQuery-clause-found : goal.with_predicate-returns-in-CompareQuery-clause-found
with_predicate-returns-in-CompareQuery-clause-found g t c = λ functions.
    subquery_serves (g.S.Store.content_now c.args.store.now) (g.S.Store.key_columns c.args.store.now) c.args.call.now.parameters.now c.args.call.now.user c.args.elsewhere.now c.args.around.now functions c.args.predicate.now c.get.result.now
    (inl (_, _, _, c.in-CompareQuery.is ∙ ap (bound.CompareQuery _ _ _) (sym c.get.ensures))) c.args.before.items c.with_select.result c.with_select.ensures.found

pub with_predicate-returns-in-InQuery-clause-found : goal.with_predicate-returns-in-InQuery-clause-found
with_predicate-returns-in-InQuery-clause-found g t c = λ functions.
    subquery_serves (g.S.Store.content_now c.args.store.now) (g.S.Store.key_columns c.args.store.now) c.args.call.now.parameters.now c.args.call.now.user c.args.elsewhere.now c.args.around.now functions c.args.predicate.now c.get-in-InQuery.result.now
    (inr (inl (_, _, c.in-InQuery.is ∙ ap (bound.InQuery _ _) (sym c.get-in-InQuery.ensures)))) c.args.before.items c.with_select-in-InQuery.result c.with_select-in-InQuery.ensures.found

pub with_predicate-returns-in-Exists-clause-found : goal.with_predicate-returns-in-Exists-clause-found
with_predicate-returns-in-Exists-clause-found g t c = λ functions.
    subquery_serves (g.S.Store.content_now c.args.store.now) (g.S.Store.key_columns c.args.store.now) c.args.call.now.parameters.now c.args.call.now.user c.args.elsewhere.now c.args.around.now functions c.args.predicate.now c.get-in-Exists.result.now
    (inr (inr (c.in-Exists.is ∙ ap bound.Exists (sym c.get-in-Exists.ensures)))) c.args.before.items c.with_select-in-Exists.result c.with_select-in-Exists.ensures.found

pub with_predicate-returns-in-Bracketed-clause-found : goal.with_predicate-returns-in-Bracketed-clause-found
with_predicate-returns-in-Bracketed-clause-found g t c = λ functions.
    bracketed_serves (g.S.Store.content_now c.args.store.now) (g.S.Store.key_columns c.args.store.now) c.args.call.now.parameters.now c.args.call.now.user c.args.elsewhere.now c.args.around.now functions c.args.predicate.now c.get-in-Bracketed.result.now
    (c.in-Bracketed.is ∙ ap bound.Bracketed (sym c.get-in-Bracketed.ensures)) c.args.before.items c.with_condition.result (c.with_condition.ensures.found functions)

pub with_predicate-returns-in_default-clause-found : goal.with_predicate-returns-in_default-clause-found
with_predicate-returns-in_default-clause-found g t c = λ functions.
    cond_none (g.S.Store.content_now c.args.store.now) (g.S.Store.key_columns c.args.store.now) c.args.call.now.parameters.now c.args.call.now.user c.args.elsewhere.now c.args.around.now (predicate_of functions c.args.predicate.now) (PredicateWith IsNoted c.args.predicate.now) c.args.before.items
