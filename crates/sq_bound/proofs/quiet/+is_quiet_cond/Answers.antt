-- Left open for the functions of +is_quiet_cond: the results; answered by QuietLaws.
use Rattle.std.proofs.Common.{◌≡◌, ◌∙◌, ◌&&◌, Bool, List, [], false, refl, sym, ap}
use Rattle.std.proofs.lemmas.List.Folds.{list_all_at}
use Rattle.std.specs.List.{list_all}
use Rattle.sq_meaning.specs.Quiet.{is_quiet, is_quiet_expr}
use Rattle.sq_bound.specs.Condition.{conj_of, predicate_of}
use Rattle.sq_bound.specs.Expression.{expr_of}
use Rattle.sq_bound.specs.declared.condition.BoundConj.{BoundConj}
use Rattle.sq_bound.specs.declared.condition.BoundTest.{BoundTest}
use Rattle.sq_bound.specs.declared.condition.Predicate.{Predicate}
use Rattle.sq_bound.specs.Quiet.{is_quiet_cond}
use Rattle.sq_bound.specs.declared.expression.BoundExpr.{BoundExpr}
use Rattle.sq_bound.proofs.QuietLaws.{quiet-Compare, quiet-Between, quiet-InList, quiet-Like, quiet-Null, is_none_so, quiet-Bracketed, quiet_terms, quiet_tests, with_subquery, all_taken, both_first, not_first}
use Rattle.sq_bound.proofs.quiet.+is_quiet_cond.Goals as goal
use Rattle.sq_bound.proofs.quiet.+is_quiet_cond.Goals.{is_quiet_predicate-then-is_quiet_expr-2, is_quiet_predicate-else-is_quiet_expr-2, is_quiet_predicate-then-is_quiet_expr-5, is_quiet_predicate-else-is_quiet_expr-5}

abbrev quiet_term : BoundConj → Bool
quiet_term t = is_quiet (conj_of [] t)

abbrev quiet_of_test : BoundTest → Bool
quiet_of_test t = is_quiet (predicate_of [] t.predicate)

abbrev quiet_predicate : Predicate → Bool
quiet_predicate p = is_quiet (predicate_of [] p)

abbrev quiet_expr : BoundExpr → Bool
quiet_expr e = is_quiet_expr (expr_of [] e)

pub is_quiet_cond-returns-then-not-is_quiet_term : goal.is_quiet_cond-returns-then-not-is_quiet_term
is_quiet_cond-returns-then-not-is_quiet_term t c =
    let terms : List BoundConj = c.as_slice-term-items.result.now in
    let fails : quiet_term c.term-item.result ≡ false = sym c.is_quiet_term.ensures ∙ c.if-not-is_quiet_term.true in
    sym (quiet_terms c.args.condition.now ∙ ap (list_all quiet_term) (sym c.as_slice-term-items.ensures)
    ∙ list_all_at quiet_term terms c.loop-term.term-index c.term-item.result c.loop-term-test.true (ap quiet_term (sym c.term-item.is) ∙ fails))

pub is_quiet_cond-returns : goal.is_quiet_cond-returns
is_quiet_cond-returns t c = sym (quiet_terms c.args.condition.now ∙ ap (list_all quiet_term) (sym c.as_slice-term-items.ensures) ∙ all_taken quiet_term _ _ c.loop-term-test.false c.loop-term.invariant)

pub is_quiet_predicate-returns-then-is_quiet_expr : goal.is_quiet_predicate-returns-then-is_quiet_expr
is_quiet_predicate-returns-then-is_quiet_expr t c =
    both_first (ap quiet_predicate c.in-Compare.is ∙ quiet-Compare _ _ _) c.is_quiet_expr.ensures c.if-is_quiet_expr.true c.is_quiet_expr-then-is_quiet_expr.ensures

pub is_quiet_predicate-returns-else-is_quiet_expr : goal.is_quiet_predicate-returns-else-is_quiet_expr
is_quiet_predicate-returns-else-is_quiet_expr t c =
    not_first _ (ap quiet_predicate c.in-Compare.is ∙ quiet-Compare _ _ _) c.is_quiet_expr.ensures c.if-is_quiet_expr.false

pub is_quiet_predicate-returns-then-is_quiet_expr-3 :
    goal.is_quiet_predicate-returns-then-is_quiet_expr-3
is_quiet_predicate-returns-then-is_quiet_expr-3 t c =
    let both : c.if-is_quiet_expr-2.value ≡ (quiet_expr c.in-Between.operand && quiet_expr c.in-Between.low) = elim c.if-is_quiet_expr-2.branch [
      | is_quiet_predicate-then-is_quiet_expr-2 w ↦ w.value-is ∙ both_first refl c.is_quiet_expr-in-Between.ensures w.if-is_quiet_expr-2.true w.is_quiet_expr-then-is_quiet_expr-2.ensures
      | is_quiet_predicate-else-is_quiet_expr-2 w ↦ w.value-is ∙ not_first _ refl c.is_quiet_expr-in-Between.ensures w.if-is_quiet_expr-2.false
    ] in
    both_first (ap quiet_predicate c.in-Between.is ∙ quiet-Between _ _ _ _) both c.if-is_quiet_expr-3.true c.is_quiet_expr-then-is_quiet_expr-3.ensures

pub is_quiet_predicate-returns-else-is_quiet_expr-3 :
    goal.is_quiet_predicate-returns-else-is_quiet_expr-3
is_quiet_predicate-returns-else-is_quiet_expr-3 t c =
    let both : c.if-is_quiet_expr-2.value ≡ (quiet_expr c.in-Between.operand && quiet_expr c.in-Between.low) = elim c.if-is_quiet_expr-2.branch [
      | is_quiet_predicate-then-is_quiet_expr-2 w ↦ w.value-is ∙ both_first refl c.is_quiet_expr-in-Between.ensures w.if-is_quiet_expr-2.true w.is_quiet_expr-then-is_quiet_expr-2.ensures
      | is_quiet_predicate-else-is_quiet_expr-2 w ↦ w.value-is ∙ not_first _ refl c.is_quiet_expr-in-Between.ensures w.if-is_quiet_expr-2.false
    ] in
    not_first _ (ap quiet_predicate c.in-Between.is ∙ quiet-Between _ _ _ _) both c.if-is_quiet_expr-3.false

pub is_quiet_predicate-returns-then-is_quiet_expr-4 :
    goal.is_quiet_predicate-returns-then-is_quiet_expr-4
is_quiet_predicate-returns-then-is_quiet_expr-4 t c =
    both_first (ap quiet_predicate c.in-InList.is ∙ quiet-InList _ _ _) c.is_quiet_expr-in-InList.ensures c.if-is_quiet_expr-4.true (c.are_quiet_exprs.ensures ∙ ap (list_all quiet_expr) c.as_slice.ensures)

pub is_quiet_predicate-returns-else-is_quiet_expr-4 :
    goal.is_quiet_predicate-returns-else-is_quiet_expr-4
is_quiet_predicate-returns-else-is_quiet_expr-4 t c =
    not_first _ (ap quiet_predicate c.in-InList.is ∙ quiet-InList _ _ _) c.is_quiet_expr-in-InList.ensures c.if-is_quiet_expr-4.false

pub is_quiet_predicate-returns-then-is_quiet_expr-6 :
    goal.is_quiet_predicate-returns-then-is_quiet_expr-6
is_quiet_predicate-returns-then-is_quiet_expr-6 t c =
    let both : c.if-is_quiet_expr-5.value ≡ (quiet_expr c.in-Like.text && quiet_expr c.in-Like.pattern) = elim c.if-is_quiet_expr-5.branch [
      | is_quiet_predicate-then-is_quiet_expr-5 w ↦ w.value-is ∙ both_first refl c.is_quiet_expr-in-Like.ensures w.if-is_quiet_expr-5.true w.is_quiet_expr-then-is_quiet_expr-5.ensures
      | is_quiet_predicate-else-is_quiet_expr-5 w ↦ w.value-is ∙ not_first _ refl c.is_quiet_expr-in-Like.ensures w.if-is_quiet_expr-5.false
    ] in
    both_first (ap quiet_predicate c.in-Like.is ∙ quiet-Like _ _ _ _) both c.if-is_quiet_expr-6.true (is_none_so _ _ c.is_none.ensures)

pub is_quiet_predicate-returns-else-is_quiet_expr-6 :
    goal.is_quiet_predicate-returns-else-is_quiet_expr-6
is_quiet_predicate-returns-else-is_quiet_expr-6 t c =
    let both : c.if-is_quiet_expr-5.value ≡ (quiet_expr c.in-Like.text && quiet_expr c.in-Like.pattern) = elim c.if-is_quiet_expr-5.branch [
      | is_quiet_predicate-then-is_quiet_expr-5 w ↦ w.value-is ∙ both_first refl c.is_quiet_expr-in-Like.ensures w.if-is_quiet_expr-5.true w.is_quiet_expr-then-is_quiet_expr-5.ensures
      | is_quiet_predicate-else-is_quiet_expr-5 w ↦ w.value-is ∙ not_first _ refl c.is_quiet_expr-in-Like.ensures w.if-is_quiet_expr-5.false
    ] in
    not_first _ (ap quiet_predicate c.in-Like.is ∙ quiet-Like _ _ _ _) both c.if-is_quiet_expr-6.false

pub is_quiet_predicate-returns-in-Null : goal.is_quiet_predicate-returns-in-Null
is_quiet_predicate-returns-in-Null t c = c.is_quiet_expr-in-Null.ensures ∙ sym (ap quiet_predicate c.in-Null.is ∙ quiet-Null _ _)

pub is_quiet_predicate-returns-in-Bracketed : goal.is_quiet_predicate-returns-in-Bracketed
is_quiet_predicate-returns-in-Bracketed t c = c.is_quiet_cond.ensures ∙ ap is_quiet_cond c.get.ensures ∙ sym (ap quiet_predicate c.in-Bracketed.is ∙ quiet-Bracketed _)

pub is_quiet_predicate-returns-in-CompareQuery : goal.is_quiet_predicate-returns-in-CompareQuery
is_quiet_predicate-returns-in-CompareQuery t c = sym (with_subquery _ c.in-CompareQuery.is)

pub is_quiet_predicate-returns-in-CompareQuery-2 : goal.is_quiet_predicate-returns-in-CompareQuery-2
is_quiet_predicate-returns-in-CompareQuery-2 t c = sym (with_subquery _ c.in-CompareQuery.is)

pub is_quiet_predicate-returns-in-CompareQuery-3 : goal.is_quiet_predicate-returns-in-CompareQuery-3
is_quiet_predicate-returns-in-CompareQuery-3 t c = sym (with_subquery _ c.in-CompareQuery.is)

pub is_quiet_term-returns-then-not-is_quiet_predicate :
    goal.is_quiet_term-returns-then-not-is_quiet_predicate
is_quiet_term-returns-then-not-is_quiet_predicate t c =
    let tests : List BoundTest = c.as_slice-test-items.result.now in
    let fails : quiet_of_test c.test-item.result ≡ false = sym c.is_quiet_predicate.ensures ∙ c.if-not-is_quiet_predicate.true in
    sym (quiet_tests c.args.term.now ∙ ap (list_all quiet_of_test) (sym c.as_slice-test-items.ensures)
    ∙ list_all_at quiet_of_test tests c.loop-test.test-index c.test-item.result c.loop-test-test.true (ap quiet_of_test (sym c.test-item.is) ∙ fails))

pub is_quiet_term-returns : goal.is_quiet_term-returns
is_quiet_term-returns t c = sym (quiet_tests c.args.term.now ∙ ap (list_all quiet_of_test) (sym c.as_slice-test-items.ensures) ∙ all_taken quiet_of_test _ _ c.loop-test-test.false c.loop-test.invariant)
