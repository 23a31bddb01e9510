-- Left open: the call of truth_with_tables, the clauses plain, meant and none, and the loop's invariant; answered by Levels.
use Rattle.std.proofs.Common.{◌≡◌, ◌≢◌, ◌∙◌, ◌∷◌, [], List, map, ap, false, true, refl, rules, subst, sym, Ok}
use Rattle.std.specs.List.{AllByRecursion, list_any}
use Rattle.std.specs.Borrow.{Bor}
use Rattle.sq_value.specs.declared.truth.Truth.TheVariants.{True}
use Rattle.sq_meaning.specs.Placed.{by_place}
use Rattle.sq_meaning.specs.Query.{truth}
use Rattle.sq_meaning.specs.Target.{has_subquery}
use Rattle.sq_bound.specs.Condition.{cond_of}
use Rattle.sq_bound.specs.declared.condition.BoundCond.{BoundCond}
use Rattle.sq_meaning.specs.WellFormed.{HasValue}
use Rattle.sq_query.specs.Needed.{ReadsCond}
use Rattle.sq_query.specs.Row.{IsOnRow, outside, truth_on_row}
use Rattle.sq_query.specs.Target.{conditions_of, are_true}
use Rattle.sq_expression.proofs.Expressions.{handed_on}
use Rattle.sq_query.proofs.Needs.ReadRows.{stands_so}
use Rattle.sq_query.proofs.Targets.Levels.{level_true, level_not, level_failed, levels_end, lent_at, none_at, chosen_by, told_by}
use Rattle.sq_query.proofs.target.meets_levels.Goals as goal

pub loop-condition-init : goal.loop-condition-init
loop-condition-init g c = record { plain = λ none tables. refl; meant = λ parameters tables may on. refl; none = λ none. refl }

pub truth_with_tables-requires : goal.truth_with_tables-requires
truth_with_tables-requires g c =
    let columns = g.N.Names.column_kinds c.args.names.now in
    let items = c.as_slice-condition-items.result.now in
    let same = ap (map (λ (b : Bor BoundCond). b.now)) c.as_slice-condition-items.ensures.value ∙ c.in_ok-levels.ensures in
    let all = subst (AllByRecursion (λ d. ReadsCond (λ t. HasValue (columns t)) (cond_of [] d))) (sym same) c.requires.finds.1 in
    record { finds = (c.requires.finds.0, lent_at (λ (d : BoundCond). ReadsCond (λ t. HasValue (columns t)) (cond_of [] d)) items c.loop-condition.condition-index c.condition-item.result c.loop-condition-test.true c.condition-item.is all); keys = c.requires.keys }

pub loop-condition-preserved : goal.loop-condition-preserved
loop-condition-preserved g c =
    let items = c.as_slice-condition-items.result.now in
    let i = c.loop-condition.condition-index in
    let x = c.condition-item.result in
    let holds : c.in_ok-truth.truth ≡ True = search rules in
    record {
      plain = λ none tables.
          let test = λ (b : Bor BoundCond). truth (by_place tables) (cond_of [] b.now) (outside (c.args.row.now ∷ []) c.args.call.now.parameters.now c.args.call.now.user) in
          level_true test (are_true test items) items i x c.loop-condition-test.true c.condition-item.is (c.loop-condition.invariant.plain none tables)
          (c.in_ok-truth.ensures.plain (none_at (λ (d : BoundCond). has_subquery (cond_of [] d)) items i x c.loop-condition-test.true c.condition-item.is none) tables ∙ ap Ok holds);
      meant = λ parameters tables may on.
          let test = λ (b : Bor BoundCond). truth_on_row tables c.args.call.now.parameters.now c.args.call.now.user c.args.row.now b.now in
          level_true test (are_true test items) items i x c.loop-condition-test.true c.condition-item.is (c.loop-condition.invariant.meant parameters tables may on)
          (c.in_ok-truth.ensures.truth parameters tables may (stands_so (g.N.Names.column_kinds c.args.names.now) parameters c.args.row.now x.now (lent_at (IsOnRow (g.N.Names.column_kinds c.args.names.now) parameters c.args.row.now) items i x c.loop-condition-test.true c.condition-item.is on)) ∙ ap Ok holds);
      none = λ none. c.in_ok-truth.ensures.none (none_at (λ (d : BoundCond). has_subquery (cond_of [] d)) items i x c.loop-condition-test.true c.condition-item.is none) ∙ c.loop-condition.invariant.none none;
    }

pub returns-in_err-truth-clause-plain : goal.returns-in_err-truth-clause-plain
returns-in_err-truth-clause-plain g c = λ none tables.
    let test = λ (b : Bor BoundCond). truth (by_place tables) (cond_of [] b.now) (outside (c.args.row.now ∷ []) c.args.call.now.parameters.now c.args.call.now.user) in
    let items = c.as_slice-condition-items.result.now in
    let i = c.loop-condition.condition-index in
    let x = c.condition-item.result in
    let e = c.in_err-truth.field-0.0 in
    chosen_by (λ (d : BoundCond). has_subquery (cond_of [] d)) (λ (d : BoundCond). truth (by_place tables) (cond_of [] d) (outside (c.args.row.now ∷ []) c.args.call.now.parameters.now c.args.call.now.user))
    c.from_residual-in_err-truth.result items (conditions_of c.args.target.now)
    (ap (map (λ (b : Bor BoundCond). b.now)) c.as_slice-condition-items.ensures.value ∙ c.in_ok-levels.ensures)
    (λ lone. handed_on c.from_residual-in_err-truth.result e (are_true test items) c.from_residual-in_err-truth.ensures.1
    (level_failed test (are_true test items) items i x c.loop-condition-test.true c.condition-item.is (c.loop-condition.invariant.plain lone tables) e
    (c.in_err-truth.ensures.plain (none_at (λ (d : BoundCond). has_subquery (cond_of [] d)) items i x c.loop-condition-test.true c.condition-item.is lone) tables)))
    none

pub returns-then-ne-clause-plain : goal.returns-then-ne-clause-plain
returns-then-ne-clause-plain g c = λ none tables.
    let test = λ (b : Bor BoundCond). truth (by_place tables) (cond_of [] b.now) (outside (c.args.row.now ∷ []) c.args.call.now.parameters.now c.args.call.now.user) in
    let items = c.as_slice-condition-items.result.now in
    let i = c.loop-condition.condition-index in
    let x = c.condition-item.result in
    let fails : c.in_ok-truth.truth ≢ True = search rules in
    chosen_by (λ (d : BoundCond). has_subquery (cond_of [] d)) (λ (d : BoundCond). truth (by_place tables) (cond_of [] d) (outside (c.args.row.now ∷ []) c.args.call.now.parameters.now c.args.call.now.user))
    (Ok false) items (conditions_of c.args.target.now)
    (ap (map (λ (b : Bor BoundCond). b.now)) c.as_slice-condition-items.ensures.value ∙ c.in_ok-levels.ensures)
    (λ lone. level_not test (are_true test items) items i x c.loop-condition-test.true c.condition-item.is (c.loop-condition.invariant.plain lone tables) c.in_ok-truth.truth fails
    (c.in_ok-truth.ensures.plain (none_at (λ (d : BoundCond). has_subquery (cond_of [] d)) items i x c.loop-condition-test.true c.condition-item.is lone) tables))
    none

pub returns-clause-plain : goal.returns-clause-plain
returns-clause-plain g c = λ none tables.
    let test = λ (b : Bor BoundCond). truth (by_place tables) (cond_of [] b.now) (outside (c.args.row.now ∷ []) c.args.call.now.parameters.now c.args.call.now.user) in
    let items = c.as_slice-condition-items.result.now in
    chosen_by (λ (d : BoundCond). has_subquery (cond_of [] d)) (λ (d : BoundCond). truth (by_place tables) (cond_of [] d) (outside (c.args.row.now ∷ []) c.args.call.now.parameters.now c.args.call.now.user))
    (Ok true) items (conditions_of c.args.target.now)
    (ap (map (λ (b : Bor BoundCond). b.now)) c.as_slice-condition-items.ensures.value ∙ c.in_ok-levels.ensures)
    (λ lone. levels_end test (are_true test items) items c.loop-condition.condition-index c.loop-condition-test.false (c.loop-condition.invariant.plain lone tables))
    none

pub returns-in_err-truth-clause-meant : goal.returns-in_err-truth-clause-meant
returns-in_err-truth-clause-meant g c = λ parameters tables may on.
    let of = truth_on_row tables c.args.call.now.parameters.now c.args.call.now.user c.args.row.now in
    let test = λ (b : Bor BoundCond). of b.now in
    let items = c.as_slice-condition-items.result.now in
    let i = c.loop-condition.condition-index in
    let x = c.condition-item.result in
    let e = c.in_err-truth.field-0.0 in
    let same = ap (map (λ (b : Bor BoundCond). b.now)) c.as_slice-condition-items.ensures.value ∙ c.in_ok-levels.ensures in
    let all = subst (AllByRecursion (IsOnRow (g.N.Names.column_kinds c.args.names.now) parameters c.args.row.now)) (sym same) on in
    told_by of c.from_residual-in_err-truth.result items (conditions_of c.args.target.now) same
    (handed_on c.from_residual-in_err-truth.result e (are_true test items) c.from_residual-in_err-truth.ensures.1
    (level_failed test (are_true test items) items i x c.loop-condition-test.true c.condition-item.is (c.loop-condition.invariant.meant parameters tables may all) e
    (c.in_err-truth.ensures.truth parameters tables may (stands_so (g.N.Names.column_kinds c.args.names.now) parameters c.args.row.now x.now (lent_at (IsOnRow (g.N.Names.column_kinds c.args.names.now) parameters c.args.row.now) items i x c.loop-condition-test.true c.condition-item.is all)))))

pub returns-then-ne-clause-meant : goal.returns-then-ne-clause-meant
returns-then-ne-clause-meant g c = λ parameters tables may on.
    let of = truth_on_row tables c.args.call.now.parameters.now c.args.call.now.user c.args.row.now in
    let test = λ (b : Bor BoundCond). of b.now in
    let items = c.as_slice-condition-items.result.now in
    let i = c.loop-condition.condition-index in
    let x = c.condition-item.result in
    let fails : c.in_ok-truth.truth ≢ True = search rules in
    let same = ap (map (λ (b : Bor BoundCond). b.now)) c.as_slice-condition-items.ensures.value ∙ c.in_ok-levels.ensures in
    let all = subst (AllByRecursion (IsOnRow (g.N.Names.column_kinds c.args.names.now) parameters c.args.row.now)) (sym same) on in
    told_by of (Ok false) items (conditions_of c.args.target.now) same
    (level_not test (are_true test items) items i x c.loop-condition-test.true c.condition-item.is (c.loop-condition.invariant.meant parameters tables may all) c.in_ok-truth.truth fails
    (c.in_ok-truth.ensures.truth parameters tables may (stands_so (g.N.Names.column_kinds c.args.names.now) parameters c.args.row.now x.now (lent_at (IsOnRow (g.N.Names.column_kinds c.args.names.now) parameters c.args.row.now) items i x c.loop-condition-test.true c.condition-item.is all))))

pub returns-clause-meant : goal.returns-clause-meant
returns-clause-meant g c = λ parameters tables may on.
    let of = truth_on_row tables c.args.call.now.parameters.now c.args.call.now.user c.args.row.now in
    let test = λ (b : Bor BoundCond). of b.now in
    let items = c.as_slice-condition-items.result.now in
    let same = ap (map (λ (b : Bor BoundCond). b.now)) c.as_slice-condition-items.ensures.value ∙ c.in_ok-levels.ensures in
    let all = subst (AllByRecursion (IsOnRow (g.N.Names.column_kinds c.args.names.now) parameters c.args.row.now)) (sym same) on in
    told_by of (Ok true) items (conditions_of c.args.target.now) same
    (levels_end test (are_true test items) items c.loop-condition.condition-index c.loop-condition-test.false (c.loop-condition.invariant.meant parameters tables may all))

pub returns-in_err-truth-clause-none : goal.returns-in_err-truth-clause-none
returns-in_err-truth-clause-none g c = λ none.
    let has = λ (d : BoundCond). has_subquery (cond_of [] d) in
    let items = c.as_slice-condition-items.result.now in
    let same = ap (map (λ (b : Bor BoundCond). b.now)) c.as_slice-condition-items.ensures.value ∙ c.in_ok-levels.ensures in
    let lone = subst (λ (cs : List BoundCond). list_any has cs ≡ false) (sym same) none in
    c.in_err-truth.ensures.none (none_at has items c.loop-condition.condition-index c.condition-item.result c.loop-condition-test.true c.condition-item.is lone) ∙ c.loop-condition.invariant.none lone

pub returns-then-ne-clause-none : goal.returns-then-ne-clause-none
returns-then-ne-clause-none g c = λ none.
    let has = λ (d : BoundCond). has_subquery (cond_of [] d) in
    let items = c.as_slice-condition-items.result.now in
    let same = ap (map (λ (b : Bor BoundCond). b.now)) c.as_slice-condition-items.ensures.value ∙ c.in_ok-levels.ensures in
    let lone = subst (λ (cs : List BoundCond). list_any has cs ≡ false) (sym same) none in
    c.in_ok-truth.ensures.none (none_at has items c.loop-condition.condition-index c.condition-item.result c.loop-condition-test.true c.condition-item.is lone) ∙ c.loop-condition.invariant.none lone

pub returns-clause-none : goal.returns-clause-none
returns-clause-none g c = λ none.
    let same = ap (map (λ (b : Bor BoundCond). b.now)) c.as_slice-condition-items.ensures.value ∙ c.in_ok-levels.ensures in
    c.loop-condition.invariant.none (subst (λ (cs : List BoundCond). list_any (λ d. has_subquery (cond_of [] d)) cs ≡ false) (sym same) none)
