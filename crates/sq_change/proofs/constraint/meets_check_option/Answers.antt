-- Left open: the call of truth, the clauses right and met, and the loop's invariant; answered by AllSatisfied, RowTests and others.
use Rattle.std.proofs.Common.{refl, arith}
use Rattle.sq_query.specs.Row.{IsOnRow, truth_on_row}
use Rattle.sq_expression.proofs.Expressions.{handed_on}
use Rattle.sq_meaning.specs.Constraints.{all_satisfied}
use Rattle.sq_change.specs.Constraints.{condition_met}
use Rattle.sq_change.specs.Made.{seen_by}
use Rattle.sq_change.proofs.OneByOne.AllSatisfied.{satisfied_all, satisfied_failed, satisfied_more}
use Rattle.sq_change.proofs.Constraints.RowTests.{demanded_fails, demanded_not, demanded_true}
use Rattle.sq_query.proofs.Needs.Finds.{Reads}
use Rattle.sq_change.proofs.NewRows.Domains.{all_at}
use Rattle.sq_change.proofs.NewRows.Endings.{ends_so}
use Rattle.sq_change.proofs.constraint.meets_check_option.Goals as goal

pub truth-requires : goal.truth-requires
truth-requires g c =
    let columns = g.N.Names.column_kinds c.args.setting.now.names.now in
    (c.requires.0, rw c.get.ensures (all_at (Reads columns) c.args.conditions.now c.loop-condition.condition-index c.condition-item.result c.requires.1 (omega arith) c.condition-item.is))

pub returns-in_err-truth-clause-right : goal.returns-in_err-truth-clause-right
returns-in_err-truth-clause-right g c = λ parameters tables may on.
    let columns = g.N.Names.column_kinds c.args.setting.now.names.now in
    let here =
    all_at (IsOnRow columns parameters c.args.row.now) c.args.conditions.now c.loop-condition.condition-index c.condition-item.result
    on (omega arith) c.condition-item.is in
    ends_so c.from_residual.result c.in_err-truth.field-0.0 c.from_residual.ensures.1 (c.in_err-truth.ensures.right parameters tables may (rw c.get.ensures here))

pub loop-condition-init : goal.loop-condition-init
loop-condition-init g c = λ parameters shown may on. refl

pub loop-condition-preserved : goal.loop-condition-preserved
loop-condition-preserved g c = λ parameters shown may on.
    let setting = c.args.setting.now in
    let columns = g.N.Names.column_kinds setting.names.now in
    let seen = seen_by (g.N.Names.view_queries setting.names.now) (g.S.Store.content_now setting.store.now) setting.user setting.parameters.now in
    let i = c.loop-condition.condition-index in
    let x = c.condition-item.result in
    let row = c.args.row.now in
    let test = condition_met shown seen row in
    let here = all_at (IsOnRow columns parameters row) c.args.conditions.now i x on (omega arith) c.condition-item.is in
    let truth = rw c.get.ensures at (c.in_ok-truth.ensures.truth parameters shown may (rw c.get.ensures here)) in
    satisfied_more test c.args.conditions.now i x (omega arith) c.condition-item.is (c.loop-condition.invariant parameters shown may on)
    (demanded_true (truth_on_row shown setting.parameters.now setting.user row x) c.in_ok-truth.field-0 truth c.in_ok-is_or_violates.ensures.met)

pub returns-in_err-truth-clause-met : goal.returns-in_err-truth-clause-met
returns-in_err-truth-clause-met g c = λ parameters shown may on.
    let setting = c.args.setting.now in
    let columns = g.N.Names.column_kinds setting.names.now in
    let seen = seen_by (g.N.Names.view_queries setting.names.now) (g.S.Store.content_now setting.store.now) setting.user setting.parameters.now in
    let i = c.loop-condition.condition-index in
    let x = c.condition-item.result in
    let row = c.args.row.now in
    let test = condition_met shown seen row in
    let here = all_at (IsOnRow columns parameters row) c.args.conditions.now i x on (omega arith) c.condition-item.is in
    let f = c.in_err-truth.field-0.0 in
    let failed = rw c.get.ensures at (c.in_err-truth.ensures.truth parameters shown may (rw c.get.ensures here)) in
    handed_on c.from_residual.result f (all_satisfied test c.args.conditions.now) c.from_residual.ensures.1
    (satisfied_failed test c.args.conditions.now i x f (omega arith) c.condition-item.is (c.loop-condition.invariant parameters shown may on)
    (demanded_fails (truth_on_row shown setting.parameters.now setting.user row x) f failed))

pub returns-in_err-is_or_violates-clause-met : goal.returns-in_err-is_or_violates-clause-met
returns-in_err-is_or_violates-clause-met g c = λ parameters shown may on.
    let setting = c.args.setting.now in
    let columns = g.N.Names.column_kinds setting.names.now in
    let seen = seen_by (g.N.Names.view_queries setting.names.now) (g.S.Store.content_now setting.store.now) setting.user setting.parameters.now in
    let i = c.loop-condition.condition-index in
    let x = c.condition-item.result in
    let row = c.args.row.now in
    let test = condition_met shown seen row in
    let here = all_at (IsOnRow columns parameters row) c.args.conditions.now i x on (omega arith) c.condition-item.is in
    let f = c.in_err-is_or_violates.field-0.0 in
    let truth = rw c.get.ensures at (c.in_ok-truth.ensures.truth parameters shown may (rw c.get.ensures here)) in
    handed_on c.from_residual-in_err-is_or_violates.result f (all_satisfied test c.args.conditions.now) c.from_residual-in_err-is_or_violates.ensures.1
    (satisfied_failed test c.args.conditions.now i x f (omega arith) c.condition-item.is (c.loop-condition.invariant parameters shown may on)
    (demanded_not (truth_on_row shown setting.parameters.now setting.user row x) c.in_ok-truth.field-0 f truth c.in_err-is_or_violates.ensures.met))

pub returns-clause-met : goal.returns-clause-met
returns-clause-met g c = λ parameters shown may on.
    let setting = c.args.setting.now in
    let columns = g.N.Names.column_kinds setting.names.now in
    let seen = seen_by (g.N.Names.view_queries setting.names.now) (g.S.Store.content_now setting.store.now) setting.user setting.parameters.now in
    satisfied_all (condition_met shown seen c.args.row.now) c.args.conditions.now c.loop-condition.condition-index (omega arith) (c.loop-condition.invariant parameters shown may on)
