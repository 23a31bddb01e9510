-- Left open: the call of check_satisfied, the clauses right and met, and the loop's invariant; answered by AllSatisfied and others.
use Rattle.std.proofs.Common.{◌≡◌, ◌∙◌, ap, not, refl, Bool, false, Ok, Err, rules}
use Rattle.std.specs.List.{list_any, zip}
use Rattle.sq_meaning.specs.Status.{and_then}
use Rattle.sq_meaning.specs.declared.status.Status.TheVariants.{IntegrityConstraintViolation}
use Rattle.sq_meaning.specs.Constraints.{all_satisfied, demanded}
use Rattle.sq_expression.proofs.Expressions.{handed_on}
use Rattle.sq_query.specs.Row.{IsOnRow}
use Rattle.sq_bound.specs.Fits.{lacks_value}
use Rattle.sq_change.specs.Constraints.{check_met, not_null_met, row_met}
use Rattle.sq_change.specs.Made.{seen_by}
use Rattle.sq_change.proofs.OneByOne.AllSatisfied.{satisfied_all, satisfied_failed, satisfied_more}
use Rattle.sq_change.proofs.OneByOne.Outcomes.{goes_on}
use Rattle.sq_query.proofs.Needs.Finds.{Reads}
use Rattle.sq_change.proofs.NewRows.Domains.{all_at}
use Rattle.sq_change.proofs.NewRows.Endings.{ends_so}
use Rattle.sq_change.proofs.constraint.row_satisfied.Goals as goal

pub check_satisfied-requires : goal.check_satisfied-requires
check_satisfied-requires g c =
    let columns = g.N.Names.column_kinds c.args.setting.now.names.now in
    let lt = rw c.as_slice-check-items.ensures at c.loop-check-test.true in
    let is = rw c.as_slice-check-items.ensures at c.check-item.is in
    (c.requires.finds.0, all_at (Reads columns) c.args.table.now.checks c.loop-check.check-index c.check-item.result c.requires.finds.1 lt is)

pub returns-in_err-check_satisfied-clause-right : goal.returns-in_err-check_satisfied-clause-right
returns-in_err-check_satisfied-clause-right g c = λ parameters tables may on.
    let columns = g.N.Names.column_kinds c.args.setting.now.names.now in
    let lt = rw c.as_slice-check-items.ensures at c.loop-check-test.true in
    let is = rw c.as_slice-check-items.ensures at c.check-item.is in
    let here = all_at (IsOnRow columns parameters c.args.row.now) c.args.table.now.checks c.loop-check.check-index c.check-item.result on lt is in
    ends_so c.from_residual.result c.in_err-check_satisfied.field-0.0 c.from_residual.ensures.1 (c.in_err-check_satisfied.ensures.right parameters tables may here)

pub loop-check-init : goal.loop-check-init
loop-check-init g c = λ parameters shown may on. refl

pub loop-check-preserved : goal.loop-check-preserved
loop-check-preserved g c = λ parameters shown may on.
    let setting = c.args.setting.now in
    let columns = g.N.Names.column_kinds setting.names.now in
    let seen = seen_by (g.N.Names.view_queries setting.names.now) (g.S.Store.content_now setting.store.now) setting.user setting.parameters.now in
    let lt = rw c.as_slice-check-items.ensures at c.loop-check-test.true in
    let is = rw c.as_slice-check-items.ensures at c.check-item.is in
    let i = c.loop-check.check-index in
    let x = c.check-item.result in
    let test = check_met shown seen c.args.row.now in
    let here = all_at (IsOnRow columns parameters c.args.row.now) c.args.table.now.checks i x on lt is in
    satisfied_more test c.args.table.now.checks i x lt is (c.loop-check.invariant parameters shown may on) (c.in_ok-check_satisfied.ensures.met parameters shown may here)

pub returns-in_err-check_satisfied-clause-met : goal.returns-in_err-check_satisfied-clause-met
returns-in_err-check_satisfied-clause-met g c = λ parameters shown may on.
    let setting = c.args.setting.now in
    let columns = g.N.Names.column_kinds setting.names.now in
    let seen = seen_by (g.N.Names.view_queries setting.names.now) (g.S.Store.content_now setting.store.now) setting.user setting.parameters.now in
    let lt = rw c.as_slice-check-items.ensures at c.loop-check-test.true in
    let is = rw c.as_slice-check-items.ensures at c.check-item.is in
    let i = c.loop-check.check-index in
    let x = c.check-item.result in
    let test = check_met shown seen c.args.row.now in
    let here = all_at (IsOnRow columns parameters c.args.row.now) c.args.table.now.checks i x on lt is in
    let whole = not_null_met c.args.table.now c.args.row.now in
    let lacking : list_any lacks_value (zip c.args.table.now.columns c.args.row.now) ≡ false = search rules in
    let there : whole ≡ Ok tt = ap (λ (b : Bool). demanded (not b) IntegrityConstraintViolation) lacking in
    let f = c.in_err-check_satisfied.field-0.0 in
    handed_on c.from_residual.result f (row_met shown seen c.args.table.now c.args.row.now) c.from_residual.ensures.1
    (goes_on (Err f) whole tt (λ _. all_satisfied test c.args.table.now.checks) there
    (satisfied_failed test c.args.table.now.checks i x f lt is (c.loop-check.invariant parameters shown may on) (c.in_err-check_satisfied.ensures.met parameters shown may here)))

pub returns-clause-met : goal.returns-clause-met
returns-clause-met g c = λ parameters shown may on.
    let setting = c.args.setting.now in
    let columns = g.N.Names.column_kinds setting.names.now in
    let seen = seen_by (g.N.Names.view_queries setting.names.now) (g.S.Store.content_now setting.store.now) setting.user setting.parameters.now in
    let whole = not_null_met c.args.table.now c.args.row.now in
    let lacking : list_any lacks_value (zip c.args.table.now.columns c.args.row.now) ≡ false = search rules in
    let there : whole ≡ Ok tt = ap (λ (b : Bool). demanded (not b) IntegrityConstraintViolation) lacking in
    let past = rw c.as_slice-check-items.ensures at c.loop-check-test.false in
    ap (λ o. and_then o (λ _. all_satisfied (check_met shown seen c.args.row.now) c.args.table.now.checks)) there
    ∙ satisfied_all (check_met shown seen c.args.row.now) c.args.table.now.checks c.loop-check.check-index past (c.loop-check.invariant parameters shown may on)
