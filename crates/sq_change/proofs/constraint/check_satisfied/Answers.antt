-- Left open for check_satisfied: the clauses right and met; answered by Endings and RowTests.
use Rattle.std.proofs.Common.{◌∙◌, ap, Ok, rules}
use Rattle.sq_meaning.specs.Constraints.{satisfied}
use Rattle.sq_expression.proofs.Expressions.{handed_on}
use Rattle.sq_query.specs.Row.{truth_on_row}
use Rattle.sq_change.specs.Constraints.{check_met}
use Rattle.sq_change.specs.Made.{seen_by}
use Rattle.sq_change.proofs.NewRows.Endings.{ends_so}
use Rattle.sq_change.proofs.Constraints.RowTests.{satisfied_fails}
use Rattle.sq_change.proofs.constraint.check_satisfied.Goals as goal

pub returns-in_err-truth-clause-right : goal.returns-in_err-truth-clause-right
returns-in_err-truth-clause-right g c = λ parameters tables may on.
    ends_so c.from_residual.result c.in_err-truth.field-0.0 c.from_residual.ensures.1 (c.in_err-truth.ensures.right parameters tables may on)

pub returns-in_err-truth-clause-met : goal.returns-in_err-truth-clause-met
returns-in_err-truth-clause-met g c = λ parameters shown may on.
    let setting = c.args.setting.now in
    let columns = g.N.Names.column_kinds setting.names.now in
    let seen = seen_by (g.N.Names.view_queries setting.names.now) (g.S.Store.content_now setting.store.now) setting.user setting.parameters.now in
    let f = c.in_err-truth.field-0.0 in
    handed_on c.from_residual.result f (check_met shown seen c.args.row.now c.args.check.now) c.from_residual.ensures.1
    (satisfied_fails (truth_on_row shown setting.parameters.now setting.user c.args.row.now c.args.check.now) f (c.in_err-truth.ensures.truth parameters shown may on))

pub returns-in-False-clause-met : goal.returns-in-False-clause-met
returns-in-False-clause-met g c = λ parameters shown may on. ap satisfied (c.in_ok-truth.ensures.truth parameters shown may on ∙ ap Ok c.in-False.is)

pub returns-in_default-clause-met : goal.returns-in_default-clause-met
returns-in_default-clause-met g c = λ parameters shown may on. ap satisfied (c.in_ok-truth.ensures.truth parameters shown may on) ∙ search rules
