-- Left open: the call of assign_value, and the clauses meant and right; answered by Defaults and others.
use Rattle.sq_change.proofs.NewRows.Defaults.{user_refused, user_stored}
use Rattle.sq_change.proofs.NewRows.Endings.{ends_so, user_ends}
use Rattle.sq_change.proofs.NewRows.Storable.{user_fits}
use Rattle.sq_change.proofs.given.value_or_default.Goals as goal

pub assign_value-requires-clause-kind : goal.assign_value-requires-clause-kind
assign_value-requires-clause-kind g c =
    let column = c.args.column.now in
    let setting = c.args.setting.now in
    user_fits column.domain column.default c.in_ok-user-in-User.user setting.parameters.now setting.user column.default_is c.in-User.is c.in_ok-user-in-User.ensures

pub returns-in_ok-user-in-User-clause-meant : goal.returns-in_ok-user-in-User-clause-meant
returns-in_ok-user-in-User-clause-meant g c =
    let setting = c.args.setting.now in
    user_stored c.args.column.now c.args.given c.in_default.is c.in-User.is setting.parameters.now setting.user c.assign_value.result c.in_ok-user-in-User.user c.in_ok-user-in-User.ensures c.assign_value.ensures.fit

pub returns-in_err-user-in-User-clause-meant : goal.returns-in_err-user-in-User-clause-meant
returns-in_err-user-in-User-clause-meant g c =
    let setting = c.args.setting.now in
    user_refused c.args.column.now c.args.given c.in_default.is c.in-User.is setting.parameters.now setting.user c.from_residual-in_err-user-in-User.result c.in_err-user-in-User.field-0.0
    c.from_residual-in_err-user-in-User.ensures.1 c.in_err-user-in-User.ensures

pub returns-in_err-user-in-User-clause-right : goal.returns-in_err-user-in-User-clause-right
returns-in_err-user-in-User-clause-right g c =
    let setting = c.args.setting.now in
    let e = c.in_err-user-in-User.field-0.0 in
    ends_so c.from_residual-in_err-user-in-User.result e c.from_residual-in_err-user-in-User.ensures.1
    (user_ends e setting.parameters.now setting.user c.in_err-user-in-User.ensures)
