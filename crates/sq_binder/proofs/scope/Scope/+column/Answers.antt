-- Left open for Scope::column: its result; answered by Scopes and Steps.
use Rattle.sq_binding.specs.Scope.{column_meant}
use Rattle.sq_binder.specs.Scope.{found_of, scopes_of}
use Rattle.sq_binder.proofs.Clauses.Scopes.{column_around, column_here, column_nowhere, fit_fails, stops_around}
use Rattle.sq_binder.proofs.OneByOne.Steps.{handed_on, stops_by}
use Rattle.sq_binder.proofs.scope.Scope.+column.Goals as goal

pub returns-in-Some-default : goal.returns-in-Some-default
returns-in-Some-default t c =
    column_here c.args.reference.now c.args.self.now (c.in-Some-default.item, c.in-Some-default.column) c.found.result (rw c.in-Some-default.is-0 at c.in_ok-fit.ensures) c.found.ensures

pub returns-in-None-None : goal.returns-in-None-None
returns-in-None-None t c =
    stops_by (column_meant c.args.reference.now (scopes_of c.args.self.now)) c.about.result _ c.about.ensures
    (column_nowhere c.args.reference.now c.args.self.now (rw c.in-None-None.is-0 at c.in_ok-fit.ensures) c.in-None-None.is-1)

pub returns-in_err-fit : goal.returns-in_err-fit
returns-in_err-fit t c =
    handed_on found_of (column_meant c.args.reference.now (scopes_of c.args.self.now)) c.from_residual.result c.in_err-fit.field-0.0 c.from_residual.ensures.1
    (fit_fails c.args.reference.now c.args.self.now c.in_err-fit.field-0.0 c.in_err-fit.ensures)

pub returns-in_ok-found-in-None-Some : goal.returns-in_ok-found-in-None-Some
returns-in_ok-found-in-None-Some t c =
    column_around c.args.reference.now c.args.self.now c.in-None-Some.outer (found_of c.in_ok-found-in-None-Some.found) c.further_out.result (rw c.in-None-Some.is-0 at c.in_ok-fit.ensures) c.in-None-Some.is-1
    c.in_ok-found-in-None-Some.ensures c.further_out.ensures

pub returns-in_err-found-in-None-Some : goal.returns-in_err-found-in-None-Some
returns-in_err-found-in-None-Some t c =
    handed_on found_of (column_meant c.args.reference.now (scopes_of c.args.self.now)) c.from_residual-in_err-found-in-None-Some.result c.in_err-found-in-None-Some.field-0.0 c.from_residual-in_err-found-in-None-Some.ensures.1
    (stops_around c.args.reference.now c.args.self.now c.in-None-Some.outer c.in_err-found-in-None-Some.field-0.0 (rw c.in-None-Some.is-0 at c.in_ok-fit.ensures) c.in-None-Some.is-1 c.in_err-found-in-None-Some.ensures)
