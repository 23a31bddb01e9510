-- Left open for Scope::only_fit: its result, and that the loop keeps its invariant; answered by Scopes.
use Rattle.sq_binding.specs.Scope.{fits}
use Rattle.sq_binder.specs.Scope.{only, scope_of}
use Rattle.sq_binder.specs.declared.scope.Scope.{out-Scope}
use Rattle.sq_binder.proofs.Clauses.Scopes.{fit_next, fit_stops, fits_done}
use Rattle.sq_binder.proofs.scope.Scope.only_fit.Goals as goal

pub loop-number-preserved : goal.loop-number-preserved
loop-number-preserved c =
    fit_next c.args.reference.now (only (fits c.args.reference.now (scope_of c.args.self.now))) (out-Scope c.args.self.now).items.now c.loop-number.number c.loop-number.found
    c.item-item.result c.column.result _ c.loop-number-test.true c.item-item.is c.loop-number.invariant c.column.ensures c.in-Ok.ensures

pub returns-in-Err : goal.returns-in-Err
returns-in-Err c =
    fit_stops c.args.reference.now (only (fits c.args.reference.now (scope_of c.args.self.now))) (out-Scope c.args.self.now).items.now c.loop-number.number c.loop-number.found
    c.item-item.result c.column.result c.in-Err.stop c.loop-number-test.true c.item-item.is c.loop-number.invariant c.column.ensures c.in-Err.ensures

pub returns : goal.returns
returns c =
    fits_done c.args.reference.now (only (fits c.args.reference.now (scope_of c.args.self.now))) (out-Scope c.args.self.now).items.now c.loop-number.number c.loop-number.found
    c.loop-number-test.false c.loop-number.invariant
