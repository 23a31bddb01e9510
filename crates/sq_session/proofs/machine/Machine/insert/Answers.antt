-- Left open: what the call of insert asks for, and the clauses right and step; answered by Asking and others.
use Rattle.std.proofs.Common.{◌≡◌, List, Ok, Err, rules, subst, sym}
use Rattle.sq_value.specs.declared.value.Value.{Value}
use Rattle.sq_bound.specs.Fits.{AreInDomains}
use Rattle.sq_bound.specs.WellFormed.{kinds_of_parameters}
use Rattle.sq_module.specs.Program.{kinds_of_cursors}
use Rattle.sq_store.specs.Content.{Content}
use Rattle.sq_change.specs.Made.{Shown}
use Rattle.sq_change.specs.Performed.{insert_outcome}
use Rattle.sq_change.specs.Statement.{IsConsistent, IsShown}
use Rattle.sq_expression.specs.Fault.{Meets}
use Rattle.sq_expression.proofs.Views.{failed_as}
use Rattle.sq_session.specs.Kind.{Caller, caller_of}
use Rattle.sq_session.specs.Parameter.{AreGiven}
use Rattle.sq_session.specs.Schemas.{schemas_of}
use Rattle.sq_session.specs.Step.{seen_in}
use Rattle.sq_session.specs.State.{State}
use Rattle.sq_session.proofs.Calls.Asking.{consistent, may_give}
use Rattle.sq_session.proofs.Calls.Changing.{inserts_done, inserts_not}
use Rattle.sq_session.proofs.Calls.Ending.{fault_right}
use Rattle.sq_session.proofs.machine.Machine.insert.Goals as goal

pub insert-inserted-requires-clause-can : goal.insert-inserted-requires-clause-can
insert-inserted-requires-clause-can g c =
    let called = c.args.called.now in
    let kinds = kinds_of_parameters called.procedure.now.parameters in
    let inputs = c.inputs.result in
    let given = subst (λ (vs : List Value). AreGiven kinds vs) (sym c.inputs.ensures.parameters) c.requires.may.given in
    let in_domains = subst (λ (m : State). AreInDomains called.catalog.now.bases m.tables) (sym c.self.view_is) c.requires.whole.4 in
    record {
      leaf = c.requires.may.asked.well_formed.0;
      base = c.requires.may.asked.fits.0;
      columns = c.requires.may.asked.well_formed.1;
      given = may_give called.catalog.now (kinds_of_cursors called.cursors.now) _ inputs.user kinds inputs.parameters.now c.args.statement.now given in_domains c.requires.may.asked.well_formed;
    }

pub insert-inserted-requires-clause-kept : goal.insert-inserted-requires-clause-kept
insert-inserted-requires-clause-kept g c =
    subst (λ (m : State). IsConsistent c.args.called.now.catalog.now.bases m.tables m.keys) (sym c.self.view_is) (consistent _ _ _ c.args.self.now c.requires.whole)

pub returns-in-Err-clause-right : goal.returns-in-Err-clause-right
returns-in-Err-clause-right g c = let right = rw c.in-Err.is at c.insert-inserted.ensures.right in fault_right c.in-Err.fault right

pub returns-in-Err-clause-step : goal.returns-in-Err-clause-step
returns-in-Err-clause-step g c =
    let called = c.args.called.now in
    let schemas = schemas_of called.catalog.now in
    let caller : Caller = caller_of called.procedure.now.user called.procedure.now.parameters in
    let after = g.S.Store.content_now c.insert-inserted.new.store in
    let meant = rw (c.in-Err.is, c.inputs.ensures.user, c.inputs.ensures.parameters) at c.insert-inserted.ensures.meant in
    inserts_not schemas called.values.now c.args.self.now _ caller c.args.statement.now c.in-Err.fault (search rules)
    (subst (λ (m : State). (shown : Shown) → IsShown (seen_in schemas caller called.values.now m.tables) shown
    → Meets {A = Content} (Err c.in-Err.fault) (insert_outcome shown (seen_in schemas caller called.values.now m.tables) schemas.bases m.row_numbers c.args.statement.now)) c.self.view_is
    (λ shown is. failed_as (λ (u : Unit {0}). after) c.in-Err.fault _ (meant shown is)))

pub returns-clause-step : goal.returns-clause-step
returns-clause-step g c =
    let called = c.args.called.now in
    let schemas = schemas_of called.catalog.now in
    let caller : Caller = caller_of called.procedure.now.user called.procedure.now.parameters in
    let after = g.S.Store.content_now c.insert-inserted.new.store in
    let meant = rw (c.in_default.is, c.inputs.ensures.user, c.inputs.ensures.parameters) at c.insert-inserted.ensures.meant in
    inserts_done schemas called.values.now c.args.self.now _ caller c.args.statement.now c.successful.result c.successful.ensures (search rules)
    (subst (λ (m : State). (shown : Shown) → IsShown (seen_in schemas caller called.values.now m.tables) shown
    → insert_outcome shown (seen_in schemas caller called.values.now m.tables) schemas.bases m.row_numbers c.args.statement.now ≡ Ok after) c.self.view_is
    (λ shown is. meant shown is))
