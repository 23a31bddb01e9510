-- Left open: the call of update, and the clauses right, step and read; answered by Asking and others.
use Rattle.std.proofs.Common.{◌≡◌, ◌∙◌, List, Ok, Err, ap, arith, rules, subst, sym}
use Rattle.std.proofs.lemmas.List.{places, with_items_is}
use Rattle.sq_value.specs.declared.value.Value.{Value}
use Rattle.std.specs.Prelude.{IfSome, IsSome}
use Rattle.sq_store.specs.Content.{Content, row_at, table_at}
use Rattle.sq_bound.specs.Fits.{AreInDomains, under}
use Rattle.sq_bound.specs.WellFormed.{kinds_of_parameters}
use Rattle.sq_catalog.specs.Catalog.{column_kinds}
use Rattle.sq_module.specs.Program.{kinds_of_cursors}
use Rattle.sq_change.specs.Made.{Shown}
use Rattle.sq_change.specs.Performed.{update_outcome}
use Rattle.sq_change.specs.Statement.{IsConsistent, IsShown}
use Rattle.sq_expression.specs.Fault.{Meets}
use Rattle.sq_expression.proofs.Views.{failed_as}
use Rattle.sq_session.specs.Kind.{Caller, caller_of, updating}
use Rattle.sq_session.specs.Parameter.{AreGiven}
use Rattle.sq_session.specs.Schemas.{schemas_of}
use Rattle.sq_session.specs.Step.{seen_in, walks_listed}
use Rattle.sq_session.specs.State.{State}
use Rattle.sq_session.proofs.Calls.Asking.{consistent, may_assign, may_choose}
use Rattle.sq_session.specs.Cursors.{go_on, put_all}
use Rattle.sq_session.specs.declared.cursor.CursorState.{CursorState}
use Rattle.sq_session.proofs.Calls.Changing.{put_as_many, same_but_tables, updates_done, updates_not}
use Rattle.sq_session.proofs.Calls.Ending.{fault_right}
use Rattle.sq_session.proofs.Calls.Metering.{update_read}
use Rattle.sq_session.proofs.machine.Machine.update.Goals as goal

pub update-updated-requires-clause-can : goal.update-updated-requires-clause-can
update-updated-requires-clause-can g c =
    let called = c.args.called.now in
    let u = c.args.statement.now in
    let kinds = kinds_of_parameters called.procedure.now.parameters in
    let inputs = c.inputs.result in
    let given = subst (λ (vs : List Value). AreGiven kinds vs) (sym c.inputs.ensures.parameters) c.requires.may.given in
    let in_domains = subst (λ (m : State). AreInDomains called.catalog.now.bases m.tables) (sym c.self.view_is) c.requires.whole.4 in
    record {
      choose = record {
        base = c.requires.may.asked.fits.0.0;
        given = c.in_ok-on.ensures.given;
        may = may_choose called.catalog.now _ inputs.user kinds inputs.parameters.now u.target given in_domains c.requires.may.asked.well_formed.0;
      };
      there = subst (λ (m : State). IfSome c.in_ok-on.on (λ n. IsSome (row_at (table_at m.tables (under u.target).table.place) n))) (sym c.self.view_is) c.in_ok-on.ensures.there;
      assign = may_assign (column_kinds called.catalog.now) (kinds_of_cursors called.cursors.now) kinds inputs.parameters.now u given c.requires.may.asked.well_formed c.requires.may.asked.fits.1 c.requires.may.asked.fits.2;
    }

pub update-updated-requires-clause-kept : goal.update-updated-requires-clause-kept
update-updated-requires-clause-kept g c =
    subst (λ (m : State). IsConsistent c.args.called.now.catalog.now.bases m.tables m.keys) (sym c.self.view_is) (consistent _ _ _ c.args.self.now c.requires.whole)

pub returns-in-Err-clause-right : goal.returns-in-Err-clause-right
returns-in-Err-clause-right g c = let right = rw c.in-Err.is at c.update-updated.ensures.right in fault_right c.in-Err.fault right

pub returns-in-Err-clause-step : goal.returns-in-Err-clause-step
returns-in-Err-clause-step g c =
    let called = c.args.called.now in
    let schemas = schemas_of called.catalog.now in
    let caller : Caller = caller_of called.procedure.now.user called.procedure.now.parameters in
    let u = updating called.cursors.now caller c.args.statement.now in
    let on = c.in_ok-on.on in
    let after = g.S.Store.content_now c.update-updated.new.store in
    let meant = rw (c.in-Err.is, c.inputs.ensures.user, c.inputs.ensures.parameters) at c.update-updated.ensures.meant in
    updates_not schemas called.values.now c.args.self.now _ u c.args.statement.now.target on c.in-Err.fault c.in_ok-on.ensures.on (sym c.in_ok-on.ensures.ready) (search rules)
    (subst (λ (m : State). (shown : Shown) → IsShown (seen_in schemas caller called.values.now m.tables) shown
    → Meets {A = Content} (Err c.in-Err.fault) (update_outcome shown (seen_in schemas caller called.values.now m.tables) schemas.bases c.args.statement.now on)) c.self.view_is
    (λ shown is. failed_as (λ (u : Unit {0}). after) c.in-Err.fault _ (meant shown is)))

pub returns-in-Ok-clause-step : goal.returns-in-Ok-clause-step
returns-in-Ok-clause-step g c =
    let called = c.args.called.now in
    let schemas = schemas_of called.catalog.now in
    let caller : Caller = caller_of called.procedure.now.user called.procedure.now.parameters in
    let values = called.values.now in
    let u = updating called.cursors.now caller c.args.statement.now in
    let b : State = c.args.self.now in
    let on = c.in_ok-on.on in
    let content = g.S.Store.content_now c.update-updated.new.store in
    let meant = rw (c.in-Ok.is, c.inputs.ensures.user, c.inputs.ensures.parameters) at c.update-updated.ensures.meant in
    let lists = rw c.as_slice.ensures.value at c.in_ok-lists.ensures.lists in
    let cursors = with_items_is c.self.inside.cursors c.put_lists.new.cursors (search (rules, places, put_as_many)) ∙ (c.put_lists.ensures
    ∙ (ap (λ (cs : List CursorState). put_all cs c.in_ok-lists.lists.items) c.as_mut_slice.ensures.value ∙ (lists
    ∙ ap (λ (m : State). go_on c.args.statement.now on m.tables called.cursors.now m.cursors) c.self.view_is))) in
    updates_done schemas values b _ u c.args.statement.now.target on c.successful.result c.in_ok-on.ensures.on (sym c.in_ok-on.ensures.ready) c.successful.ensures
    (same_but_tables _ (walks_listed u on b) (search rules) (search rules) (search rules) cursors)
    (subst (λ (m : State). (shown : Shown) → IsShown (seen_in schemas caller values m.tables) shown
    → update_outcome shown (seen_in schemas caller values m.tables) schemas.bases c.args.statement.now on ≡ Ok content) c.self.view_is
    (λ shown is. meant shown is))

pub returns-in-Err-clause-read : goal.returns-in-Err-clause-read
returns-in-Err-clause-read g c =
    let called = c.args.called.now in
    let caller : Caller = caller_of called.procedure.now.user called.procedure.now.parameters in
    let u = updating called.cursors.now caller c.args.statement.now in
    let read = rw (c.inputs.ensures.user, c.inputs.ensures.parameters) at c.update-updated.ensures.read in
    update_read u c.args.statement.now.target called.values.now c.args.self.now (Err c.in-Err.fault) _ _ c.requires.meter read

pub returns-in-Ok-clause-read : goal.returns-in-Ok-clause-read
returns-in-Ok-clause-read g c =
    let called = c.args.called.now in
    let caller : Caller = caller_of called.procedure.now.user called.procedure.now.parameters in
    let u = updating called.cursors.now caller c.args.statement.now in
    let read = rw (c.inputs.ensures.user, c.inputs.ensures.parameters) at c.update-updated.ensures.read in
    update_read u c.args.statement.now.target called.values.now c.args.self.now (Ok c.successful.result) _ _ c.requires.meter read

pub returns-in_err-on-clause-read : goal.returns-in_err-on-clause-read
returns-in_err-on-clause-read g c =
    let called = c.args.called.now in
    let caller : Caller = caller_of called.procedure.now.user called.procedure.now.parameters in
    let u = updating called.cursors.now caller c.args.statement.now in
    update_read u c.args.statement.now.target called.values.now c.args.self.now c.from_residual.result c.args.meter.now c.args.meter.now c.requires.meter (λ keyed. omega arith)

pub returns-in_err-lists-clause-read : goal.returns-in_err-lists-clause-read
returns-in_err-lists-clause-read g c =
    let called = c.args.called.now in
    let caller : Caller = caller_of called.procedure.now.user called.procedure.now.parameters in
    let u = updating called.cursors.now caller c.args.statement.now in
    update_read u c.args.statement.now.target called.values.now c.args.self.now c.from_residual-in_err-lists.result c.args.meter.now c.args.meter.now c.requires.meter (λ keyed. omega arith)
