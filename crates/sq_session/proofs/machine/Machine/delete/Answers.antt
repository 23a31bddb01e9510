-- Left open: the call of delete, and the clauses right, step and read; answered by Changing and others.
use Rattle.std.proofs.Common.{◌≡◌, ◌∙◌, List, Ok, Err, ap, arith, refl, rules, slice_set, subst, sym}
use Rattle.std.specs.List.{slice_index_or}
use Rattle.std.proofs.lemmas.List.{places, with_items_is}
use Rattle.sq_value.specs.declared.value.Value.{Value}
use Rattle.sq_store.specs.Content.{Content}
use Rattle.sq_bound.specs.Fits.{AreInDomains}
use Rattle.sq_bound.specs.WellFormed.{kinds_of_parameters}
use Rattle.sq_bound.specs.declared.statement.ChangeTarget.{ChangeTarget}
use Rattle.sq_bound.specs.declared.statement.ChangeTarget.TheVariants as target
use Rattle.sq_change.specs.Made.{Shown}
use Rattle.sq_change.specs.Performed.{delete_outcome}
use Rattle.sq_change.specs.Statement.{IsConsistent, IsShown}
use Rattle.sq_expression.specs.Fault.{Meets}
use Rattle.sq_expression.proofs.Views.{failed_as}
use Rattle.sq_session.specs.Kind.{Caller, caller_of}
use Rattle.sq_session.specs.Parameter.{AreGiven}
use Rattle.sq_session.specs.Schemas.{schemas_of}
use Rattle.sq_session.specs.Step.{seen_in}
use Rattle.sq_session.specs.State.{State, cursor_at, off_row, with_cursor}
use Rattle.sq_session.specs.declared.cursor.CursorState.{CursorState}
use Rattle.sq_session.specs.declared.cursor.CursorState.TheVariants as cursor
use Rattle.sq_session.proofs.Calls.Changing.{deletes_done, deletes_not, left_behind, same_but_tables}
use Rattle.sq_session.proofs.Calls.Ending.{fault_right}
use Rattle.sq_session.proofs.Calls.Asking.{consistent, may_choose}
use Rattle.sq_session.proofs.Calls.Metering.{delete_read}
use Rattle.sq_session.proofs.machine.Machine.delete.Goals as goal
use Rattle.sq_session.proofs.machine.Machine.delete.Goals.{in-Positioned, in_default-target}

pub delete-deleted-requires-clause-can : goal.delete-deleted-requires-clause-can
delete-deleted-requires-clause-can g c =
    let called = c.args.called.now in
    let kinds = kinds_of_parameters called.procedure.now.parameters in
    let inputs = c.inputs.result in
    let given = subst (λ (vs : List Value). AreGiven kinds vs) (sym c.inputs.ensures.parameters) c.requires.may.given in
    let in_domains = subst (λ (m : State). AreInDomains called.catalog.now.bases m.tables) (sym c.self.view_is) c.requires.whole.4 in
    record {
      base = c.requires.may.asked.fits.0;
      given = c.in_ok-on.ensures.given;
      may = may_choose called.catalog.now _ inputs.user kinds inputs.parameters.now c.args.target.now given in_domains c.requires.may.asked.well_formed;
    }

pub delete-deleted-requires-clause-kept : goal.delete-deleted-requires-clause-kept
delete-deleted-requires-clause-kept g c =
    subst (λ (m : State). IsConsistent c.args.called.now.catalog.now.bases m.tables m.keys) (sym c.self.view_is) (consistent _ _ _ c.args.self.now c.requires.whole)

pub returns-in-Err-clause-right : goal.returns-in-Err-clause-right
returns-in-Err-clause-right g c = let right = rw c.in-Err.is at c.delete-deleted.ensures.right in fault_right c.in-Err.fault right

pub returns-in-Err-clause-step : goal.returns-in-Err-clause-step
returns-in-Err-clause-step g c =
    let called = c.args.called.now in
    let schemas = schemas_of called.catalog.now in
    let caller : Caller = caller_of called.procedure.now.user called.procedure.now.parameters in
    let t = c.args.target.now in
    let on = c.in_ok-on.on in
    let after = g.S.Store.content_now c.delete-deleted.new.store in
    let meant = rw (c.in-Err.is, c.inputs.ensures.user, c.inputs.ensures.parameters) at c.delete-deleted.ensures.meant in
    deletes_not schemas called.values.now c.args.self.now _ caller t on c.in-Err.fault c.in_ok-on.ensures.on (sym c.in_ok-on.ensures.ready) (search rules)
    (subst (λ (m : State). (shown : Shown) → IsShown (seen_in schemas caller called.values.now m.tables) shown
    → Meets {A = Content} (Err c.in-Err.fault) (delete_outcome shown (seen_in schemas caller called.values.now m.tables) schemas.bases t on)) c.self.view_is
    (λ shown is. failed_as (λ (u : Unit {0}). after) c.in-Err.fault _ (meant shown is)))

pub returns-clause-step : goal.returns-clause-step
returns-clause-step g c =
    let called = c.args.called.now in
    let schemas = schemas_of called.catalog.now in
    let caller : Caller = caller_of called.procedure.now.user called.procedure.now.parameters in
    let values = called.values.now in
    let b : State = c.args.self.now in
    let a : State = c.match-target.self in
    let t = c.args.target.now in
    let on = c.in_ok-on.on in
    let content = g.S.Store.content_now c.delete-deleted.new.store in
    let meant = rw (c.in_default.is, c.inputs.ensures.user, c.inputs.ensures.parameters) at c.delete-deleted.ensures.meant in
    let done = λ (x : ChangeTarget) (is : t ≡ x) (same : a ≡ record (left_behind b x) { tables = a.tables }) (tables : content ≡ a.tables).
    deletes_done schemas values b a caller t on c.successful.result c.in_ok-on.ensures.on (sym c.in_ok-on.ensures.ready) c.successful.ensures
    (subst (λ (y : ChangeTarget). a ≡ record (left_behind b y) { tables = a.tables }) (sym is) same)
    (subst (λ (x : Content). (shown : Shown) → IsShown (seen_in schemas caller values b.tables) shown
    → delete_outcome shown (seen_in schemas caller values b.tables) schemas.bases t on ≡ Ok x) tables
    (subst (λ (m : State). (shown : Shown) → IsShown (seen_in schemas caller values m.tables) shown
    → delete_outcome shown (seen_in schemas caller values m.tables) schemas.bases t on ≡ Ok content) c.self.view_is
    (λ shown is. meant shown is))) in
    elim c.match-target.branch [
      | in-Positioned w ↦
          let p = w.in-Positioned.positioned in
          let cursors : a.cursors ≡ slice_set b.cursors p.cursor (off_row (cursor_at b p.cursor))
          = ap (λ (m : State). m.cursors) w.self-is ∙ (with_items_is c.self.inside.cursors w.leave_row.new.cursors (search (rules, places)) ∙ (w.leave_row.ensures
          ∙ ap (λ (cs : List CursorState). slice_set cs p.cursor (off_row (slice_index_or cs p.cursor cursor.Closed))) (w.as_mut_slice.ensures.value ∙ ap (λ (m : State). m.cursors) c.self.view_is))) in
          done (target.Positioned p) w.in-Positioned.is
          (same_but_tables a (with_cursor b p.cursor (off_row (cursor_at b p.cursor))) (search rules) (search rules) (search rules) cursors) (search rules)
      | in_default-target w ↦ done t refl (search rules) (search rules)
    ]

pub returns-in-Err-clause-read : goal.returns-in-Err-clause-read
returns-in-Err-clause-read g c =
    let called = c.args.called.now in
    let caller : Caller = caller_of called.procedure.now.user called.procedure.now.parameters in
    let read = rw (c.inputs.ensures.user, c.inputs.ensures.parameters) at c.delete-deleted.ensures.read in
    delete_read caller c.args.target.now called.values.now c.args.self.now (Err c.in-Err.fault) _ _ c.requires.meter read

pub returns-clause-read : goal.returns-clause-read
returns-clause-read g c =
    let called = c.args.called.now in
    let caller : Caller = caller_of called.procedure.now.user called.procedure.now.parameters in
    let read = rw (c.inputs.ensures.user, c.inputs.ensures.parameters) at c.delete-deleted.ensures.read in
    delete_read caller c.args.target.now called.values.now c.args.self.now (Ok c.successful.result) _ _ c.requires.meter read

pub returns-in_err-on-clause-read : goal.returns-in_err-on-clause-read
returns-in_err-on-clause-read g c =
    let called = c.args.called.now in
    let caller : Caller = caller_of called.procedure.now.user called.procedure.now.parameters in
    delete_read caller c.args.target.now called.values.now c.args.self.now c.from_residual.result c.args.meter.now c.args.meter.now c.requires.meter (λ keyed. omega arith)
