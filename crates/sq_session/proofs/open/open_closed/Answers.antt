-- Left open: the call of make_open, and the clauses step, kept, right and read; answered by Asking, Ending, Kept, Metering and others.
use Rattle.std.proofs.Common.{◌≡◌, Some, ap, get_or, refl, slice_get}
use Rattle.std.specs.Option.{option_map, option_map_or}
use Rattle.std.proofs.lemmas.Option.{slice_get-get_or}
use Rattle.sq_bound.specs.WellFormed.{kinds_of_parameters}
use Rattle.sq_catalog.specs.Catalog.{column_kinds}
use Rattle.sq_change.proofs.Constraints.Obeyed.{keeps_tables}
use Rattle.sq_session.specs.Kind.{Over, opening, over_of}
use Rattle.sq_session.specs.Schemas.{schemas_of}
use Rattle.sq_session.specs.State.{State}
use Rattle.sq_session.proofs.Calls.Asking.{cursor_there}
use Rattle.sq_session.proofs.Calls.Ending.{fault_right}
use Rattle.sq_session.proofs.OpenCursors.Kept.{put_kept}
use Rattle.sq_session.proofs.Calls.Metering.{opened_at}
use Rattle.sq_session.proofs.OpenCursors.Opened.{opens, opens_not}
use Rattle.sq_session.proofs.Walks.QuietWalks.{fits_here}
use Rattle.sq_session.proofs.open.open_closed.Goals as goal

pub returns-in-Ok-clause-step : goal.returns-in-Ok-clause-step
returns-in-Ok-clause-step g c =
    let called = c.args.called.now in
    let number = c.args.number in
    let declared = get_or called.cursors.now number c.index-called-number.result in
    let found : slice_get called.cursors.now number ≡ Some declared = slice_get-get_or called.cursors.now number c.index-called-number.result c.requires.may.asked.fits in
    let before : State = record { tables = g.S.Store.content_now c.args.store.now; committed = g.S.Store.committed c.args.store.now; keys = g.S.Store.key_columns c.args.store.now; row_numbers = g.S.Store.row_numbers c.args.store.now; cursors = c.args.cursors.now } in
    opens (schemas_of called.catalog.now) (opening called.cursors.now called.procedure.now.user called.procedure.now.parameters number) (over_of declared.cursor.body) declared.cursor.body called.values.now before _ c.in-Ok.cursor c.successful.result
    (ap (λ o. option_map_or (λ d. over_of d.cursor.body) o Over.rows) found) (ap (λ o. option_map (λ d. d.cursor.body) o) found) c.in-Ok.ensures.opened c.successful.ensures refl

pub returns-in-Err-clause-step : goal.returns-in-Err-clause-step
returns-in-Err-clause-step g c =
    let called = c.args.called.now in
    let number = c.args.number in
    let declared = get_or called.cursors.now number c.index-called-number.result in
    let found : slice_get called.cursors.now number ≡ Some declared = slice_get-get_or called.cursors.now number c.index-called-number.result c.requires.may.asked.fits in
    let before : State = record { tables = g.S.Store.content_now c.args.store.now; committed = g.S.Store.committed c.args.store.now; keys = g.S.Store.key_columns c.args.store.now; row_numbers = g.S.Store.row_numbers c.args.store.now; cursors = c.args.cursors.now } in
    opens_not (schemas_of called.catalog.now) (opening called.cursors.now called.procedure.now.user called.procedure.now.parameters number) (over_of declared.cursor.body) declared.cursor.body called.values.now before c.in-Err.fault
    (ap (λ o. option_map_or (λ d. over_of d.cursor.body) o Over.rows) found) (ap (λ o. option_map (λ d. d.cursor.body) o) found) c.in-Err.ensures.opened

pub make_open-requires-clause-cursor : goal.make_open-requires-clause-cursor
make_open-requires-clause-cursor g c =
    let called = c.args.called.now in
    let asked = c.requires.may.asked in
    record {
      fits = fits_here called.catalog.now.bases called.cursors.now c.args.number c.index-called-number.result asked.cursors_fit asked.fits;
      well_formed = cursor_there (column_kinds called.catalog.now) (kinds_of_parameters called.procedure.now.parameters) called.cursors.now c.args.number c.index-called-number.result asked.opens asked.fits;
      given = c.requires.may.given;
    }

pub make_open-requires-clause-tables : goal.make_open-requires-clause-tables
make_open-requires-clause-tables g c =
    let store = c.args.store.now in
    let whole = c.requires.whole in
    keeps_tables c.args.called.now.catalog.now.bases (g.S.Store.content_now store) (g.S.Store.key_columns store) (record {
      tables = record { rows = whole.0; in_domains = whole.4; constraints = whole.7 };
      keys = whole.2;
    })

pub returns-in-Ok-clause-kept : goal.returns-in-Ok-clause-kept
returns-in-Ok-clause-kept g c =
    put_kept (column_kinds c.args.called.now.catalog.now) c.args.called.now.cursors.now c.args.cursors.now c.args.number c.index-called-number.result c.in-Ok.cursor c.requires.whole.6 c.in-Ok.ensures.kept

pub returns-in-Err-clause-right : goal.returns-in-Err-clause-right
returns-in-Err-clause-right g c = fault_right c.in-Err.fault c.in-Err.ensures.right

pub returns-in-Ok-clause-read : goal.returns-in-Ok-clause-read
returns-in-Ok-clause-read g c =
    let called = c.args.called.now in
    let number = c.args.number in
    let declared = get_or called.cursors.now number c.index-called-number.result in
    opened_at called.cursors.now number declared _ (slice_get-get_or called.cursors.now number c.index-called-number.result c.requires.may.asked.fits) c.in-Ok.ensures.read

pub returns-in-Err-clause-read : goal.returns-in-Err-clause-read
returns-in-Err-clause-read g c =
    let called = c.args.called.now in
    let number = c.args.number in
    let declared = get_or called.cursors.now number c.index-called-number.result in
    opened_at called.cursors.now number declared _ (slice_get-get_or called.cursors.now number c.index-called-number.result c.requires.may.asked.fits) c.in-Err.ensures.read
