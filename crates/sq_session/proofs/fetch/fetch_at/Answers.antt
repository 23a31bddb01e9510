-- Left open: the call of fetch_cursor, and the clauses step and read; answered by Coming, Fetched and others.
use Rattle.std.proofs.Common.{◌<◌, ap, arith, get_or, length}
use Rattle.sq_bound.specs.WellFormed.{kinds_of_parameters}
use Rattle.sq_catalog.specs.Catalog.{column_kinds}
use Rattle.sq_change.proofs.Constraints.Obeyed.{keeps_tables}
use Rattle.sq_session.specs.Kind.{fetching}
use Rattle.sq_session.proofs.Fetching.Coming.{fetched_taken, place_meant}
use Rattle.sq_session.proofs.Fetching.Fetched.{may_fetch}
use Rattle.sq_session.proofs.Calls.Metering.{fetched_at}
use Rattle.sq_session.proofs.OpenCursors.Over.{as_many, over_there}
use Rattle.sq_session.proofs.Walks.QuietWalks.{kept_there}
use Rattle.sq_session.proofs.fetch.fetch_at.Goals as goal

pub fetch_cursor-requires-clause-tables : goal.fetch_cursor-requires-clause-tables
fetch_cursor-requires-clause-tables g c =
    let store = c.args.store.now in
    let whole = c.requires.whole in
    keeps_tables c.args.called.now.catalog.now.bases (g.S.Store.content_now store) (g.S.Store.key_columns store) (record {
      tables = record { rows = whole.0; in_domains = whole.4; constraints = whole.7 };
      keys = whole.2;
    })

pub fetch_cursor-requires-clause-finds : goal.fetch_cursor-requires-clause-finds
fetch_cursor-requires-clause-finds g c =
    let called = c.args.called.now in
    let cursors = c.args.cursors.now in
    let number = c.args.fetch.now.cursor in
    let asked = c.requires.may.asked in
    let whole = c.requires.whole in
    let there : number < length cursors = omega (arith, as_many called.cursors.now cursors whole.3, asked.fits.0) in
    record {
      over = over_there called.cursors.now cursors number c.index-cursors-fetch.result whole.3 there;
      kept = kept_there (column_kinds called.catalog.now) called.cursors.now cursors number c.index-cursors-fetch.result whole.6 there;
      place = place_meant (kinds_of_parameters called.procedure.now.parameters) called.values.now c.args.fetch.now.orientation c.requires.may.given asked.well_formed.0;
      taken =
          fetched_taken (column_kinds called.catalog.now) called.catalog.now.bases (g.S.Store.content_now c.args.store.now) called.cursors.now cursors called.procedure.now.user called.procedure.now.parameters c.args.fetch.now
          c.index-cursors-fetch.result whole.4 asked.cursors_fit asked.cursors_well_formed whole.3 whole.6 asked.well_formed there;
    }

pub returns-clause-step : goal.returns-clause-step
returns-clause-step g c =
    let called = c.args.called.now in
    let cursors = c.args.cursors.now in
    let number = c.args.fetch.now.cursor in
    let there : number < length cursors = omega (arith, as_many called.cursors.now cursors c.requires.whole.3, c.requires.may.asked.fits.0) in
    let old = get_or cursors number c.index-cursors-fetch.result in
    may_fetch (fetching called.cursors.now called.procedure.now.user called.procedure.now.parameters c.args.fetch.now) called.values.now (g.S.Store.content_now c.args.store.now) (g.S.Store.committed c.args.store.now) (g.S.Store.key_columns c.args.store.now) (g.S.Store.row_numbers c.args.store.now) cursors
    old c.fetch_cursor.new.cursor c.fetch_cursor.result there (ap (λ d. get_or cursors number d) c.index-cursors-fetch.is) c.fetch_cursor.ensures.fetched c.fetch_cursor.ensures.err

pub returns-clause-read : goal.returns-clause-read
returns-clause-read g c =
    let called = c.args.called.now in
    let cursors = c.args.cursors.now in
    let number = c.args.fetch.now.cursor in
    let there : number < length cursors = omega (arith, as_many called.cursors.now cursors c.requires.whole.3, c.requires.may.asked.fits.0) in
    let old = get_or cursors number c.index-cursors-fetch.result in
    fetched_at (fetching called.cursors.now called.procedure.now.user called.procedure.now.parameters c.args.fetch.now) (g.S.Store.content_now c.args.store.now) (g.S.Store.committed c.args.store.now) (g.S.Store.key_columns c.args.store.now) (g.S.Store.row_numbers c.args.store.now) cursors
    old c.fetch_cursor.result _ there (ap (λ d. get_or cursors number d) c.index-cursors-fetch.is) c.fetch_cursor.ensures.read
