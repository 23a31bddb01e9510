-- Left open for no_row_cause: what the call of chosen_none asks for; answered by laws of sq_session.
use Rattle.sq_bound.specs.WellFormed.{kinds_of_parameters}
use Rattle.sq_session.proofs.Calls.Asking.{may_choose}
use Rattle.sq_cause.proofs.no_row.no_row_cause.Goals as goal

pub chosen_none-requires-clause-base : goal.chosen_none-requires-clause-base
chosen_none-requires-clause-base g c =
    let may = rw c.in-Update.is at c.requires.may in
    rw c.new-setting.ensures.names may.asked.fits.0.0

pub chosen_none-requires-clause-may : goal.chosen_none-requires-clause-may
chosen_none-requires-clause-may g c =
    let called = c.args.called.now in
    let kinds = kinds_of_parameters called.procedure.now.parameters in
    let may = rw c.in-Update.is at c.requires.may in
    let set = c.new-setting.ensures in
    rw (set.names, set.store, set.user, set.parameters)
    (may_choose called.catalog.now _ called.procedure.now.user kinds called.values.now c.in-Update.update.target may.given c.requires.whole.4 may.asked.well_formed.0)

pub chosen_none-requires-in-Delete-clause-base : goal.chosen_none-requires-in-Delete-clause-base
chosen_none-requires-in-Delete-clause-base g c =
    let may = rw c.in-Delete.is at c.requires.may in
    rw c.new-setting.ensures.names may.asked.fits.0

pub chosen_none-requires-in-Delete-clause-may : goal.chosen_none-requires-in-Delete-clause-may
chosen_none-requires-in-Delete-clause-may g c =
    let called = c.args.called.now in
    let kinds = kinds_of_parameters called.procedure.now.parameters in
    let may = rw c.in-Delete.is at c.requires.may in
    let set = c.new-setting.ensures in
    rw (set.names, set.store, set.user, set.parameters)
    (may_choose called.catalog.now _ called.procedure.now.user kinds called.values.now c.in-Delete.target may.given c.requires.whole.4 may.asked.well_formed)
