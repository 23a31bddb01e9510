-- Left open for value_cause: what the call of set_fault asks for; answered by laws of sq_session.
use Rattle.sq_bound.specs.WellFormed.{kinds_of_parameters}
use Rattle.sq_catalog.specs.Catalog.{column_kinds}
use Rattle.sq_module.specs.Program.{kinds_of_cursors}
use Rattle.sq_session.proofs.Calls.Asking.{may_assign, may_choose}
use Rattle.sq_cause.proofs.value.value_cause.Goals as goal

pub set_fault-requires-clause-can : goal.set_fault-requires-clause-can
set_fault-requires-clause-can g c =
    let called = c.args.called.now in
    let kinds = kinds_of_parameters called.procedure.now.parameters in
    let may = rw c.in-Update.is at c.requires.may in
    let u = c.in-Update.update in
    let set = c.new-setting.ensures in
    rw (set.names, set.store, set.user, set.parameters)
    (record {
      choose = record {
        base = may.asked.fits.0.0;
        given = c.in-Some-number_meant.ensures.given;
        may = may_choose called.catalog.now _ called.procedure.now.user kinds called.values.now u.target may.given c.requires.whole.4 may.asked.well_formed.0;
      };
      there = c.in-Some-number_meant.ensures.there;
      assign = may_assign (column_kinds called.catalog.now) (kinds_of_cursors called.cursors.now) kinds called.values.now u may.given may.asked.well_formed may.asked.fits.1 may.asked.fits.2;
    })
