-- Left open for no_number_cause: what the call of unnumbered asks for; answered by laws of sq_session.
use Rattle.sq_bound.specs.WellFormed.{kinds_of_parameters}
use Rattle.sq_module.specs.Program.{kinds_of_cursors}
use Rattle.sq_session.proofs.Calls.Asking.{may_give}
use Rattle.sq_cause.proofs.no_row.no_number_cause.Goals as goal

pub unnumbered-requires-clause-can : goal.unnumbered-requires-clause-can
unnumbered-requires-clause-can g c =
    let called = c.args.called.now in
    let kinds = kinds_of_parameters called.procedure.now.parameters in
    let may = rw c.in-Insert.is at c.requires.may in
    let set = c.new-setting.ensures in
    rw (set.names, set.store, set.user, set.parameters)
    (record {
      leaf = may.asked.well_formed.0;
      base = may.asked.fits.0;
      columns = may.asked.well_formed.1;
      given = may_give called.catalog.now (kinds_of_cursors called.cursors.now) _ called.procedure.now.user kinds called.values.now c.in-Insert.insert may.given c.requires.whole.4 may.asked.well_formed;
    })
