-- Left open: what the calls of insertions, replacements and removals ask for; answered by laws of sq_session.
use Rattle.sq_bound.specs.WellFormed.{kinds_of_parameters}
use Rattle.sq_catalog.specs.Catalog.{column_kinds}
use Rattle.sq_module.specs.Program.{kinds_of_cursors}
use Rattle.sq_session.proofs.Calls.Asking.{may_assign, may_choose, may_give}
use Rattle.sq_cause.proofs.made.changes_of.Goals as goal

pub insertions-requires-clause-can : goal.insertions-requires-clause-can
insertions-requires-clause-can g c =
    let called = c.args.called.now in
    let kinds = kinds_of_parameters called.procedure.now.parameters in
    let may = rw c.in-Insert.is at c.requires.may in
    let set = c.new-setting.ensures in
    rw (set.names, set.store, set.user, set.parameters)
    (record {
      leaf = may.asked.well_formed.0;
      base = may.asked.fits.0;
      columns = may.asked.well_formed.1;
      given = may_give called.catalog.now (kinds_of_cursors called.cursors.now) _ called.procedure.now.user kinds called.values.now c.in-Insert.insert may.given c.requires.whole.4 may.asked.well_formed;
    })

pub replacements-requires-clause-can : goal.replacements-requires-clause-can
replacements-requires-clause-can g c =
    let called = c.args.called.now in
    let kinds = kinds_of_parameters called.procedure.now.parameters in
    let may = rw c.in-Update.is at c.requires.may in
    let u = c.in-Update.update in
    let set = c.new-setting.ensures in
    rw (set.names, set.store, set.user, set.parameters)
    (record {
      choose = record {
        base = may.asked.fits.0.0;
        given = c.in-Some.ensures.given;
        may = may_choose called.catalog.now _ called.procedure.now.user kinds called.values.now u.target may.given c.requires.whole.4 may.asked.well_formed.0;
      };
      there = c.in-Some.ensures.there;
      assign = may_assign (column_kinds called.catalog.now) (kinds_of_cursors called.cursors.now) kinds called.values.now u may.given may.asked.well_formed may.asked.fits.1 may.asked.fits.2;
    })

pub removals-requires-clause-can : goal.removals-requires-clause-can
removals-requires-clause-can g c =
    let called = c.args.called.now in
    let kinds = kinds_of_parameters called.procedure.now.parameters in
    let may = rw c.in-Delete.is at c.requires.may in
    let set = c.new-setting.ensures in
    rw (set.names, set.store, set.user, set.parameters)
    (record {
      base = may.asked.fits.0;
      given = c.in-Some-number_meant.ensures.given;
      may = may_choose called.catalog.now _ called.procedure.now.user kinds called.values.now c.in-Delete.target may.given c.requires.whole.4 may.asked.well_formed;
    })
