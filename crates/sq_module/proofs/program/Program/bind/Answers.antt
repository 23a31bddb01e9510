-- Left open: the call of add_modules, and the clauses written, computed, fits and well_formed; answered by Fitting.
use Rattle.std.proofs.Common.{ap, subst, sym}
use Rattle.std.specs.List.{list_any}
use Rattle.sq_catalog.specs.Catalog.{known}
use Rattle.sq_catalog.specs.UserTables.{names_in}
use Rattle.sq_module.specs.Computed.{AreComputedCursors, AreComputedProcedures}
use Rattle.sq_module.specs.Opened.{is_in}
use Rattle.sq_module.specs.Written.{AreFromTexts}
use Rattle.sq_module.proofs.Fitting.{begun}
use Rattle.sq_module.proofs.program.Program.bind.Goals as goal

pub returns-in-Ok-clause-written : goal.returns-in-Ok-clause-written
returns-in-Ok-clause-written c =
    λ texts of.
    record { procedures = c.in-Ok.ensures.written texts of (subst (AreFromTexts (known c.args.catalog.now) texts c.new-2.result.items) (sym c.new.ensures.empty) tt); cursors = c.in-Ok.ensures.in_order.apart }

pub returns-in-Ok-clause-computed : goal.returns-in-Ok-clause-computed
returns-in-Ok-clause-computed c =
    λ texts of.
    let names = names_in c.args.catalog.now in
    c.in-Ok.ensures.computed texts of (record {
      procedures = subst (AreComputedProcedures names texts) (sym c.new.ensures.empty) tt;
      cursors = subst (AreComputedCursors names texts) (sym c.new-2.ensures.items) tt;
    })

pub add_modules-requires-clause-others : goal.add_modules-requires-clause-others
add_modules-requires-clause-others c = λ name. ap (list_any (is_in name)) c.new-2.ensures.items

pub add_modules-requires-clause-in_order : goal.add_modules-requires-clause-in_order
add_modules-requires-clause-in_order c = begun c.args.catalog.now _ c.new-2.ensures.items c.new.ensures.empty

pub returns-in-Ok-clause-fits : goal.returns-in-Ok-clause-fits
returns-in-Ok-clause-fits c = c.in-Ok.ensures.in_order.fits

pub returns-in-Ok-clause-well_formed : goal.returns-in-Ok-clause-well_formed
returns-in-Ok-clause-well_formed c = c.in-Ok.ensures.in_order.well_formed
