-- Left open for clause_cause: what the call of changed_end asks for; answered by Finding.
use Rattle.sq_bound.specs.WellFormed.{kinds_of_parameters}
use Rattle.sq_catalog.specs.Catalog.{bases_there, column_kinds}
use Rattle.sq_cause.proofs.Finding.{change_finds}
use Rattle.sq_cause.proofs.clause.clause_cause.Goals as goal

pub changed_end-requires : goal.changed_end-requires
changed_end-requires g c =
    let called = c.args.called.now in
    let catalog = called.catalog.now in
    let may = rw c.in-Update.is at c.requires.may in
    record { finds = rw c.new-setting.ensures.names (change_finds catalog.bases (column_kinds catalog) (bases_there catalog) (kinds_of_parameters called.procedure.now.parameters) c.in-Update.update.target may.asked.well_formed.0) }

pub changed_end-requires-in-Delete : goal.changed_end-requires-in-Delete
changed_end-requires-in-Delete g c =
    let called = c.args.called.now in
    let catalog = called.catalog.now in
    let may = rw c.in-Delete.is at c.requires.may in
    record { finds = rw c.new-setting.ensures.names (change_finds catalog.bases (column_kinds catalog) (bases_there catalog) (kinds_of_parameters called.procedure.now.parameters) c.in-Delete.target may.asked.well_formed) }
