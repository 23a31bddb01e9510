-- Left open: the clauses fits, well_formed, opens, written and computed; answered by Computed and others.
use Rattle.std.proofs.Common.{IfOk, length, sym, subst, ◌∙◌}
use Rattle.sq_binding.specs.Statement.{statement_bound}
use Rattle.sq_bound.specs.Fits.{FitsStatement}
use Rattle.sq_bound.specs.WellFormed.{IsStatement, kinds_of_parameters}
use Rattle.sq_catalog.specs.Catalog.{column_kinds, known}
use Rattle.sq_catalog.specs.UserTables.{names_in}
use Rattle.sq_binding.specs.Names.{declared}
use Rattle.sq_module.specs.Named.{cursors_named}
use Rattle.sq_module.specs.Program.{OpensWellFormed, kinds_of_cursors}
use Rattle.sq_meaning.specs.Module.{declarations_of}
use Rattle.sq_module.specs.Written.{Declare, IsStatementIn}
use Rattle.sq_module.proofs.Computed.{kept_computed}
use Rattle.sq_module.proofs.Opening.{kept_is, opens_openable}
use Rattle.sq_module.proofs.Written.{statement_found}
use Rattle.sq_module.proofs.procedure.bound_procedure.Goals as goal

pub returns-in-Ok-clause-fits : goal.returns-in-Ok-clause-fits
returns-in-Ok-clause-fits c =
    let cursors = length c.args.cursors.now.cursors.now in
    subst (λ ps. IfOk c.in_ok-statement.statement (FitsStatement c.args.catalog.now.bases cursors (length ps))) (sym c.in-Ok.ensures)
    (kept_is (FitsStatement c.args.catalog.now.bases cursors (length c.as_slice-parameters.result.now)) c.bound_statement-bound.result c.in_ok-statement.statement c.in_ok-statement.ensures
    c.bound_statement-bound.ensures.fits)

pub returns-in-Ok-clause-well_formed : goal.returns-in-Ok-clause-well_formed
returns-in-Ok-clause-well_formed c =
    let columns = column_kinds c.args.catalog.now in
    let cursors = kinds_of_cursors c.args.cursors.now.cursors.now in
    subst (λ ps. IfOk c.in_ok-statement.statement (IsStatement columns cursors (kinds_of_parameters ps))) (sym c.in-Ok.ensures)
    (kept_is (IsStatement columns cursors (kinds_of_parameters c.as_slice-parameters.result.now)) c.bound_statement-bound.result c.in_ok-statement.statement c.in_ok-statement.ensures
    c.bound_statement-bound.ensures.well_formed)

pub returns-in-Ok-clause-opens : goal.returns-in-Ok-clause-opens
returns-in-Ok-clause-opens c =
    let columns = column_kinds c.args.catalog.now in
    let cursors = c.args.cursors.now.cursors.now in
    let p = c.args.admitted.now in
    subst (λ ps. IfOk c.in_ok-statement.statement (OpensWellFormed columns cursors (kinds_of_parameters ps))) (sym (c.in-Ok.ensures ∙ c.as_slice-parameters.ensures))
    (kept_is (OpensWellFormed columns cursors (kinds_of_parameters p.parameters)) c.bound_statement-bound.result c.in_ok-statement.statement c.in_ok-statement.ensures
    (opens_openable (known c.args.catalog.now) columns cursors c.args.cursors.now.numbers.now.entries c.args.user p c.bound_statement-bound.result c.requires
    (rw c.as_slice-parameters.ensures at c.bound_statement-bound.ensures.written)))

pub returns-in-Ok-clause-written : goal.returns-in-Ok-clause-written
returns-in-Ok-clause-written c =
    λ m user of numbers.
    let p = c.args.admitted.now.procedure.now in
    let cursors = c.args.cursors.now.cursors.now in
    let written = rw c.as_slice-parameters.ensures at c.bound_statement-bound.ensures.written in
    let found = statement_found (known c.args.catalog.now) m cursors c.args.cursors.now.numbers.now.entries c.args.user c.args.admitted.now.parameters p.statement c.bound_statement-bound.result user numbers written in
    record {
      user = user;
      parameters = subst (Declare (declarations_of p.declarations)) (sym (c.in-Ok.ensures ∙ c.as_slice-parameters.ensures)) of.1;
      statement = subst (λ ps. IfOk c.in_ok-statement.statement (IsStatementIn (known c.args.catalog.now) m cursors ps p.statement)) (sym (c.in-Ok.ensures ∙ c.as_slice-parameters.ensures))
          (kept_is (IsStatementIn (known c.args.catalog.now) m cursors c.args.admitted.now.parameters p.statement) c.bound_statement-bound.result c.in_ok-statement.statement c.in_ok-statement.ensures found);
    }

pub returns-in-Ok-clause-computed : goal.returns-in-Ok-clause-computed
returns-in-Ok-clause-computed c =
    let p = c.args.admitted.now in
    kept_computed (statement_bound (names_in c.args.catalog.now c.args.user) (declared p.parameters) (cursors_named c.args.cursors.now.cursors.now c.args.cursors.now.numbers.now.entries) p.procedure.now.statement)
    c.bound_statement-bound.result c.in_ok-statement.statement c.in_ok-statement.ensures (rw c.as_slice-parameters.ensures at c.bound_statement-bound.ensures.binds)
