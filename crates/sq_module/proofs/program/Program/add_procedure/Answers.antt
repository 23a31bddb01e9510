-- Left open: the clauses in_order, written and computed; answered by Fitting, Computed and Written.
use Rattle.std.proofs.Common.{length, refl}
use Rattle.std.proofs.lemmas.Result.{on_ok_weaker}
use Rattle.sq_catalog.specs.Catalog.{column_kinds, known}
use Rattle.sq_module.proofs.Fitting.{procedure_added}
use Rattle.sq_module.specs.Program.{FitsProcedure, ProcedureIsWellFormed, ProcedureOpens, kinds_of_cursors}
use Rattle.sq_binding.specs.Statement.{statement_bound}
use Rattle.sq_catalog.specs.UserTables.{names_in}
use Rattle.sq_binding.specs.Names.{declared}
use Rattle.sq_module.specs.Computed.{IsComputed}
use Rattle.sq_module.specs.Named.{cursors_named, number_in}
use Rattle.sq_module.specs.Written.{AreNumbers, IsBoundFrom}
use Rattle.sq_module.proofs.Computed.{procedure_computed, procedures_computed}
use Rattle.sq_module.proofs.Written.{procedure_next}
use Rattle.sq_module.proofs.program.Program.add_procedure.Goals as goal

pub returns-clause-in_order : goal.returns-clause-in_order
returns-clause-in_order c =
    let columns = column_kinds c.args.catalog.now in
    let cursors = c.args.self.now.cursors.items in
    let before = c.requires.in_order in
    let fits : FitsProcedure c.args.catalog.now.bases (length cursors) c.in_ok-bound.bound = rw c.as_slice.ensures.value at c.in_ok-bound.ensures.fits in
    let formed : ProcedureIsWellFormed columns (kinds_of_cursors cursors) c.in_ok-bound.bound = rw c.as_slice.ensures.value at c.in_ok-bound.ensures.well_formed in
    let opens : ProcedureOpens columns cursors c.in_ok-bound.bound = rw c.as_slice.ensures.value at c.in_ok-bound.ensures.opens in
    on_ok_weaker c.insert_procedure.result (λ is. record {
      fits = (before.fits.0, procedure_added (FitsProcedure _ _) _ _ _ _ is before.fits.1 fits);
      well_formed = (
        before.well_formed.0,
        procedure_added (ProcedureIsWellFormed _ _) _ _ _ _ is before.well_formed.1 formed,
        procedure_added (ProcedureOpens _ _) _ _ _ _ is before.well_formed.2 opens,
      );
      apart = before.apart;
    }) c.insert_procedure.ensures.entries

pub returns-clause-written : goal.returns-clause-written
returns-clause-written c =
    λ texts m among of is_procedure numbers before.
    let cursors = c.args.self.now.cursors.items in
    let numbers_here : AreNumbers (known c.args.catalog.now) m c.as_slice.result.now c.args.numbers.now.entries = rw c.as_slice.ensures.value numbers in
    let one : IsBoundFrom (known c.args.catalog.now) m cursors c.args.admitted.now.procedure.now c.in_ok-bound.bound
    = rw c.as_slice.ensures.value at (c.in_ok-bound.ensures.written m (of.user) is_procedure numbers_here) in
    on_ok_weaker c.insert_procedure.result (λ is. procedure_next (known c.args.catalog.now) texts m cursors _ _ _ c.args.admitted.now.procedure.now _ is among of.name is_procedure.0 refl one before) c.insert_procedure.ensures.entries

pub returns-clause-computed : goal.returns-clause-computed
returns-clause-computed c =
    λ texts m among of is_procedure named before.
    let names = names_in c.args.catalog.now in
    let cursors = c.args.self.now.cursors.items in
    let numbers = c.args.numbers.now.entries in
    let p = c.args.admitted.now in
    let here : IsComputed (statement_bound (names c.args.«module».now.user) (declared p.parameters) (cursors_named cursors numbers) p.procedure.now.statement) c.in_ok-bound.bound.statement
    = rw c.as_slice.ensures.value at c.in_ok-bound.ensures.computed in
    let one = procedure_computed names m c.args.«module».now p (cursors_named cursors numbers) (number_in numbers) c.in_ok-bound.bound.statement of is_procedure named here in
    on_ok_weaker c.insert_procedure.result (λ is. procedures_computed names texts m _ _ _ p.procedure.now (number_in numbers) _ is among of.name is_procedure.0 refl one before) c.insert_procedure.ensures.entries
