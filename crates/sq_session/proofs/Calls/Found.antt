-- What is known of the statement of the procedure that is found.
use Rattle.std.proofs.Common.{◌≡◌, ℕ, zero, suc, List, [], ◌∷◌, length, slice_get, Some, None, Ok, Err, arith}
use Rattle.sq_bound.specs.WellFormed.{TableKinds}
use Rattle.sq_binder.specs.declared.stop.Fault.{Fault}
use Rattle.sq_bound.specs.declared.names.BaseTable.{BaseTable}
use Rattle.sq_bound.specs.declared.statement.BoundStatement.{BoundStatement}
use Rattle.sq_binding.proofs.Standing.Levels.{all_at}
use Rattle.sq_module.specs.Program.{FitsProcedure, FitsProgram, ProcedureIsWellFormed, ProcedureOpens, ProgramIsWellFormed, kinds_of_cursors}
use Rattle.sq_module.specs.declared.program.BoundProcedure.{BoundProcedure}
use Rattle.sq_module.specs.declared.program.DeclaredCursor.{DeclaredCursor}
use Rattle.sq_module.specs.declared.program.ProcedureName.{ProcedureName}
use Rattle.sq_module.specs.declared.program.Program.{Program}
use Rattle.sq_session.specs.Asked.{IsAsked}
use Rattle.sq_session.specs.Kind.{kind_at}
use Rattle.sq_session.specs.Session.{procedures_of}

abbrev Entry : Type 0
Entry = ProcedureName × BoundProcedure

-- A statement of a procedure is in order, where the program is.
pub asked_at : (columns : TableKinds) (bases : List BaseTable) (p : Program) (n : ℕ) (e : Entry) (s : BoundStatement) → slice_get p.procedures.entries n ≡ Some e → e.1.statement ≡ Ok s
    → FitsProgram bases p → ProgramIsWellFormed columns p → IsAsked columns bases p.cursors.items e.1.parameters s
asked_at columns bases p n e s at is fit formed =
    let cs = p.cursors.items in
    let es = p.procedures.entries in
    let fits : FitsProcedure bases (length cs) e.1 = all_at (λ (x : Entry). FitsProcedure bases (length cs) x.1) es n e fit.1 at in
    let one : ProcedureIsWellFormed columns (kinds_of_cursors cs) e.1 = all_at (λ (x : Entry). ProcedureIsWellFormed columns (kinds_of_cursors cs) x.1) es n e formed.1 at in
    let opened : ProcedureOpens columns cs e.1 = all_at (λ (x : Entry). ProcedureOpens columns cs x.1) es n e formed.2 at in
    record { fits = rw is at fits; well_formed = rw is at one; opens = rw is at opened; cursors_fit = fit.0; cursors_well_formed = formed.0 }

-- A statement with a fault is of no kind.
pub no_kind_is : (cs : List DeclaredCursor) (es : List Entry) (n : ℕ) (e : Entry) (f : Fault) → slice_get es n ≡ Some e → e.1.statement ≡ Err f → kind_at (procedures_of cs es) n ≡ None
no_kind_is cs [] n e f h k = cc
no_kind_is cs (x ∷ es) zero e f h k = grind (arith, h, k)
no_kind_is cs (x ∷ es) (suc n) e f h k = no_kind_is cs es n e f h k
