-- That a program is what the definitions of binding compute of the module texts, the faults included (ISO/IEC 9075:1992, 12.1, 12.3, 13.1 and
-- clause 13): names of tables mean what they mean to the module's user, and each cursor is bound for the parameters of the procedures
-- that open it.
use Rattle.std.specs.Prelude.{◌≡◌, ℕ, List, Option, None, Some, Ok, Err, Result}
use Rattle.std.specs.List.{AllByRecursion, IsAmong}
use Rattle.sq_lex.specs.declared.name.Name.{Name}
use Rattle.sq_tree.specs.declared.module.Cursor.{Cursor}
use Rattle.sq_tree.specs.declared.module.ModuleItem.TheVariants as item
use Rattle.sq_tree.specs.declared.module.ModuleText.{ModuleText}
use Rattle.sq_tree.specs.declared.module.Procedure.{Procedure}
use Rattle.sq_meaning.specs.WellFormedStatement.{opener_parameters}
use Rattle.sq_bound.specs.declared.statement.BoundStatement.{BoundStatement}
use Rattle.sq_binding.specs.Changeable.{UserNames}
use Rattle.sq_binding.specs.Cursor.{cursor_bound}
use Rattle.sq_binding.specs.Outcome.{Outcome}
use Rattle.sq_binding.specs.Procedure.{procedure_bound}
use Rattle.sq_binding.specs.Statement.{NumberedStatement}
use Rattle.sq_binder.specs.declared.stop.Fault.{Fault}
use Rattle.sq_binder.specs.declared.stop.Stop.{Stop}
use Rattle.sq_binder.specs.declared.stop.Stop.TheVariants as stop
use Rattle.sq_binding.specs.SeenQuery.{cursor_seen, statement_seen}
use Rattle.sq_module.specs.declared.program.BoundProcedure.{BoundProcedure}
use Rattle.sq_module.specs.declared.program.DeclaredCursor.{DeclaredCursor}
use Rattle.sq_module.specs.declared.program.ProcedureName.{ProcedureName}
use Rattle.sq_module.specs.declared.program.Program.{Program}

-- a statement is bound to what is computed, or has the fault that is
abbrev pub IsComputed : Outcome NumberedStatement → Result BoundStatement Fault → Type 0
IsComputed outcome (Ok s) = outcome ≡ Ok (statement_seen s)
IsComputed outcome (Err f) = outcome ≡ Err f.rule

-- a procedure is the one of its name in the text of its module's name; the cursors that its statement names are those of the module without a
-- fault
pub record IsComputedProcedure (names : Name → UserNames) (texts : List ModuleText)
    (e : ProcedureName × BoundProcedure) : Type 0 where
  pub text : ModuleText
  pub among : IsAmong texts text
  pub named : e.0.«module» ≡ text.name
  pub procedure : Procedure
  pub is_item : IsAmong text.items (item.Procedure procedure)
  pub is_named : e.0.name ≡ procedure.name
  -- the numbers of the module's cursors
  pub number : Name → ℕ
  pub computed : IsComputed (procedure_bound (names text.authorization) number text procedure) e.1.statement

-- a cursor without a fault is bound as it is computed for the procedure that opens it
pub record IsComputedCursor (names : Name → UserNames) (texts : List ModuleText)
    (d : DeclaredCursor) : Type 0 where
  pub text : ModuleText
  pub among : IsAmong texts text
  pub named : d.«module» ≡ text.name
  pub cursor : Cursor
  pub is_item : IsAmong text.items (item.Cursor cursor)
  pub is_named : d.name ≡ cursor.name
  pub computed : cursor_bound (names text.authorization) (opener_parameters text cursor.name) cursor
      ≡ Ok (cursor_seen d.cursor)

abbrev pub AreComputedProcedures : (Name → UserNames) → List ModuleText
    → List (ProcedureName × BoundProcedure) → Type 0
AreComputedProcedures names texts procedures = AllByRecursion (IsComputedProcedure names texts) procedures

abbrev pub AreComputedCursors : (Name → UserNames) → List ModuleText → List DeclaredCursor → Type 0
AreComputedCursors names texts cursors = AllByRecursion (IsComputedCursor names texts) cursors

-- a program is computed of the texts, where names of tables mean this to each user
pub record IsProgramOf (names : Name → UserNames) (texts : List ModuleText) (p : Program) : Type 0 where
  pub procedures : AreComputedProcedures names texts p.procedures.entries
  pub cursors : AreComputedCursors names texts p.cursors.items

-- ---- what is kept of what is bound

abbrev pub as_bound : {T : Type 0} → Result T Fault → Result T Stop
as_bound (Ok x) = Ok x
as_bound (Err f) = Err (stop.Fault f)

-- the bound part, or none where it has a fault
abbrev pub IsPart : {T : Type 0} → Result T Stop → Option T → Type 0
IsPart bound (Some x) = bound ≡ Ok x
IsPart bound None = (f : Fault) × (bound ≡ Err (stop.Fault f))
