-- What a session that texts opened knows, and that its program is bound exactly.
use Rattle.std.proofs.Common.{◌≡◌, ℕ, List, Some, None}
use Rattle.std.specs.Prelude.{is_ok, slice_get}
use Rattle.sq_tree.specs.declared.«module».Cursor.{Cursor}
use Rattle.sq_tree.specs.declared.«module».ModuleText.{ModuleText}
use Rattle.sq_tree.specs.declared.«module».Procedure.{Procedure}
use Rattle.sq_tree.specs.declared.schema.SchemaText.{SchemaText}
use Rattle.sq_meaning.specs.Tables.{Declared}
use Rattle.sq_meaning.specs.Module.{cursor_named, module_named, procedure_named}
use Rattle.sq_meaning.specs.ModuleRefusal.{first_module_refusal}
use Rattle.sq_meaning.specs.SchemaRefusal.{elements_of, first_schema_refusal}
use Rattle.sq_meaning.specs.WellFormedStatement.{is_well_formed_procedure, updatable_cursor}
use Rattle.sq_bound.specs.Known.{KnownTables}
use Rattle.sq_catalog.specs.Declares.{Declares}
use Rattle.sq_module.specs.Program.{FitsProgram, ProgramIsWellFormed}
use Rattle.sq_module.specs.Written.{IsOfTexts}
use Rattle.sq_module.specs.declared.program.BoundProcedure.{BoundProcedure}
use Rattle.sq_module.specs.declared.program.DeclaredCursor.{DeclaredCursor}
use Rattle.sq_module.specs.declared.program.ProcedureName.{ProcedureName}
use Rattle.sq_module.specs.declared.program.Program.{Program}
use Rattle.sq_session.specs.Schemas.{Schemas, columns_of}
use Rattle.sq_run.proofs.OpenCursors.CursorOpens.{IsUpdatableAs}

-- What a session knows: modules that the definitions do not refuse, what the catalog declares, and a
-- program that is bound as it is written, well formed, over base tables and cursors that are there.
pub record IsOpenedFrom (texts : List SchemaText) (modules : List ModuleText) (known : KnownTables) (schemas : Schemas) (program : Program) : Type 0 where
  pub declares : Declares texts known schemas.bases schemas.views
  pub admitted : first_module_refusal modules ≡ None
  pub is_of : IsOfTexts known modules program
  pub fits : FitsProgram schemas.bases program
  pub well_formed : ProgramIsWellFormed (columns_of schemas) program

-- A declared cursor is the one of its name in its module, and is updatable exactly where the
-- definitions say (7.9, 13.1).
pub record IsCursorExactly (texts : List SchemaText) (modules : List ModuleText) (d : DeclaredCursor) : Type 0 where
  pub text : ModuleText
  pub is_text : module_named modules d.«module» ≡ Some text
  pub cursor : Cursor
  pub is_cursor : cursor_named text d.name ≡ Some cursor
  pub updatable : (parameters : List Declared)
      → IsUpdatableAs d.cursor.body (updatable_cursor (record { elements = elements_of texts; in_module = text; parameters = parameters }) cursor)

-- A procedure is the one of its name in its module, and its statement is bound exactly where the
-- definitions find no fault in it (clause 13).
pub record IsProcedureExactly (texts : List SchemaText) (modules : List ModuleText) (e : ProcedureName × BoundProcedure) : Type 0 where
  pub text : ModuleText
  pub is_text : module_named modules e.0.«module» ≡ Some text
  pub procedure : Procedure
  pub is_procedure : procedure_named text e.0.name ≡ Some procedure
  pub accepted : is_ok e.1.statement ≡ is_well_formed_procedure (elements_of texts) text procedure

-- No schema is refused by the definitions, and each procedure and each cursor is bound exactly.
pub record IsBoundExactly (texts : List SchemaText) (modules : List ModuleText) (program : Program) : Type 0 where
  pub accepted : first_schema_refusal texts ≡ None
  pub procedures : (i : ℕ) (e : ProcedureName × BoundProcedure) → slice_get program.procedures.entries i ≡ Some e → IsProcedureExactly texts modules e
  pub cursors : (n : ℕ) (d : DeclaredCursor) → slice_get program.cursors.items n ≡ Some d → IsCursorExactly texts modules d
