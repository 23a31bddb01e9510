-- The procedures that modules declare, that their names differ (ISO/IEC 9075:1992, 12.1 and 12.3), that what they name is there,
-- and that their cursors and statements are well formed (clause 13).
use Rattle.std.specs.Prelude.{◌≡◌, ℕ, Bool, false, ◌&&◌, List, [], ◌∷◌, ◌++◌, IfOk, flat_map, fold, length, map, slice_get, ⊤}
use Rattle.std.specs.List.{AllByRecursion, list_any}
use Rattle.indexmap.specs.IndexSet.{insert_key}
use Rattle.sq_lex.specs.declared.name.Name.{Name}
use Rattle.sq_value.specs.declared.domain.Kind.{Kind}
use Rattle.sq_bound.specs.declared.names.BaseTable.{BaseTable}
use Rattle.sq_bound.specs.Fits.{FitsCursor, FitsStatement}
use Rattle.sq_bound.specs.WellFormed.{IsCursor, IsStatement, TableKinds, kinds_of_parameters, kinds_of_results}
use Rattle.sq_bound.specs.declared.statement.BoundStatement.{BoundStatement}
use Rattle.sq_bound.specs.declared.statement.BoundStatement.TheVariants as statement
use Rattle.sq_meaning.specs.Status.{well_formed}
use Rattle.sq_meaning.specs.WellFormed.{Has}
use Rattle.sq_tree.specs.declared.module.ModuleItem.{ModuleItem}
use Rattle.sq_tree.specs.declared.module.ModuleItem.TheVariants as item
use Rattle.sq_tree.specs.declared.module.ModuleText.{ModuleText}
use Rattle.sq_meaning.specs.Environment.{same_name}
use Rattle.sq_module.specs.declared.program.BoundProcedure.{BoundProcedure}
use Rattle.sq_module.specs.declared.program.DeclaredCursor.{DeclaredCursor}
use Rattle.sq_module.specs.declared.program.ProcedureName.{ProcedureName}
use Rattle.sq_module.specs.declared.program.Program.{Program}

abbrev pub same_procedure : ProcedureName → ProcedureName → Bool
same_procedure p q = same_name p.«module» q.«module» && same_name p.name q.name

-- ---- in the order of the texts

abbrev pub name_in : ModuleItem → List Name
name_in (item.Procedure p) = p.name ∷ []
name_in (item.Cursor c) = []

-- the names of the procedures among the items of a module
abbrev pub names_in : List ModuleItem → List Name
names_in items = flat_map name_in items

abbrev pub procedure_in : Name → ModuleItem → List ProcedureName
procedure_in «module» (item.Procedure p) = record { «module» = «module»; name = p.name } ∷ []
procedure_in «module» (item.Cursor c) = []

abbrev pub module_procedures : ModuleText → List ProcedureName
module_procedures m = flat_map (procedure_in m.name) m.items

-- the procedures of all modules, each by its module's name and its own
abbrev pub declared_procedures : List ModuleText → List ProcedureName
declared_procedures modules = flat_map module_procedures modules

-- procedures behind others; of two with one name the first place counts
abbrev pub with_procedures : List ProcedureName → List ProcedureName → List ProcedureName
with_procedures before procedures = fold (insert_key same_procedure) before procedures

-- ---- names that differ

-- each of the names differs from those before it
abbrev pub AreNew : List Name → List Name → Type 0
AreNew before [] = ⊤
AreNew before (name ∷ names) = (list_any (same_name name) before ≡ false) × AreNew (before ++ name ∷ []) names

-- the modules have different names, and so have the procedures of each
abbrev pub HaveNames : List Name → List ModuleText → Type 0
HaveNames before [] = ⊤
HaveNames before (m ∷ modules) =
    (list_any (same_name m.name) before ≡ false) × AreNew [] (names_in m.items)
    × HaveNames (before ++ m.name ∷ []) modules

-- ---- what statements and cursors name is there (own notion, of bound trees)

-- each cursor fits the base tables
abbrev pub CursorsFit : List BaseTable → List DeclaredCursor → Type 0
CursorsFit bases cursors = AllByRecursion (λ c. FitsCursor bases c.cursor) cursors

-- a statement without a fault fits the base tables, the number of cursors, and the parameters of its procedure
abbrev pub FitsProcedure : List BaseTable → ℕ → BoundProcedure → Type 0
FitsProcedure bases cursors p = IfOk p.statement (λ s. FitsStatement bases cursors (length p.parameters) s)

abbrev pub ProceduresFit : List BaseTable → ℕ → List (ProcedureName × BoundProcedure) → Type 0
ProceduresFit bases cursors procedures = AllByRecursion (λ e. FitsProcedure bases cursors e.1) procedures

-- the cursors of a program fit the base tables, and its procedures those and the cursors
abbrev pub FitsProgram : List BaseTable → Program → Type 0
FitsProgram bases p =
    CursorsFit bases p.cursors.items × ProceduresFit bases (length p.cursors.items) p.procedures.entries

-- ---- cursors and statements are well formed (clause 13)

-- the kinds of each cursor's columns
abbrev pub kinds_of_cursors : List DeclaredCursor → List (List Kind)
kinds_of_cursors cursors = map (λ c. kinds_of_results c.cursor.columns) cursors

-- each cursor is well formed where a procedure with some parameters opens it
abbrev pub CursorsAreWellFormed : TableKinds → List DeclaredCursor → Type 0
CursorsAreWellFormed table_kinds cursors =
    AllByRecursion (λ c. (parameters : List Kind) × IsCursor table_kinds parameters c.cursor) cursors

-- a statement without a fault is well formed, where its procedure has these parameters and the cursors columns of these kinds
abbrev pub ProcedureIsWellFormed : TableKinds → List (List Kind) → BoundProcedure → Type 0
ProcedureIsWellFormed table_kinds cursors p =
    IfOk p.statement (IsStatement table_kinds cursors (kinds_of_parameters p.parameters))

abbrev pub ProceduresAreWellFormed : TableKinds → List (List Kind) → List (ProcedureName × BoundProcedure)
    → Type 0
ProceduresAreWellFormed table_kinds cursors procedures =
    AllByRecursion (λ e. ProcedureIsWellFormed table_kinds cursors e.1) procedures

-- an OPEN is of a cursor that is well formed where a procedure with these parameters opens it
abbrev pub OpensWellFormed : TableKinds → List DeclaredCursor → List Kind → BoundStatement → Type 0
OpensWellFormed table_kinds cursors parameters (statement.Open n) =
    Has (λ c. IsCursor table_kinds parameters c.cursor) (well_formed (slice_get cursors n))
OpensWellFormed table_kinds cursors parameters _ = ⊤

-- a procedure whose statement has no fault opens no other
abbrev pub ProcedureOpens : TableKinds → List DeclaredCursor → BoundProcedure → Type 0
ProcedureOpens table_kinds cursors p =
    IfOk p.statement (OpensWellFormed table_kinds cursors (kinds_of_parameters p.parameters))

abbrev pub ProceduresOpen : TableKinds → List DeclaredCursor → List (ProcedureName × BoundProcedure) → Type 0
ProceduresOpen table_kinds cursors procedures =
    AllByRecursion (λ e. ProcedureOpens table_kinds cursors e.1) procedures

-- the cursors of a program are well formed, and so are its procedures beside them, those that open them included
abbrev pub ProgramIsWellFormed : TableKinds → Program → Type 0
ProgramIsWellFormed table_kinds p =
    CursorsAreWellFormed table_kinds p.cursors.items
    × ProceduresAreWellFormed table_kinds (kinds_of_cursors p.cursors.items) p.procedures.entries
    × ProceduresOpen table_kinds p.cursors.items p.procedures.entries
