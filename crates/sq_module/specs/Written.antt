-- That what is admitted and bound is what the module texts say (ISO/IEC 9075:1992, 12.1, 12.3 and 13.1).
use Rattle.std.specs.Prelude.{◌≡◌, ⊤, ℕ, Bool, false, ◌&&◌, List, [], ◌∷◌, ◌++◌, Option, Some, IfOk, flat_map, map, slice_get}
use Rattle.std.specs.Borrow.{Bor}
use Rattle.std.specs.List.{AllByRecursion, IsAmong, list_any}
use Rattle.sq_bound.specs.Known.{KnownTables}
use Rattle.sq_lex.specs.declared.name.Name.{Name}
use Rattle.sq_value.specs.declared.domain.Domain.{Domain}
use Rattle.sq_tree.specs.declared.module.Cursor.{Cursor}
use Rattle.sq_tree.specs.declared.module.Declaration.{Declaration}
use Rattle.sq_tree.specs.declared.module.Declaration.TheVariants as declaration
use Rattle.sq_tree.specs.declared.module.ModuleItem.{ModuleItem}
use Rattle.sq_tree.specs.declared.module.ModuleItem.TheVariants as item
use Rattle.sq_tree.specs.declared.module.ModuleText.{ModuleText}
use Rattle.sq_tree.specs.declared.module.Procedure.{Procedure}
use Rattle.sq_tree.specs.declared.statement.Statement.{Statement}
use Rattle.sq_tree.specs.declared.statement.Statement.TheVariants as tree
use Rattle.sq_meaning.specs.Environment.{same_name}
use Rattle.sq_meaning.specs.Spelled.{domain_of}
use Rattle.sq_meaning.specs.Status.{well_formed}
use Rattle.sq_meaning.specs.WellFormed.{Has}
use Rattle.sq_bound.specs.declared.names.ParameterDesc.{ParameterDesc}
use Rattle.sq_bound.specs.declared.statement.BoundStatement.{BoundStatement}
use Rattle.sq_binding.specs.Written.{IsCursorOf, IsStatementOf}
use Rattle.sq_meaning.specs.Module as rules
use Rattle.sq_meaning.specs.Module.{declarations_of}
use Rattle.sq_module.specs.Admitted.{admitted_written, cursors_written}
use Rattle.sq_module.specs.declared.program.BoundProcedure.{BoundProcedure}
use Rattle.sq_module.specs.declared.program.DeclaredCursor.{DeclaredCursor}
use Rattle.sq_module.specs.declared.program.ProcedureName.{ProcedureName}
use Rattle.sq_module.specs.declared.program.Program.{Program}
use Rattle.sq_module.specs.declared.admission.AdmittedModule.{AdmittedModule}
use Rattle.sq_module.specs.declared.admission.AdmittedProcedure.{AdmittedProcedure}

-- ---- parameters (12.3)

-- the name of the parameter that is declared, and the domain of its data type, if it has one
abbrev pub named_in : Declaration → List (Name × Option Domain)
named_in (declaration.Parameter name data_type) = (name, domain_of data_type) ∷ []
named_in declaration.Sqlcode = []
named_in declaration.Sqlstate = []

abbrev pub named_as : ParameterDesc → Name × Option Domain
named_as p = (p.name, Some p.domain)

-- the named parameters are those that are declared, in their order, each of the domain of its data type
abbrev pub Declare : List Declaration → List ParameterDesc → Type 0
Declare ds parameters = map named_as parameters ≡ flat_map named_in ds

-- ---- modules

-- a procedure is one of these items, and its parameters are those that it declares
abbrev pub IsProcedureOf : List ModuleItem → AdmittedProcedure → Type 0
IsProcedureOf items p =
    IsAmong items (item.Procedure p.procedure.now)
    × Declare (declarations_of p.procedure.now.declarations) p.parameters

-- a cursor is one of these items, and stands under its name
abbrev pub IsCursorIn : List ModuleItem → Name × Bor Cursor → Type 0
IsCursorIn items e = IsAmong items (item.Cursor e.1.now) × (e.0 ≡ e.1.now.name)

-- a module that is not refused is that of a text: its name, its user, its cursors and its procedures, each in the order of the text
pub record IsOfText (m : ModuleText) (a : AdmittedModule) : Type 0 where
  pub name : a.name ≡ m.name
  pub user : a.user ≡ m.authorization
  pub cursors : AllByRecursion (IsCursorIn m.items) a.cursors.entries
  pub procedures : AllByRecursion (IsProcedureOf m.items) a.procedures.items
  pub all_cursors : cursors_written a.cursors.entries ≡ rules.cursors m
  pub all_procedures : admitted_written a.procedures.items ≡ rules.procedures m

-- each of the modules is of one of the texts
abbrev pub AreOfTexts : List ModuleText → List AdmittedModule → Type 0
AreOfTexts texts admitted = AllByRecursion (λ a. (m : ModuleText) × IsAmong texts m × IsOfText m a) admitted

-- ---- what is bound

-- a procedure of the module opens the cursor of this name, with these parameters
pub record IsOpenedIn (m : ModuleText) (name : Name) (parameters : List ParameterDesc) : Type 0 where
  pub procedure : Procedure
  pub is_item : IsAmong m.items (item.Procedure procedure)
  pub opens : procedure.statement ≡ tree.Open name
  pub declares : Declare (declarations_of procedure.declarations) parameters

-- a cursor is bound from this one of the module: it has the module's name and user, its name there, and the rows of its query for the
-- parameters of the procedure that opens it
pub record IsDeclaredFrom (names : KnownTables) (m : ModuleText) (c : Cursor)
    (declared : DeclaredCursor) : Type 0 where
  pub of_module : declared.«module» ≡ m.name
  pub named : declared.name ≡ c.name
  pub user : declared.user ≡ m.authorization
  pub parameters : List ParameterDesc
  pub opened : IsOpenedIn m c.name parameters
  pub cursor : IsCursorOf names m.authorization parameters c declared.cursor

-- the cursor with this number is the one that the module declares under this name
pub record IsNumberOf (names : KnownTables) (m : ModuleText) (cursors : List DeclaredCursor) (name : Name)
    (number : ℕ) : Type 0 where
  pub cursor : Cursor
  pub among : IsAmong m.items (item.Cursor cursor)
  pub named : cursor.name ≡ name
  pub bound : Has (IsDeclaredFrom names m cursor) (well_formed (slice_get cursors number))

-- the cursor is the one of this name in the module
abbrev pub is_cursor : Name → Name → DeclaredCursor → Bool
is_cursor «module» name c = same_name «module» c.«module» && same_name name c.name

-- each cursor differs in its module or its name from these and from those before it
abbrev pub AreApart : List DeclaredCursor → List DeclaredCursor → Type 0
AreApart before [] = ⊤
AreApart before (c ∷ cursors) =
    (list_any (is_cursor c.«module» c.name) before ≡ false) × AreApart (before ++ c ∷ []) cursors

-- a statement is bound from this one of a procedure with these parameters in the module
abbrev pub IsStatementIn : KnownTables → ModuleText → List DeclaredCursor → List ParameterDesc → Statement
    → BoundStatement → Type 0
IsStatementIn names m cursors parameters s bound =
    IsStatementOf names (IsNumberOf names m cursors) m.authorization parameters s bound

-- a procedure is bound from this one of the module: its parameters are those that it declares, and its statement, if it has no fault,
-- is the one that is written
pub record IsBoundFrom (names : KnownTables) (m : ModuleText) (cursors : List DeclaredCursor) (p : Procedure)
    (bound : BoundProcedure) : Type 0 where
  pub user : bound.user ≡ m.authorization
  pub parameters : Declare (declarations_of p.declarations) bound.parameters
  pub statement : IfOk bound.statement (IsStatementIn names m cursors bound.parameters p.statement)

-- a procedure of a program is bound from the one of its name in the text of its module's name
pub record IsFromTexts (names : KnownTables) (texts : List ModuleText) (cursors : List DeclaredCursor)
    (e : ProcedureName × BoundProcedure) : Type 0 where
  pub text : ModuleText
  pub among : IsAmong texts text
  pub named : e.0.«module» ≡ text.name
  pub procedure : Procedure
  pub is_item : IsAmong text.items (item.Procedure procedure)
  pub is_named : e.0.name ≡ procedure.name
  pub bound : IsBoundFrom names text cursors procedure e.1

abbrev pub AreFromTexts : KnownTables → List ModuleText → List DeclaredCursor
    → List (ProcedureName × BoundProcedure) → Type 0
AreFromTexts names texts cursors procedures = AllByRecursion (IsFromTexts names texts cursors) procedures

-- each procedure of a program is of one of the texts
abbrev pub AreFrom : KnownTables → List ModuleText → Program → Type 0
AreFrom names texts p = AreFromTexts names texts p.cursors.items p.procedures.entries

-- a program is of the texts: each procedure is of one of them, and no two cursors have the same module and name
pub record IsOfTexts (names : KnownTables) (texts : List ModuleText) (p : Program) : Type 0 where
  pub procedures : AreFrom names texts p
  pub cursors : AreApart [] p.cursors.items

-- ---- while a module is bound

-- the numbers so far are those of cursors of the module
abbrev pub AreNumbers : KnownTables → ModuleText → List DeclaredCursor → List (Name × ℕ) → Type 0
AreNumbers names m cursors numbers = AllByRecursion (λ e. IsNumberOf names m cursors e.0 e.1) numbers
