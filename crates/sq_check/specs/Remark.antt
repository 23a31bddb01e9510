-- The remarks on the procedures, cursors and views of texts (ISO/IEC 9075:1992, 11.19 and clause 13).
use Rattle.std.specs.Prelude.{◌≡◌, Bool, if◌then◌else◌, List, [], Option, Some, None, IfSome, is_some, Result, Ok, Err}
use Rattle.std.specs.List.{IsAmong}
use Rattle.std.specs.Map.{lookup}
use Rattle.std.specs.Option.{option_and_then}
use Rattle.sq_lex.specs.declared.name.Name.{Name}
use Rattle.sq_tree.specs.declared.cond.QuerySpecification.{QuerySpecification}
use Rattle.sq_tree.specs.declared.module.Cursor.{Cursor}
use Rattle.sq_tree.specs.declared.module.ModuleItem.{ModuleItem}
use Rattle.sq_tree.specs.declared.module.ModuleItem.TheVariants as item
use Rattle.sq_tree.specs.declared.module.ModuleText.{ModuleText}
use Rattle.sq_tree.specs.declared.module.Procedure.{Procedure}
use Rattle.sq_tree.specs.declared.statement.Statement.TheVariants as statement
use Rattle.sq_meaning.specs.Words.{is_some_and}
use Rattle.sq_bound.specs.Known.{KnownTable}
use Rattle.sq_bound.specs.WellFormed.{IsCursor, kinds_of_parameters}
use Rattle.sq_bound.specs.declared.names.ParameterDesc.{ParameterDesc}
use Rattle.sq_bound.specs.declared.query.BoundCursor.{BoundCursor}
use Rattle.sq_bound.specs.declared.query.CursorBody.{CursorBody}
use Rattle.sq_bound.specs.declared.query.CursorBody.TheVariants as body
use Rattle.sq_bound.specs.declared.statement.BoundStatement.{BoundStatement}
use Rattle.sq_binding.specs.Cursor.{cursor_bound}
use Rattle.sq_binder.specs.declared.stop.Fault.{Fault as Broken}
use Rattle.sq_binding.specs.Names.{declared}
use Rattle.sq_binding.specs.Written.{IsCursorOf}
use Rattle.sq_catalog.specs.Catalog.{Catalog, column_kinds, known}
use Rattle.sq_catalog.specs.UserTables.{names_in}
use Rattle.sq_module.specs.Program.{same_procedure}
use Rattle.sq_module.specs.declared.program.BoundProcedure.{BoundProcedure}
use Rattle.sq_module.specs.declared.program.ProcedureName.{ProcedureName}
use Rattle.sq_module.specs.declared.program.Program.{Program}
use Rattle.sq_check.specs.Rule.{IsRuleOf, query_rule}
use Rattle.sq_check.specs.declared.rule.Rule.{Rule}
use Rattle.sq_check.specs.declared.remark.Remark.{Remark}
use Rattle.sq_check.specs.declared.remark.Remark.TheVariants.{Fault, Updatable, NotUpdatable}

-- ---- procedures

abbrev pub named : Name → Name → ProcedureName
named «module» name = record { «module» = «module»; name = name }

-- the procedure of this module and name in a program
abbrev pub procedure_of : Program → Name → Name → Option BoundProcedure
procedure_of p «module» name = lookup (same_procedure (named «module» name)) p.procedures.entries

-- a bound statement has no remark
abbrev pub statement_remark : Result BoundStatement Broken → Option Remark
statement_remark (Ok s) = None
statement_remark (Err fault) = Some (Fault fault)

abbrev pub procedure_remark : Program → Name → Name → Option Remark
procedure_remark p «module» name =
    option_and_then (λ b. statement_remark b.statement) (procedure_of p «module» name)

-- ---- cursors

-- a procedure of the module opens the cursor of this name, and is bound so in the program
pub record IsOpener (p : Program) (m : ModuleText) (cursor : Name) (bound : BoundProcedure) : Type 0 where
  pub procedure : Procedure
  pub is_item : IsAmong m.items (item.Procedure procedure)
  pub opens : procedure.statement ≡ statement.Open cursor
  pub is_bound : procedure_of p m.name procedure.name ≡ Some bound

abbrev pub parameters_of : Option BoundProcedure → List ParameterDesc
parameters_of None = []
parameters_of (Some bound) = bound.parameters

-- the parameters of a procedure that opens the cursor; a module that is not refused has one
pub record AreParametersFor (p : Program) (m : ModuleText) (cursor : Name)
    (parameters : List ParameterDesc) : Type 0 where
  pub opener : Option BoundProcedure
  pub opens : IfSome opener (IsOpener p m cursor)
  pub are : parameters ≡ parameters_of opener

-- the remark on a cursor with this body
abbrev pub IsOfBody : Cursor → CursorBody → Remark → Type 0
IsOfBody c (body.Updatable query) remark = remark ≡ Updatable
IsOfBody c (body.Rows query order) remark = (rule : Rule) × IsRuleOf c rule × (remark ≡ NotUpdatable rule)

-- A remark is the cursor's fault, as the definitions find it. Or it says the cursor's body, which is bound as it is written and well
-- formed.
abbrev pub IsOfResult : Catalog → Name → List ParameterDesc → Cursor → Remark → Result BoundCursor Broken
    → Type 0
IsOfResult catalog user parameters c remark (Err fault) =
    (remark ≡ Fault fault) × (cursor_bound (names_in catalog user) (declared parameters) c ≡ Err fault.rule)
IsOfResult catalog user parameters c remark (Ok bound) =
    IsCursorOf (known catalog) user parameters c bound
    × IsCursor (column_kinds catalog) (kinds_of_parameters parameters) bound
    × IsOfBody c bound.body remark

abbrev pub IsRemarkWith : Catalog → Name → List ParameterDesc → Cursor → Remark → Type 0
IsRemarkWith catalog user parameters c remark =
    (bound : Result BoundCursor Broken) × IsOfResult catalog user parameters c remark bound

-- the remark on a cursor, for the parameters of the procedure that opens it
pub record IsCursorRemark (catalog : Catalog) (p : Program) (m : ModuleText) (c : Cursor)
    (remark : Remark) : Type 0 where
  pub parameters : List ParameterDesc
  pub opened : AreParametersFor p m c.name parameters
  pub is : IsRemarkWith catalog m.authorization parameters c remark

-- ---- items of modules

-- The fault of a procedure is the one that it has in the program. Of each cursor something is said.
abbrev pub IsItemRemark : Catalog → Program → ModuleText → ModuleItem → Option Remark → Type 0
IsItemRemark catalog p m (item.Procedure procedure) remark = remark ≡ procedure_remark p m.name procedure.name
IsItemRemark catalog p m (item.Cursor c) remark =
    (r : Remark) × (remark ≡ Some r) × IsCursorRemark catalog p m c r

-- ---- views

abbrev pub is_updatable : Option KnownTable → Bool
is_updatable t = is_some_and (λ k. is_some k.under) t

-- a view is updatable if its name means a table that may be changed
abbrev pub view_remark : Option KnownTable → QuerySpecification → Remark
view_remark t q = if is_updatable t then Updatable else NotUpdatable (query_rule q)
