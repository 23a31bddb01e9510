-- Modules, their cursors and procedures, and the declarations of parameters (ISO/IEC 9075:1992, 12.1 to 12.3 and 13.1).
use Rattle.std.specs.Prelude.{ℕ, Bool, true, false, List, ◌∷◌, map, count_by, find, filter_map, Option, option_map, Some, None}
use Rattle.sq_lex.specs.declared.name.Name.{Name}
use Rattle.sq_tree.specs.declared.data_type.DataType.{DataType}
use Rattle.sq_tree.specs.declared.module.Cursor.{Cursor}
use Rattle.sq_tree.specs.declared.module.Declaration.{Declaration}
use Rattle.sq_tree.specs.declared.module.Declaration.TheVariants as declaration
use Rattle.sq_tree.specs.declared.module.Declarations.{Declarations}
use Rattle.sq_tree.specs.declared.module.Declarations.TheVariants as declarations
use Rattle.sq_tree.specs.declared.module.ModuleItem.{ModuleItem}
use Rattle.sq_tree.specs.declared.module.ModuleItem.TheVariants as item
use Rattle.sq_tree.specs.declared.module.ModuleText.{ModuleText}
use Rattle.sq_tree.specs.declared.module.Procedure.{Procedure}
use Rattle.sq_tree.specs.declared.statement.Statement.{Statement}
use Rattle.sq_tree.specs.declared.statement.Statement.TheVariants as statement
use Rattle.sq_meaning.specs.Environment.{same_name}
use Rattle.sq_meaning.specs.Spelled.{domain_of, listed}
use Rattle.sq_meaning.specs.Tables.{Declared}

abbrev pub cursor_in : ModuleItem → Option Cursor
cursor_in (item.Cursor c) = Some c
cursor_in (item.Procedure p) = None

abbrev pub procedure_in : ModuleItem → Option Procedure
procedure_in (item.Cursor c) = None
procedure_in (item.Procedure p) = Some p

abbrev pub cursors : ModuleText → List Cursor
cursors m = filter_map cursor_in m.items

abbrev pub procedures : ModuleText → List Procedure
procedures m = filter_map procedure_in m.items

abbrev pub module_named : List ModuleText → Name → Option ModuleText
module_named modules name = find (λ m. same_name m.name name) modules

abbrev pub procedure_named : ModuleText → Name → Option Procedure
procedure_named m name = find (λ p. same_name p.name name) (procedures m)

abbrev pub cursor_named : ModuleText → Name → Option Cursor
cursor_named m name = find (λ c. same_name c.name name) (cursors m)

-- ---- parameters

abbrev pub declarations_of : Declarations → List Declaration
declarations_of (declarations.Bracketed list) = listed list
declarations_of (declarations.Bare first rest) = first ∷ map (λ d. d.declaration) rest

-- a named parameter, as its declaration spells it
pub record ParameterDeclaration : Type 0 where
  pub name : Name
  pub data_type : DataType

abbrev pub declared_in : Declaration → Option ParameterDeclaration
declared_in (declaration.Parameter name data_type) = Some (record { name = name; data_type = data_type })
declared_in _ = None

-- the named parameters, in order of declaration
abbrev pub parameter_declarations : Procedure → List ParameterDeclaration
parameter_declarations p = filter_map declared_in (declarations_of p.declarations)

abbrev pub declared_by : ParameterDeclaration → Option Declared
declared_by d = option_map (λ domain. record { name = d.name; domain = domain }) (domain_of d.data_type)

-- the named parameters with their domains; in a module that is not refused each has one
abbrev pub declared_parameters : Procedure → List Declared
declared_parameters p = filter_map declared_by (parameter_declarations p)

abbrev pub is_sqlcode : Declaration → Bool
is_sqlcode declaration.Sqlcode = true
is_sqlcode _ = false

abbrev pub is_sqlstate : Declaration → Bool
is_sqlstate declaration.Sqlstate = true
is_sqlstate _ = false

-- ---- the cursor that a statement opens

abbrev pub opens : Name → Statement → Bool
opens cursor (statement.Open name) = same_name name cursor
opens cursor _ = false

-- the procedures whose statement opens a cursor
abbrev pub opener_count : ModuleText → Name → ℕ
opener_count m cursor = count_by (λ p. opens cursor p.statement) (procedures m)
