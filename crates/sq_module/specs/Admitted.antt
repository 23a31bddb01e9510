-- The procedures of modules that are not refused (ISO/IEC 9075:1992, 12.1), and the cursors that they open.
use Rattle.std.specs.Prelude.{◌≡◌, ⊤, false, List, [], ◌∷◌, ◌++◌, Option, count_by, flat_map, map}
use Rattle.std.specs.Borrow.{Bor}
use Rattle.std.specs.List.{AllByRecursion, list_any}
use Rattle.sq_lex.specs.declared.name.Name.{Name}
use Rattle.sq_tree.specs.declared.module.Cursor.{Cursor}
use Rattle.sq_tree.specs.declared.module.ModuleItem.{ModuleItem}
use Rattle.sq_tree.specs.declared.module.ModuleItem.TheVariants as item
use Rattle.sq_tree.specs.declared.module.Procedure.{Procedure}
use Rattle.sq_meaning.specs.Environment.{same_name}
use Rattle.sq_module.specs.Refusal.{is_some_name, opened_by}
use Rattle.sq_module.specs.declared.admission.AdmittedModule.{AdmittedModule}
use Rattle.sq_module.specs.declared.admission.AdmittedProcedure.{AdmittedProcedure}
use Rattle.sq_module.specs.declared.program.ProcedureName.{ProcedureName}

abbrev pub procedure_names : List AdmittedProcedure → List Name
procedure_names procedures = map (λ p. p.procedure.now.name) procedures

-- procedures as they are written
abbrev pub admitted_written : List AdmittedProcedure → List Procedure
admitted_written procedures = map (λ p. p.procedure.now) procedures

abbrev pub cursors_written : List (Name × Bor Cursor) → List Cursor
cursors_written cursors = map (λ e. e.1.now) cursors

abbrev pub name_of : Name → AdmittedProcedure → ProcedureName
name_of «module» p = record { «module» = «module»; name = p.procedure.now.name }

abbrev pub module_keys : AdmittedModule → List ProcedureName
module_keys m = map (name_of m.name) m.procedures.items

-- the procedures of all modules, each by its module's name and its own
abbrev pub admitted_procedures : List AdmittedModule → List ProcedureName
admitted_procedures modules = flat_map module_keys modules

-- ---- the cursors that procedures open

abbrev pub opened_of : AdmittedProcedure → Option Name
opened_of p = opened_by p.procedure.now.statement

abbrev pub openings : List AdmittedProcedure → List (Option Name)
openings procedures = map opened_of procedures

abbrev pub opening_in : ModuleItem → List (Option Name)
opening_in (item.Procedure p) = opened_by p.statement ∷ []
opening_in (item.Cursor c) = []

-- exactly one procedure of a module opens each of its cursors
abbrev pub OpensEachOnce : AdmittedModule → Type 0
OpensEachOnce a =
    AllByRecursion (λ e. count_by (is_some_name e.0) (openings a.procedures.items) ≡ 1) a.cursors.entries

-- the names of the modules differ from these and from one another, and each of their cursors is opened once
abbrev pub AreAdmitted : List Name → List AdmittedModule → Type 0
AreAdmitted before [] = ⊤
AreAdmitted before (a ∷ modules) =
    (list_any (same_name a.name) before ≡ false) × OpensEachOnce a
    × AreAdmitted (before ++ a.name ∷ []) modules
